use Rattle.std.proofs.Common.{◌≡◌, ◌<◌, ◌++◌, ◌∷◌, [], length, length-append, rules, arith, None}
use Rattle.tl_params.proofs.UpTo.{all-read, next-is, none-is, too_many}
use Rattle.tl_schedule.specs.code.HeaderReading.{client_at}
use Rattle.tl_schedule.proofs.header.clients.Goals as goal

pub returns-in_err-client : goal.returns-in_err-client
returns-in_err-client c =
    let none : c.from_residual.result ≡ None = search rules in
    rw none (none-is client_at _ _ _ _ c.loop-rest.invariant.few c.loop-rest.invariant.same (search rules)
    (search rules))

pub returns-then-is_err : goal.returns-then-is_err
returns-then-is_err c = too_many client_at _ _ _ _ c.loop-rest.invariant.few c.loop-rest.invariant.same (search rules)
    (search rules)

pub loop-rest-preserved : goal.loop-rest-preserved
loop-rest-preserved c =
    let done = c.loop-rest.clients.items in
    let pushed : c.try_push.new.self.items ≡ done ++ c.in_ok-client.client ∷ [] = search rules in
    let room : length done < 16 = search rules in
    rw pushed (record {
      few = omega (arith, length-append done (c.in_ok-client.client ∷ []));
      same = next-is client_at _ _ _ _ c.loop-rest.invariant.few c.loop-rest.invariant.same _ _ (search rules)
          (search rules) room;
    })

pub returns : goal.returns
returns c = all-read client_at _ _ _ _ c.loop-rest.invariant.few c.loop-rest.invariant.same (search rules)
