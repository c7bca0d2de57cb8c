use Rattle.std.proofs.Common.{◌≡◌, ◌∷◌, ◌++◌, ◌+◌, ◌-◌, [], length-append, arith, rules}
use Rattle.std.proofs.Common.{None}
use Rattle.tl_command.proofs.ClientWords.{last_client, next_client, no_client, no_comma, no_place, one_place}
use Rattle.tl_command.proofs.clients.clients.Goals as goal

pub returns-in_err-client : goal.returns-in_err-client
returns-in_err-client c =
    let none : c.from_residual.result ≡ None = search rules in
    rw none (no_client (16 - (c.loop.counter + 1)) _ _ _
    (one_place _ _ _ c.loop.counter (search rules) c.loop.invariant.same)
    (search rules))

pub returns-then-is_empty : goal.returns-then-is_empty
returns-then-is_empty c =
    let pushed : c.try_push.new.self.items ≡ c.loop.clients.items ++ c.in_ok-client.client ∷ [] = search rules in
    rw pushed (last_client (16 - (c.loop.counter + 1)) _ _ _
    (one_place _ _ _ c.loop.counter (search rules) c.loop.invariant.same) c.in_ok-client.client c.in_ok-client.after.now
    (search rules)
    (search rules))

pub returns-in_err-rest : goal.returns-in_err-rest
returns-in_err-rest c =
    let none : c.from_residual-in_err-rest.result ≡ None = search rules in
    rw none (no_comma (16 - (c.loop.counter + 1)) _ _ _
    (one_place _ _ _ c.loop.counter (search rules) c.loop.invariant.same) c.in_ok-client.client c.in_ok-client.after.now
    (search rules) (search rules) (search rules))

pub loop-preserved : goal.loop-preserved
loop-preserved c =
    let pushed : c.try_push.new.self.items ≡ c.loop.clients.items ++ c.in_ok-client.client ∷ [] = search rules in
    rw pushed (record {
      many = omega (arith, length-append c.loop.clients.items (c.in_ok-client.client ∷ []), c.loop.invariant.many);
      same = next_client (16 - (c.loop.counter + 1)) _ _ _
          (one_place _ _ _ c.loop.counter (search rules) c.loop.invariant.same) c.in_ok-client.client
          c.in_ok-client.after.now (search rules)
          c.in_ok-rest.rest.now (search rules);
    })

pub returns : goal.returns
returns c = no_place _ _ _ (16 - c.loop.counter) (omega arith) c.loop.invariant.same
