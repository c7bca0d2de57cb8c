use Rattle.std.proofs.Common.{◌≡◌, ◌<◌, ◌++◌, ◌∷◌, [], length, length-append, rules, arith, None}
use Rattle.tl_commit_lines.specs.code.HeadReading.{marked_at}
use Rattle.tl_params.proofs.UpTo.{all-read, next-is, none-is, too_many}
use Rattle.tl_commit_lines.proofs.header.links.Goals as goal

pub returns-in_err-link : goal.returns-in_err-link
returns-in_err-link c =
    let none : c.from_residual.result ≡ None = search rules in
    rw none (none-is marked_at _ _ _ _ c.loop-rest.invariant.few c.loop-rest.invariant.same (search rules)
    c.in_err-link.ensures)

pub returns-then-is_err : goal.returns-then-is_err
returns-then-is_err c = too_many marked_at _ _ _ _ c.loop-rest.invariant.few c.loop-rest.invariant.same (search rules)
    (search rules)

pub loop-rest-preserved : goal.loop-rest-preserved
loop-rest-preserved c =
    let done = c.loop-rest.links.items in
    let pushed : c.try_push.new.self.items ≡ done ++ c.in_ok-link.link ∷ [] = search rules in
    let room : length done < 16 = search rules in
    rw pushed (record {
      few = omega (arith, length-append done (c.in_ok-link.link ∷ []));
      same = next-is marked_at _ _ _ _ c.loop-rest.invariant.few c.loop-rest.invariant.same _ _ (search rules)
          c.in_ok-link.ensures room;
    })

pub returns : goal.returns
returns c = all-read marked_at _ _ _ _ c.loop-rest.invariant.few c.loop-rest.invariant.same (search rules)
