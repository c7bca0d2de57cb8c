use Rattle.std.proofs.Common.{◌≡◌, ◌<◌, ◌++◌, ◌∷◌, [], length, length-append, rules, arith, None}
use Rattle.tl_params.specs.code.HeaderReading.{level_at}
use Rattle.tl_params.proofs.Headers.{level_read, level_unread}
use Rattle.tl_params.proofs.UpTo.{all-read, next-is, none-is, too_many}
use Rattle.tl_lines.proofs.header.levels.Goals as goal

pub returns-in_err-level : goal.returns-in_err-level
returns-in_err-level c =
    let none : c.from_residual.result ≡ None = search rules in
    rw none (none-is level_at _ _ _ _ c.loop-rest.invariant.few c.loop-rest.invariant.same (search rules)
    (level_unread _ c.in_err-level.ensures))

pub returns-then-is_err : goal.returns-then-is_err
returns-then-is_err c = too_many level_at _ _ _ _ c.loop-rest.invariant.few c.loop-rest.invariant.same (search rules)
    (search rules)

pub loop-rest-preserved : goal.loop-rest-preserved
loop-rest-preserved c =
    let done = c.loop-rest.levels.items in
    let pushed : c.try_push.new.self.items ≡ done ++ c.in_ok-level.level ∷ [] = search rules in
    let room : length done < 16 = search rules in
    rw pushed (record {
      few = omega (arith, length-append done (c.in_ok-level.level ∷ []));
      same = next-is level_at _ _ _ _ c.loop-rest.invariant.few c.loop-rest.invariant.same _ _ (search rules)
          (level_read _ _ _ c.in_ok-level.ensures) room;
    })

pub returns : goal.returns
returns c = all-read level_at _ _ _ _ c.loop-rest.invariant.few c.loop-rest.invariant.same (search rules)
