use Rattle.std.proofs.Common.{refl, rules}
use Rattle.tl_together.proofs.Judging.{new_knows}
use Rattle.tl_together.proofs.judge.Judge.with_liberties.Goals as goal

pub returns : goal.returns
returns g c = (
  c.in-Ok.ensures.0,
  new_knows _ c.args.levels.now c.args.liberties refl refl refl
      (record { knows = c.in-Ok.ensures.1; kept = tt }) (search rules) c.new-2.ensures
      c.in-Ok-new.ensures,
)
