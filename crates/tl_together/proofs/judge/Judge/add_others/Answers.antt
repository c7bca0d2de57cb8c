use Rattle.std.proofs.Common.{length, refl}
use Rattle.tl_together.proofs.judge.Judge.add_others.Goals as goal

pub returns : goal.returns
returns g c = λ levels may t k. c.add_others.ensures (length levels) t (k.open_knows refl).memory_is
