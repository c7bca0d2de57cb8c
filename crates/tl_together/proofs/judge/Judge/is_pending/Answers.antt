use Rattle.std.proofs.Common.{length, refl}
use Rattle.tl_together.proofs.judge.Judge.is_pending.Goals as goal

pub returns : goal.returns
returns g c = λ levels may t k. c.is_pending.ensures (length levels) t (k.open_knows refl).memory_is
