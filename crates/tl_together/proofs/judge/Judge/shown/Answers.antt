use Rattle.std.proofs.Common.{refl}
use Rattle.tl_together.proofs.judge.Judge.shown.Goals as goal

pub returns : goal.returns
returns g c = λ levels may t k lt. c.shown_by.ensures.shown levels may t (k.open_knows refl).monitor_is lt
