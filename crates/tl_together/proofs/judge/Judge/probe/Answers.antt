use Rattle.std.proofs.Common.{refl}
use Rattle.tl_together.proofs.judge.Judge.probe.Goals as goal

pub returns : goal.returns
returns g c = λ levels may t k. c.probe.ensures.under levels may t _ (k.open_knows refl).monitor_is.knows
