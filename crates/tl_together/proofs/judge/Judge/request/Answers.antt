use Rattle.std.proofs.Common.{refl}
use Rattle.tl_together.proofs.judge.Judge.request.Goals as goal

pub returns : goal.returns
returns g c = λ levels may t k. c.request.ensures.under levels may t _ (k.open_knows refl).monitor_is.knows
