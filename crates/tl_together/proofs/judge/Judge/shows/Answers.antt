use Rattle.std.proofs.Common.{refl}
use Rattle.tl_together.proofs.judge.Judge.shows.Goals as goal

pub returns : goal.returns
returns g c = λ levels may t k lt shown. c.is_shown.ensures levels may t (k.open_knows refl).monitor_is lt shown
