use Rattle.std.proofs.Common.{refl}
use Rattle.tl_together.proofs.judge.Judge.moment.Goals as goal

pub returns : goal.returns
returns g c = λ levels may t k. (k.open_knows refl).moment_is
