use Rattle.tl_true_bytes.proofs.WorldRuns.{true_worlds}
use Rattle.tl_true_bytes.proofs.law.carries_true_bytes.Goals as goal

pub returns : goal.returns
returns g c = λ config log given. true_worlds config log given
