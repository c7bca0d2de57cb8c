use Rattle.tl_true_bytes.proofs.WorldRuns.{world_runs}
use Rattle.tl_true_bytes.proofs.law.comes_of_one_memory.Goals as goal

pub returns : goal.returns
returns g c = λ config log given. world_runs config log given
