use Rattle.tl_world_commits.proofs.WorldSteps.{world_commit_runs}
use Rattle.tl_world_commits.proofs.law.comes_of_one_memory_with_commits.Goals as goal

pub returns : goal.returns
returns g c = λ config log given ranged. world_commit_runs config log given ranged
