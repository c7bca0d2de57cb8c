use Rattle.tl_commit_memory.proofs.Brought.{true_commit_runs}
use Rattle.tl_commit_memory.proofs.law.brings_true_bytes_with_commits.Goals as goal

pub returns : goal.returns
returns g c = λ complete n first run starts is. true_commit_runs complete n first run starts is
