use Rattle.tl_coherence.proofs.theorem.Soundness.{one_memory}
use Rattle.tl_coherence.proofs.law.is_a_run_of_one_memory.Goals as goal

pub returns : goal.returns
returns g c = λ config log given. one_memory config log given
