use Rattle.tl_coherence.proofs.bound.Settling.{bound}
use Rattle.tl_coherence.proofs.law.moves_at_most_the_load.Goals as goal

pub returns : goal.returns
returns g c = λ config more log given deliveries. bound more log given deliveries
