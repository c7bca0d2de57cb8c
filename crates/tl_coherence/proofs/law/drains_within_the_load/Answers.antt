use Rattle.tl_coherence.proofs.bound.Settling.{drain}
use Rattle.tl_coherence.proofs.law.drains_within_the_load.Goals as goal

pub returns : goal.returns
returns g c = λ config log given. drain config log given
