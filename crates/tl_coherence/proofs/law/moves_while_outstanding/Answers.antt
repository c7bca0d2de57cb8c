use Rattle.tl_coherence.proofs.outstanding.Progress.{moving}
use Rattle.tl_coherence.proofs.law.moves_while_outstanding.Goals as goal

pub returns : goal.returns
returns g c = λ config log given. moving config log given
