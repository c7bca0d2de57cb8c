use Rattle.tl_coherence.proofs.theorem.Soundness.{headline}
use Rattle.tl_coherence.proofs.law.stays_sound.Goals as goal

pub returns : goal.returns
returns g c = λ config log given. headline config log given
