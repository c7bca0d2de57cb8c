use Rattle.tl_coherence.proofs.links.FromInvariant.{unrefused}
use Rattle.tl_coherence.proofs.law.refuses_no_beat.Goals as goal

pub returns : goal.returns
returns g c = λ config log given. unrefused given
