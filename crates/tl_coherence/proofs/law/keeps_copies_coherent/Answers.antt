use Rattle.tl_coherence.proofs.links.FromInvariant.{coherent}
use Rattle.tl_coherence.proofs.law.keeps_copies_coherent.Goals as goal

pub returns : goal.returns
returns g c = λ config log given. coherent config log given
