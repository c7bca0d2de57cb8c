use Rattle.tl_coherence.proofs.links.FromInvariant.{stalls}
use Rattle.tl_coherence.proofs.law.stalls_exactly.Goals as goal

pub returns : goal.returns
returns g c = λ config log given link ch client. stalls given link ch client
