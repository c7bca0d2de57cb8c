use Rattle.tl_coherence.proofs.links.FromInvariant.{carries}
use Rattle.tl_coherence.proofs.law.loses_nothing.Goals as goal

pub returns : goal.returns
returns g c = λ config log given link ch. carries given link ch
