use Rattle.tl_coherence.proofs.links.FromInvariant.{channels}
use Rattle.tl_coherence.proofs.law.fills_no_channel.Goals as goal

pub returns : goal.returns
returns g c = λ config log given link ch. channels config log given link ch
