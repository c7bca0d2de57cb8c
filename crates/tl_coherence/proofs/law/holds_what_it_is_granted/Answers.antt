use Rattle.tl_coherence.proofs.links.FromInvariant.{grants}
use Rattle.tl_coherence.proofs.law.holds_what_it_is_granted.Goals as goal

pub returns : goal.returns
returns g c = λ config log link ch x source p op given asked. grants config log link ch x source p op given asked
