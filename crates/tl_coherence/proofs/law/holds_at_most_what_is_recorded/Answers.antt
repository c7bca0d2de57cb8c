use Rattle.tl_coherence.proofs.links.FromInvariant.{at_most_recorded}
use Rattle.tl_coherence.proofs.law.holds_at_most_what_is_recorded.Goals as goal

pub returns : goal.returns
returns g c = λ config log given link block. at_most_recorded given link block
