use Rattle.tl_coherence.proofs.theorem.Whole.{whole}
use Rattle.tl_coherence.proofs.law.holds.Goals as goal

pub returns : goal.returns
returns g c = whole _
