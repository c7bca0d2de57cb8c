use Rattle.tl_coherence.proofs.theorem.Performed.{performed_free}
use Rattle.tl_coherence.proofs.law.performs_where_free.Goals as goal

pub returns : goal.returns
returns g c = λ config log link ch o given client source rest x answers asks.
    performed_free config log link ch o given client source rest x answers asks
