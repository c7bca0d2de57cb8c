use Rattle.tl_coherence.proofs.flow.TrueGrant.{true_grants}
use Rattle.tl_coherence.proofs.law.grants_true_bytes.Goals as goal

pub returns : goal.returns
returns g c = λ config log given. true_grants config log given
