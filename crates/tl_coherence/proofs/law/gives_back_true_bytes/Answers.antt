use Rattle.tl_coherence.proofs.flow.TrueReturn.{true_returns}
use Rattle.tl_coherence.proofs.law.gives_back_true_bytes.Goals as goal

pub returns : goal.returns
returns g c = λ config log given. true_returns config log given
