use Rattle.tl_coherence.proofs.flow.GivenAlone.{apart}
use Rattle.tl_coherence.proofs.law.grants_beside_no_writer.Goals as goal

pub returns : goal.returns
returns g c = λ config log given. apart config log given
