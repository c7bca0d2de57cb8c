use Rattle.tl_coherence.proofs.flow.TrueRead.{true_reads}
use Rattle.tl_coherence.proofs.law.reads_true_bytes.Goals as goal

pub returns : goal.returns
returns g c = λ config log given. true_reads config log given
