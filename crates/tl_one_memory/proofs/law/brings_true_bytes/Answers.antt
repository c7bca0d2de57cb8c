use Rattle.tl_one_memory.proofs.Brought.{true_bytes}
use Rattle.tl_one_memory.proofs.law.brings_true_bytes.Goals as goal

pub returns : goal.returns
returns g c = λ n first run is. true_bytes n first run is
