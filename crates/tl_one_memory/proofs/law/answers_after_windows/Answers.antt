use Rattle.tl_one_memory.proofs.Windowed.{all-after-windows}
use Rattle.tl_one_memory.proofs.law.answers_after_windows.Goals as goal

pub returns : goal.returns
returns g c = λ n first run is. all-after-windows n first run is
