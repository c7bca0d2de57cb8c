use Rattle.tl_one_memory.proofs.OpenWindows.{all-in-windows}
use Rattle.tl_one_memory.proofs.law.answers_in_windows.Goals as goal

pub returns : goal.returns
returns g c = λ width n first levels run is legal. all-in-windows n first width levels run is legal
