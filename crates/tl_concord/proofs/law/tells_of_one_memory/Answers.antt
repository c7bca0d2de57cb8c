use Rattle.tl_concord.proofs.Told.{tells_of_memory}
use Rattle.tl_concord.proofs.law.tells_of_one_memory.Goals as goal

pub returns : goal.returns
returns g c = λ config log given. tells_of_memory config log given
