use Rattle.tl_concord.proofs.Accesses.{carries_accesses}
use Rattle.tl_concord.proofs.law.carries_open_accesses.Goals as goal

pub returns : goal.returns
returns g c = λ config log given. carries_accesses config log given
