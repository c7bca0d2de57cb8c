use Rattle.tl_concord.proofs.Responses.{responses}
use Rattle.tl_concord.proofs.law.grants_undisturbed.Goals as goal

pub returns : goal.returns
returns g c = λ config log given. responses config log given
