use Rattle.tl_concord.proofs.Quiet.{begins_unbroken}
use Rattle.tl_concord.proofs.law.begins_unbroken.Goals as goal

pub returns : goal.returns
returns g c = λ config log given. begins_unbroken config log given
