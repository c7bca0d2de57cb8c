use Rattle.tl_client.proofs.pending.KeptAsked.{started-below}
use Rattle.tl_client.proofs.law.starts_with_own_sources.Goals as goal

pub returns : goal.returns
returns g c = λ terms op e s is. started-below terms op e s is
