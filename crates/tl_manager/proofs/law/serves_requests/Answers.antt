use Rattle.tl_manager.proofs.services.Ended.{services-offered}
use Rattle.tl_manager.proofs.law.serves_requests.Goals as goal

pub returns : goal.returns
returns g c = λ config link ch x e typed ok. services-offered config link ch x e c.requires typed ok
