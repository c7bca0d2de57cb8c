use Rattle.tl_partner.proofs.Without.{offered-none, stalls-none}
use Rattle.tl_partner.proofs.law.is_the_manager.Goals as goal

pub returns-clause-offered : goal.returns-clause-offered
returns-clause-offered g c = λ terms config link ch x e none idle. offered-none terms config link ch x e none idle

pub returns-clause-stalls : goal.returns-clause-stalls
returns-clause-stalls g c = λ terms config link ch x e none idle. stalls-none terms config link ch x e none idle
