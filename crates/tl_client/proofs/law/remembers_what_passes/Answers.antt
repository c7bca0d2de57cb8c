use Rattle.tl_client.proofs.endpoint.AfterAsked.{past-asked, closed-asked}
use Rattle.tl_client.proofs.endpoint.AfterOffered.{past-offered, closed-offered}
use Rattle.tl_client.proofs.law.remembers_what_passes.Goals as goal

pub returns-clause-asked : goal.returns-clause-asked
returns-clause-asked g c = λ terms op e. past-asked terms op e

pub returns-clause-offered : goal.returns-clause-offered
returns-clause-offered g c = λ terms ch x e. past-offered terms ch x e

pub returns-clause-asked_closed : goal.returns-clause-asked_closed
returns-clause-asked_closed g c = λ terms op e. closed-asked terms op e

pub returns-clause-offered_closed : goal.returns-clause-offered_closed
returns-clause-offered_closed g c = λ terms ch x e. closed-offered terms ch x e
