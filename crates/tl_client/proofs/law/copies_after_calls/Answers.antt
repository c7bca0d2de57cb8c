use Rattle.tl_client.proofs.endpoint.AfterAsked.{copies-asked, waiting-asked}
use Rattle.tl_client.proofs.endpoint.AfterOffered.{copies-offered, waiting-offered}
use Rattle.tl_client.proofs.law.copies_after_calls.Goals as goal

pub returns-clause-asked : goal.returns-clause-asked
returns-clause-asked g c = λ terms op e k. copies-asked terms op e k

pub returns-clause-offered : goal.returns-clause-offered
returns-clause-offered g c = λ terms ch x e k. copies-offered terms ch x e k

pub returns-clause-asked_waiting : goal.returns-clause-asked_waiting
returns-clause-asked_waiting g c = λ terms op e k. waiting-asked terms op e k

pub returns-clause-offered_waiting : goal.returns-clause-offered_waiting
returns-clause-offered_waiting g c = λ terms ch x e k. waiting-offered terms ch x e k
