use Rattle.tl_client.proofs.endpoint.Outstanding.{unfinished-offered, pending-offered, request-offered, release-offered}
use Rattle.tl_client.proofs.law.pending_after_offered.Goals as goal

pub returns-clause-unfinished : goal.returns-clause-unfinished
returns-clause-unfinished g c = λ terms ch x e there kept. unfinished-offered terms ch x e there c.requires kept

pub returns-clause-pending : goal.returns-clause-pending
returns-clause-pending g c = λ terms ch x e key kept. pending-offered terms ch x e key c.requires kept

pub returns-clause-request : goal.returns-clause-request
returns-clause-request g c = λ terms ch x e s kept. request-offered terms ch x e s c.requires kept

pub returns-clause-release : goal.returns-clause-release
returns-clause-release g c = λ terms ch x e s kept. release-offered terms ch x e s c.requires kept
