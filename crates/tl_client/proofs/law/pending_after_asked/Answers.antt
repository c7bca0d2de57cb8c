use Rattle.tl_client.proofs.endpoint.Outstanding.{unfinished-asked, pending-asked, request-asked, release-asked}
use Rattle.tl_client.proofs.law.pending_after_asked.Goals as goal

pub returns-clause-unfinished : goal.returns-clause-unfinished
returns-clause-unfinished g c = λ terms op e ch kept. unfinished-asked terms op e ch c.requires kept

pub returns-clause-pending : goal.returns-clause-pending
returns-clause-pending g c = λ terms op e key kept. pending-asked terms op e key c.requires kept

pub returns-clause-request : goal.returns-clause-request
returns-clause-request g c = λ terms op e s kept. request-asked terms op e s c.requires kept

pub returns-clause-release : goal.returns-clause-release
returns-clause-release g c = λ terms op e s kept. release-asked terms op e s c.requires kept
