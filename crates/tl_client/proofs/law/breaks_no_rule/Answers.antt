use Rattle.tl_client.proofs.messages.InOrder.{asked-legal, offered-legal}
use Rattle.tl_client.proofs.law.breaks_no_rule.Goals as goal

pub returns-clause-asked : goal.returns-clause-asked
returns-clause-asked g c = λ terms op e kept. asked-legal terms op e c.requires kept

pub returns-clause-offered : goal.returns-clause-offered
returns-clause-offered g c = λ terms ch x e kept account. offered-legal terms ch x e kept account
