use Rattle.tl_client.proofs.messages.Proper.{asked-proper, offered-proper}
use Rattle.tl_client.proofs.law.hands_out_proper_messages.Goals as goal

pub returns-clause-asked : goal.returns-clause-asked
returns-clause-asked g c = λ terms op e typed old. asked-proper terms op e c.requires typed old

pub returns-clause-offered : goal.returns-clause-offered
returns-clause-offered g c = λ terms ch x e old. offered-proper terms ch x e c.requires old
