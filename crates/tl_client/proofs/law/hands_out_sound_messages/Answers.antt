use Rattle.tl_client.proofs.messages.Sound.{asked-sound, offered-sound}
use Rattle.tl_client.proofs.law.hands_out_sound_messages.Goals as goal

pub returns-clause-asked : goal.returns-clause-asked
returns-clause-asked g c = λ terms op e. asked-sound terms op e c.requires

pub returns-clause-offered : goal.returns-clause-offered
returns-clause-offered g c = λ terms ch x e. offered-sound terms ch x e
