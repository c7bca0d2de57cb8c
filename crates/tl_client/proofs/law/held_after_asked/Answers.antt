use Rattle.tl_client.proofs.endpoint.HeldAfter.{held-asked}
use Rattle.tl_client.proofs.law.held_after_asked.Goals as goal

pub returns : goal.returns
returns g c = λ terms op e k none. held-asked terms op e k c.requires none
