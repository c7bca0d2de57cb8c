use Rattle.tl_client.proofs.endpoint.HeldAfter.{held-offered}
use Rattle.tl_client.proofs.law.held_after_offered.Goals as goal

pub returns : goal.returns
returns g c = λ terms ch x e k none. held-offered terms ch x e k c.requires none
