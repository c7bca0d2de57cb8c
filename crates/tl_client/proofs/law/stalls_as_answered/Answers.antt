use Rattle.tl_client.proofs.endpoint.Stalls.{stalls-offered}
use Rattle.tl_client.proofs.law.stalls_as_answered.Goals as goal

pub returns : goal.returns
returns g c = λ terms ch x e. stalls-offered terms ch x e
