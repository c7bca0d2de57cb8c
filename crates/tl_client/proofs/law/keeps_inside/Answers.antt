use Rattle.tl_client.proofs.endpoint.Inside.{inside-fresh, inside-asked, inside-offered}
use Rattle.tl_client.proofs.law.keeps_inside.Goals as goal

pub returns-clause-fresh : goal.returns-clause-fresh
returns-clause-fresh g c = λ terms. inside-fresh g.row.W terms

pub returns-clause-asked : goal.returns-clause-asked
returns-clause-asked g c = λ terms op e kept old. inside-asked terms op e c.requires kept old

pub returns-clause-offered : goal.returns-clause-offered
returns-clause-offered g c = λ terms ch x e kept old. inside-offered terms ch x e c.requires kept old
