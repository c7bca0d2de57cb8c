use Rattle.tl_client.proofs.pending.Accounted.{accounted-fresh, accounted-asked, accounted-offered}
use Rattle.tl_client.proofs.law.keeps_account.Goals as goal

pub returns-clause-fresh : goal.returns-clause-fresh
returns-clause-fresh g c = accounted-fresh g.row.W

pub returns-clause-asked : goal.returns-clause-asked
returns-clause-asked g c = λ terms op e kept old. accounted-asked terms op e c.requires kept old

pub returns-clause-offered : goal.returns-clause-offered
returns-clause-offered g c = λ terms ch x e kept old. accounted-offered terms ch x e c.requires kept old
