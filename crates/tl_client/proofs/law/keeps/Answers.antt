use Rattle.tl_client.proofs.pending.KeptAsked.{kept-asked}
use Rattle.tl_client.proofs.pending.KeptOffered.{kept-fresh, kept-offered}
use Rattle.tl_client.proofs.law.keeps.Goals as goal

pub returns-clause-fresh : goal.returns-clause-fresh
returns-clause-fresh g c = kept-fresh g.row.W

pub returns-clause-asked : goal.returns-clause-asked
returns-clause-asked g c = λ terms op e kept. kept-asked terms op e c.requires kept

pub returns-clause-offered : goal.returns-clause-offered
returns-clause-offered g c = λ terms ch x e kept. kept-offered terms ch x e c.requires kept
