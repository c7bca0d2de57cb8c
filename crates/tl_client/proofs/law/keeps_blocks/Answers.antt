use Rattle.tl_client.proofs.messages.Bytes.{bytes-fresh, bytes-asked, bytes-offered}
use Rattle.tl_client.proofs.law.keeps_blocks.Goals as goal

pub returns-clause-fresh : goal.returns-clause-fresh
returns-clause-fresh g c = bytes-fresh g.row.W

pub returns-clause-asked : goal.returns-clause-asked
returns-clause-asked g c = λ terms op e kept typed old. bytes-asked terms op e c.requires kept typed old

pub returns-clause-offered : goal.returns-clause-offered
returns-clause-offered g c = λ terms ch x e kept typed old. bytes-offered terms ch x e c.requires kept typed old
