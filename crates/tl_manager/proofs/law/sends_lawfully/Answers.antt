use Rattle.tl_manager.proofs.calls.Keeping.{fresh-kept, kept-offered, lawful}
use Rattle.tl_manager.proofs.law.sends_lawfully.Goals as goal

pub returns-clause-fresh : goal.returns-clause-fresh
returns-clause-fresh g c = λ config. fresh-kept config

pub returns-clause-kept : goal.returns-clause-kept
returns-clause-kept g c = λ config link ch x e typed ok. kept-offered config link ch x e c.requires typed ok

pub returns-clause-lawful : goal.returns-clause-lawful
returns-clause-lawful g c = λ config link ch x e typed ok. lawful config link ch x e c.requires typed ok
