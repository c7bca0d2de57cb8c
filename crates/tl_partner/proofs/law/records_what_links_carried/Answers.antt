use Rattle.tl_partner.proofs.AnyBeat.{carried-under, fresh-carried}
use Rattle.tl_partner.proofs.Histories.{reached}
use Rattle.tl_partner.proofs.Keeping.{kept-under}
use Rattle.tl_partner.proofs.law.records_what_links_carried.Goals as goal

pub returns-clause-fresh : goal.returns-clause-fresh
returns-clause-fresh g c = λ terms config. fresh-carried terms config

pub returns-clause-step : goal.returns-clause-step
returns-clause-step g c = λ terms config link ch x t e typed kept carried.
    carried-under terms config link ch x t e c.requires typed kept carried

pub returns-clause-kept : goal.returns-clause-kept
returns-clause-kept g c = λ terms config link ch x e typed kept.
    kept-under terms config link ch x e c.requires typed kept

pub returns-clause-held : goal.returns-clause-held
returns-clause-held g c = λ terms config t e client block carried. (carried.alike client).held block

pub returns-clause-history : goal.returns-clause-history
returns-clause-history g c = λ terms config offers client block typed.
    ((reached terms config offers c.requires typed).0.alike client).held block
