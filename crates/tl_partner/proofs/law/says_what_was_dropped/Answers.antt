use Rattle.tl_partner.specs.statement.Dropping.{block_of}
use Rattle.tl_partner.proofs.Afterward.{services-drop}
use Rattle.tl_partner.proofs.Passing.{drop-parts, is_dropped, passes-drop}
use Rattle.tl_partner.proofs.Said.{answered, beside, recorded-drop}
use Rattle.tl_partner.proofs.law.says_what_was_dropped.Goals as goal

pub returns-clause-answered : goal.returns-clause-answered
returns-clause-answered g c = λ terms config link ch x e kept is free.
    answered config link (block_of x) e kept (is_dropped terms config link ch x e kept is) free

pub returns-clause-recorded : goal.returns-clause-recorded
returns-clause-recorded g c = λ terms config link ch x e client block kept is free.
    recorded-drop config link (block_of x) e client block c.requires kept
    (is_dropped terms config link ch x e kept is) free

pub returns-clause-memory : goal.returns-clause-memory
returns-clause-memory g c = λ terms config link ch x e kept is free.
    (beside config link (block_of x) e kept (is_dropped terms config link ch x e kept is) free).0

pub returns-clause-closed : goal.returns-clause-closed
returns-clause-closed g c = λ terms config link ch x e kept is free.
    (beside config link (block_of x) e kept (is_dropped terms config link ch x e kept is) free).1

pub returns-clause-services : goal.returns-clause-services
returns-clause-services g c = λ terms config link ch x e kept is free.
    services-drop config link (block_of x) e c.requires kept
    (is_dropped terms config link ch x e kept is) free

pub returns-clause-passes : goal.returns-clause-passes
returns-clause-passes g c = λ terms config link ch x e kept is free.
    passes-drop config link ch x e c.requires kept (drop-parts terms config link ch x e is).0
    (drop-parts terms config link ch x e is).1 free
