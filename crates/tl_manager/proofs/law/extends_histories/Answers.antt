use Rattle.tl_manager.proofs.pending.Afterwards.{history-offered, unfinished-offered, missing-offered}
use Rattle.tl_manager.proofs.law.extends_histories.Goals as goal

pub returns-clause-history : goal.returns-clause-history
returns-clause-history g c = λ config link ch x e client. history-offered config link ch x e client

pub returns-clause-unfinished : goal.returns-clause-unfinished
returns-clause-unfinished g c = λ config link ch x e client other typed ok theirs. unfinished-offered config link ch x e
    client other c.requires typed ok theirs

pub returns-clause-missing : goal.returns-clause-missing
returns-clause-missing g c = λ config link ch x e client block typed ok. missing-offered config link ch x e client block
    c.requires typed ok
