use Rattle.tl_manager.proofs.calls.Keeping.{recorded-offered}
use Rattle.tl_manager.proofs.law.records_reports.Goals as goal

pub returns : goal.returns
returns g c = λ config link ch x e client block typed ok. recorded-offered config link ch x e client block c.requires
    typed ok
