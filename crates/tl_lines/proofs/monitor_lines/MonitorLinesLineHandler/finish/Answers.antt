use Rattle.std.proofs.Common.{rules}
use Rattle.tl_lines.proofs.Judged.{header_missing, all_clean}
use Rattle.tl_lines.proofs.monitor_lines.MonitorLinesLineHandler.finish.Goals as goal

pub returns-in-Waiting-clause-finishes : goal.returns-in-Waiting-clause-finishes
returns-in-Waiting-clause-finishes g c = rw c.in-Waiting.is (header_missing g.row.TOGETHER _ _ _)

pub returns-in_ok-append_end-in_default-clause-finishes : goal.returns-in_ok-append_end-in_default-clause-finishes
returns-in_ok-append_end-in_default-clause-finishes g c = all_clean g.row.TOGETHER _ c.in_default.not-Waiting _ _ _ (search rules)
