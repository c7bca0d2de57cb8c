use Rattle.tl_engine.proofs.Playing.{header-missing, all-played}
use Rattle.tl_engine.proofs.run_lines.RunLinesLineHandler.finish.Goals as goal

pub returns-in-Waiting-clause-finishes : goal.returns-in-Waiting-clause-finishes
returns-in-Waiting-clause-finishes g c = rw c.in-Waiting.is (header-missing g.row.FORM _ _ _)

pub returns-in_default-clause-finishes : goal.returns-in_default-clause-finishes
returns-in_default-clause-finishes g c = all-played _ c.in_default.not-Waiting _ _
