use Rattle.tl_report.proofs.Handled.{missing_ends, read_clean, unclean}
use Rattle.tl_report.proofs.search_lines.SearchLinesLineHandler.finish.Goals as goal

pub returns-in-Waiting-clause-finishes : goal.returns-in-Waiting-clause-finishes
returns-in-Waiting-clause-finishes c = λ lines before known counted broken. unclean broken

pub returns-in-Waiting-clause-ends : goal.returns-in-Waiting-clause-ends
returns-in-Waiting-clause-ends c = λ fault is. rw c.in-Waiting.is (missing_ends _ _)

pub returns-in_default-clause-finishes : goal.returns-in_default-clause-finishes
returns-in_default-clause-finishes c = read_clean _ c.in_default.not-Waiting c.args._count c.args._out.now.items c.args._out.now.items
