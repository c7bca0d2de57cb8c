use Rattle.tl_beat.specs.declared.fault.LineFault.TheVariants.{F1}
use Rattle.tl_lines.specs.declared.fault.Fault.TheVariants.{Header, Line}
use Rattle.tl_report.proofs.Handled.{open_ends, open_header, stops}
use Rattle.tl_report.proofs.search_lines.SearchLinesLineHandler.open_fault.Goals as goal

pub returns-in-Waiting-clause-stops : goal.returns-in-Waiting-clause-stops
returns-in-Waiting-clause-stops c = λ line said is. stops _ line said said Header

pub returns-in-Waiting-clause-ends : goal.returns-in-Waiting-clause-ends
returns-in-Waiting-clause-ends c = λ line is. rw c.in-Waiting.is (open_header _ _ line is)

pub returns-in_default-clause-stops : goal.returns-in_default-clause-stops
returns-in_default-clause-stops c = λ line said is. stops _ line said said (Line F1)

pub returns-in_default-clause-ends : goal.returns-in_default-clause-ends
returns-in_default-clause-ends c = λ line is. open_ends _ c.in_default.not-Waiting line is
