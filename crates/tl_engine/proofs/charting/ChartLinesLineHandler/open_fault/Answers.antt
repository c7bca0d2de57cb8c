use Rattle.tl_engine.proofs.ChartedLines.{chart_open, chart_open_ends, no_header, no_header_ends}
use Rattle.tl_lines.proofs.LinksHeaders.{open_allowed}
use Rattle.tl_engine.proofs.charting.ChartLinesLineHandler.open_fault.Goals as goal

pub returns-in-Waiting-clause-stops : goal.returns-in-Waiting-clause-stops
returns-in-Waiting-clause-stops c = λ line said is.
    no_header c.args.self.now _ _ c.in-Waiting.is line (open_allowed c.args.self.now.allow line is) said

pub returns-in-Waiting-clause-ends : goal.returns-in-Waiting-clause-ends
returns-in-Waiting-clause-ends c = λ line is.
    no_header_ends c.args.self.now _ _ c.in-Waiting.is line (open_allowed c.args.self.now.allow line is)

pub returns-in_default-clause-stops : goal.returns-in_default-clause-stops
returns-in_default-clause-stops c = λ line said is. chart_open c.args.self.now c.in_default.not-Waiting line said is

pub returns-in_default-clause-ends : goal.returns-in_default-clause-ends
returns-in_default-clause-ends c = λ line is. chart_open_ends c.args.self.now c.in_default.not-Waiting line is
