use Rattle.tl_tried.proofs.Covered.{open_ends, open_stops, open_unheaded}
use Rattle.tl_tried.proofs.cover_lines.CoverLinesLineHandler.open_fault.Goals as goal

pub returns-in-Waiting-clause-stops : goal.returns-in-Waiting-clause-stops
returns-in-Waiting-clause-stops c =
    λ line said is. rw c.in-Waiting.is (open_unheaded c.args.self.now.allow _ line said is)

pub returns-in-Waiting-clause-ends : goal.returns-in-Waiting-clause-ends
returns-in-Waiting-clause-ends c = λ line is. open_ends c.args.self.now line is

pub returns-in_default-clause-stops : goal.returns-in_default-clause-stops
returns-in_default-clause-stops c = λ line said is. open_stops c.args.self.now c.in_default.not-Waiting line said is

pub returns-in_default-clause-ends : goal.returns-in_default-clause-ends
returns-in_default-clause-ends c = λ line is. open_ends c.args.self.now line is
