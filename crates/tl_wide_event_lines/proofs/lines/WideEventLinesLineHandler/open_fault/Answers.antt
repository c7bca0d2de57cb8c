use Rattle.tl_wide_event_lines.proofs.TraceJudged.{narrow-open, wide-open}
use Rattle.tl_wide_event_lines.proofs.lines.WideEventLinesLineHandler.open_fault.Goals as goal

pub returns-in-Some-clause-stops : goal.returns-in-Some-clause-stops
returns-in-Some-clause-stops c = λ line said is. wide-open c.args.self.now line said is _ c.in-Some.is

pub returns-in-None-clause-stops : goal.returns-in-None-clause-stops
returns-in-None-clause-stops c = λ line said is.
    narrow-open c.args.self.now line said is c.open_fault.result c.in-None.is (c.open_fault.ensures.stops line said is)
