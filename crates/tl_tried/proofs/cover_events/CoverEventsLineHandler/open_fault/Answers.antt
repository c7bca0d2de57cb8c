use Rattle.tl_tried.proofs.CommitsCounted.{event-open, event-open-ended, plain-open, plain-open-ended}
use Rattle.tl_tried.proofs.cover_events.CoverEventsLineHandler.open_fault.Goals as goal

pub returns-in-Some-clause-stops : goal.returns-in-Some-clause-stops
returns-in-Some-clause-stops c = λ line said is. event-open c.args.self.now line is said _ c.in-Some.is

pub returns-in-Some-clause-ends : goal.returns-in-Some-clause-ends
returns-in-Some-clause-ends c = λ line is. event-open-ended c.args.self.now line is _ c.in-Some.is

pub returns-in-None-clause-stops : goal.returns-in-None-clause-stops
returns-in-None-clause-stops c = λ line said is.
    plain-open c.args.self.now line is said c.open_fault.result c.in-None.is (c.open_fault.ensures.stops line said is)

pub returns-in-None-clause-ends : goal.returns-in-None-clause-ends
returns-in-None-clause-ends c = λ line is.
    plain-open-ended c.args.self.now line is c.in-None.is (c.open_fault.ensures.ends line is)
