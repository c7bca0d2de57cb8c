use Rattle.std.proofs.Common.{rules}
use Rattle.tl_tried.proofs.CommitsCounted.{event-end, plain-end, plain-end-ended}
use Rattle.tl_tried.proofs.cover_events.CoverEventsLineHandler.finish.Goals as goal

pub returns-in_ok-append_end-in-Some-clause-finishes : goal.returns-in_ok-append_end-in-Some-clause-finishes
returns-in_ok-append_end-in-Some-clause-finishes c =
    event-end c.args.self.now c.args.count c.args.out.now.items _ _ c.in-Some.is (search rules)

pub returns-in-None-clause-finishes : goal.returns-in-None-clause-finishes
returns-in-None-clause-finishes c =
    plain-end c.args.self.now c.args.count c.args.out.now.items _ c.finish.result c.in-None.is
    c.finish.ensures.finishes

pub returns-in-None-clause-ends : goal.returns-in-None-clause-ends
returns-in-None-clause-ends c = λ fault is.
    plain-end-ended c.args.self.now c.in-None.is (c.finish.ensures.ends fault is)
