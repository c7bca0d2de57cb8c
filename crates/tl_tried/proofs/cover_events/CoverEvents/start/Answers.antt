use Rattle.std.proofs.Common.{refl}
use Rattle.tl_tried.proofs.CommitsCounted.{event-begun, plain-ended, plain-judged}
use Rattle.tl_tried.proofs.cover_events.CoverEvents.start.Goals as goal

pub returns-in-None-clause-judges : goal.returns-in-None-clause-judges
returns-in-None-clause-judges c =
    plain-judged c.args.self.now _ c.args.line.now c.requires c.requires
    (rw c.in-None.is at c.in_ok-begin_events.ensures) _ _ c.handle_line.result c.handle_line.ensures.judges
    c.handle_line.ensures.purpose

pub returns-in-None-clause-ends : goal.returns-in-None-clause-ends
returns-in-None-clause-ends c =
    plain-ended c.args.self.now (record { plain = c.handle_line.new.self; events = c.args.self.now.events })
    c.args.line.now c.requires c.requires
    (rw c.in-None.is at c.in_ok-begin_events.ensures) c.handle_line.result c.handle_line.ensures.ends
    c.handle_line.ensures.purpose

pub returns-in-Some-clause-judges : goal.returns-in-Some-clause-judges
returns-in-Some-clause-judges c =
    event-begun c.args.self.now _ c.args.line.now _ c.in-Some.following c.requires c.replace.ensures.after refl
    (rw c.in-Some.is at c.in_ok-begin_events.ensures)
