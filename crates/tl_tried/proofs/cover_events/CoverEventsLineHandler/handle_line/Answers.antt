use Rattle.std.proofs.Common.{refl}
use Rattle.tl_tried.proofs.CommitsCounted.{event-ended, event-judged}
use Rattle.tl_tried.proofs.cover_events.CoverEventsLineHandler.handle_line.Goals as goal

pub returns-in-Some-clause-judges : goal.returns-in-Some-clause-judges
returns-in-Some-clause-judges c =
    event-judged c.args.self.now _ c.args.line.now c.in-Some.following _ c.in-Some.is refl refl c.args.out.now.items
    c.take_line.result c.take_line.ensures

pub returns-in-Some-clause-ends : goal.returns-in-Some-clause-ends
returns-in-Some-clause-ends c =
    event-ended c.args.self.now _ c.args.line.now c.in-Some.following _ c.in-Some.is refl refl c.take_line.result
    c.take_line.ensures
