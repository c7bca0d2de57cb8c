use Rattle.tl_tried.proofs.CommitsCounted.{begins-marked, begins-none}
use Rattle.tl_tried.proofs.cover_events.CoverEvents.begin_events.Goals as goal

pub returns-in-Some : goal.returns-in-Some
returns-in-Some c =
    begins-marked c.args.self.now c.in-Some.alloc c.args.line.now c.begin.result c.in-Some.ensures c.begin.ensures

pub returns-in-None : goal.returns-in-None
returns-in-None c = begins-none c.args.self.now c.args.line.now c.in-None.ensures
