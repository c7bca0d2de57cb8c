use Rattle.tl_tried.proofs.CommitsCounted.{begins-none, plain-ended, plain-judged}
use Rattle.tl_tried.proofs.cover_events.CoverEvents.take_other.Goals as goal

pub returns-in-None-clause-judges : goal.returns-in-None-clause-judges
returns-in-None-clause-judges c =
    plain-judged c.args.self.now _ c.args.line.now c.requires c.requires
    (begins-none c.args.self.now c.args.line.now c.in-None.ensures) _ _ c.handle_line.result
    c.handle_line.ensures.judges c.handle_line.ensures.purpose

pub returns-in-None-clause-ends : goal.returns-in-None-clause-ends
returns-in-None-clause-ends c =
    plain-ended c.args.self.now (record { plain = c.handle_line.new.self; events = c.args.self.now.events })
    c.args.line.now c.requires c.requires (begins-none c.args.self.now c.args.line.now c.in-None.ensures)
    c.handle_line.result c.handle_line.ensures.ends c.handle_line.ensures.purpose
