use Rattle.std.proofs.Common.{refl}
use Rattle.tl_tried.proofs.TraceCounted.{other-ended, other-judged, wide-begun}
use Rattle.tl_tried.proofs.cover_trace.CoverTrace.start.Goals as goal

pub returns-in-None-clause-judges : goal.returns-in-None-clause-judges
returns-in-None-clause-judges c =
    other-judged c.args.self.now _ c.args.line.now c.requires c.requires
    (rw c.in-None.is at c.in_ok-begin_wide.ensures) _ _ c.handle_line.result c.handle_line.ensures.judges
    c.handle_line.ensures.purpose

pub returns-in-None-clause-ends : goal.returns-in-None-clause-ends
returns-in-None-clause-ends c =
    other-ended c.args.self.now (record { narrow = c.handle_line.new.self; wide = c.args.self.now.wide })
    c.args.line.now c.requires c.requires
    (rw c.in-None.is at c.in_ok-begin_wide.ensures) c.handle_line.result c.handle_line.ensures.ends
    c.handle_line.ensures.purpose

pub returns-in-Some-clause-judges : goal.returns-in-Some-clause-judges
returns-in-Some-clause-judges c =
    wide-begun c.args.self.now _ c.args.line.now _ c.in-Some.following c.requires c.replace.ensures.after refl
    (rw c.in-Some.is at c.in_ok-begin_wide.ensures)
