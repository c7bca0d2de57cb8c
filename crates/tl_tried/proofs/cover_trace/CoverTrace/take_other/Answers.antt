use Rattle.tl_tried.proofs.TraceCounted.{none-read, other-ended, other-judged}
use Rattle.tl_tried.proofs.cover_trace.CoverTrace.take_other.Goals as goal

pub returns-in_default-clause-judges : goal.returns-in_default-clause-judges
returns-in_default-clause-judges c =
    other-judged c.args.self.now _ c.args.line.now c.requires c.requires
    (λ text known. absurd (none-read c.args.self.now.narrow c.in_default.not-Waiting text known)) _ _
    c.handle_line.result c.handle_line.ensures.judges c.handle_line.ensures.purpose

pub returns-in_default-clause-ends : goal.returns-in_default-clause-ends
returns-in_default-clause-ends c =
    other-ended c.args.self.now (record { narrow = c.handle_line.new.self; wide = c.args.self.now.wide })
    c.args.line.now c.requires c.requires
    (λ text known. absurd (none-read c.args.self.now.narrow c.in_default.not-Waiting text known))
    c.handle_line.result c.handle_line.ensures.ends c.handle_line.ensures.purpose
