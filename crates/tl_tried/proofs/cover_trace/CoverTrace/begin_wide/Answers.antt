use Rattle.tl_tried.proofs.TraceCounted.{begins-here, none-read}
use Rattle.tl_tried.proofs.cover_trace.CoverTrace.begin_wide.Goals as goal

pub returns-in-Waiting : goal.returns-in-Waiting
returns-in-Waiting c =
    begins-here c.args.self.now c.in-Waiting.alloc c.args.line.now c.begin.result c.in-Waiting.is c.begin.ensures

pub returns-in_default : goal.returns-in_default
returns-in_default c = λ text known. absurd (none-read c.args.self.now.narrow c.in_default.not-Waiting text known)
