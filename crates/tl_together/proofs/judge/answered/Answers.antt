use Rattle.tl_together.proofs.Answered.{answered_is}
use Rattle.tl_together.proofs.judge.answered.Goals as goal

pub returns-in-D : goal.returns-in-D
returns-in-D g c = λ levels may t k lt.
    answered_is levels c.args.link c.args.beat.now c.in-D.x t c.request.result lt c.in-D.is
    (c.request.ensures.under levels may t _ k.knows)
