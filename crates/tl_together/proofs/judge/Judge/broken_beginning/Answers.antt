use Rattle.tl_together.proofs.Answered.{begun, not_begun}
use Rattle.tl_together.proofs.judge.Judge.broken_beginning.Goals as goal

pub returns-then-begins : goal.returns-then-begins
returns-then-begins g c = λ levels may t k free lt.
    begun levels c.args.link c.args.x.now t c.begins.result c.broken_response.result lt
    (c.begins.ensures.under levels may t _ k.monitor_is.knows) c.if-begins.true
    (c.broken_response.ensures levels may t k free lt)

pub returns-else-begins : goal.returns-else-begins
returns-else-begins g c = λ levels may t k free lt.
    not_begun levels c.args.link c.args.x.now t c.begins.result lt
    (c.begins.ensures.under levels may t _ k.monitor_is.knows) c.if-begins.false
