use Rattle.std.proofs.Common.{rules}
use Rattle.std.proofs.lemmas.Result.{IfOk-weaker}
use Rattle.tl_evidence.proofs.Guilt.{guilty_by_itself, guilty_by_order}
use Rattle.tl_evidence.proofs.conviction.tell_conviction.Goals as goal

pub returns-then-is_legality : goal.returns-then-is_legality
returns-then-is_legality g c = IfOk-weaker c.tell_illegal.result _ _
    (λ told has. λ yes. guilty_by_itself c.args.may c.args.level c.args.recorder.now c.args.rule c.args.link c.args.beat.now
    (search rules) (search rules) (has yes)) c.tell_illegal.ensures

pub returns-else-is_legality : goal.returns-else-is_legality
returns-else-is_legality g c = IfOk-weaker c.tell_order.result _ _
    (λ told has. λ yes. guilty_by_order c.args.may c.args.level c.args.recorder.now c.args.rule c.args.link c.args.beat.now
    (search rules) (search rules) (has yes)) c.tell_order.ensures
