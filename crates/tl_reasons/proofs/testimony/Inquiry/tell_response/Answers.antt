use Rattle.std.proofs.Common.{refl, rules}
use Rattle.std.proofs.lemmas.Result.{IfOk-weaker}
use Rattle.tl_reasons.proofs.Hearing.{response-told}
use Rattle.tl_reasons.proofs.testimony.Inquiry.tell_response.Goals as goal

pub returns-clause-tells : goal.returns-clause-tells
returns-clause-tells g c = IfOk-weaker c.tell_recorded.result _ _
    (λ told so. λ came.
    response-told c.args.self.now (record c.args.self.now { reasons = c.tell_recorded.new.out }) c.args.judge.now
    c.args.number c.args.line.now c.args.link c.args.x.now c.request.result c.clear.new.self.items
    c.append_memory_front.new.out.items (λ levels may t. c.request.ensures levels may t) (search rules) c.clear.ensures.items
    c.in_ok-append_memory_front.ensures (so came))
    c.tell_recorded.ensures.tells
