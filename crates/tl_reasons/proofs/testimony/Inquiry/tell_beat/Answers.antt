use Rattle.std.proofs.lemmas.Result.{IfOk-weaker}
use Rattle.std.specs.Prelude.{false}
use Rattle.tl_reasons.proofs.Hearing.{beat-told}
use Rattle.tl_reasons.proofs.testimony.Inquiry.tell_beat.Goals as goal

pub returns-in-OfAll-clause-judge : goal.returns-in-OfAll-clause-judge
returns-in-OfAll-clause-judge g c = λ levels may t k. c.tell_response.ensures.judge levels may t false (rw c.in-OfAll.is at k)

pub returns-in-OfAll-clause-tells : goal.returns-in-OfAll-clause-tells
returns-in-OfAll-clause-tells g c = IfOk-weaker c.tell_response.result _ _
    (λ told so. λ came. beat-told c.args.self.now c.tell_response.new.self c.args.judge.now c.in-OfAll.judge c.args.number
    c.args.line.now c.args.link c.args.beat.now c.in-D.x c.in-OfAll.is c.in-D.is (so came))
    c.tell_response.ensures.tells
