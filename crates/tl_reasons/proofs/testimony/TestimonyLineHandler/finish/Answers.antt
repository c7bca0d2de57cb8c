use Rattle.std.proofs.lemmas.Result.{IfOk-weaker}
use Rattle.tl_reasons.proofs.Testifying.{ends-here, finishes-again}
use Rattle.tl_reasons.proofs.testimony.TestimonyLineHandler.finish.Goals as goal

pub returns-clause-finishes : goal.returns-clause-finishes
returns-clause-finishes c = IfOk-weaker c.finish.result _ _
    (λ fault h. finishes-again c.args.self.now c.args.count _ _ fault h) c.finish.ensures.finishes

pub returns-clause-ends : goal.returns-clause-ends
returns-clause-ends c = λ fault is lines text k. ends-here c.args.self.now lines text k
