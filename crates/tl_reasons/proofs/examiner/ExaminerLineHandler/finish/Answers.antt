use Rattle.std.proofs.lemmas.Result.{IfOk-weaker}
use Rattle.tl_reasons.proofs.Examining.{examined-finish, examined-here}
use Rattle.tl_reasons.proofs.examiner.ExaminerLineHandler.finish.Goals as goal

pub returns-clause-finishes : goal.returns-clause-finishes
returns-clause-finishes c = IfOk-weaker c.finish.result _ _
    (λ fault h. examined-finish c.args.self.now c.args.count _ _ fault h) c.finish.ensures.finishes

pub returns-clause-ends : goal.returns-clause-ends
returns-clause-ends c = λ fault is lines text k. examined-here c.args.self.now lines text k
