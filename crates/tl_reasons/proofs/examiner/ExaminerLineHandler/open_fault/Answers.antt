use Rattle.tl_reasons.proofs.Examining.{examined-open, examined-stops}
use Rattle.tl_reasons.proofs.examiner.ExaminerLineHandler.open_fault.Goals as goal

pub returns-clause-stops : goal.returns-clause-stops
returns-clause-stops c = λ line said is.
    examined-stops c.args.self.now line said said c.open_fault.result (c.open_fault.ensures.stops line said is)

pub returns-clause-ends : goal.returns-clause-ends
returns-clause-ends c = λ line is. examined-open c.args.self.now line
