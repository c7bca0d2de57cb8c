use Rattle.tl_reasons.proofs.Testifying.{ends-open, stops-again}
use Rattle.tl_reasons.proofs.testimony.TestimonyLineHandler.open_fault.Goals as goal

pub returns-clause-stops : goal.returns-clause-stops
returns-clause-stops c = λ line said is.
    stops-again c.args.self.now line said said c.open_fault.result (c.open_fault.ensures.stops line said is)

pub returns-clause-ends : goal.returns-clause-ends
returns-clause-ends c = λ line is. ends-open c.args.self.now line
