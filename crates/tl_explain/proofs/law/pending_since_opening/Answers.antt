use Rattle.tl_explain.proofs.Places.{pending_since, pending_told}
use Rattle.tl_explain.proofs.law.pending_since_opening.Goals as goal

pub returns-clause-since : goal.returns-clause-since
returns-clause-since c = λ w n k m t. pending_since n k t m

pub returns-clause-pending : goal.returns-clause-pending
returns-clause-pending c = λ w n k m t. pending_told n k t m
