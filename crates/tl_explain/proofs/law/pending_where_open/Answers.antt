use Rattle.tl_explain.proofs.Rests.{pending_open}
use Rattle.tl_explain.proofs.law.pending_where_open.Goals as goal

pub returns : goal.returns
returns c = λ w n k t. pending_open n k t
