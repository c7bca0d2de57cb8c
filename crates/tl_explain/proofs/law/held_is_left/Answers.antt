use Rattle.tl_explain.proofs.Rests.{held_left}
use Rattle.tl_explain.proofs.law.held_is_left.Goals as goal

pub returns : goal.returns
returns c = λ w n k t. held_left n k t
