use Rattle.tl_explain.proofs.Places.{held_since}
use Rattle.tl_explain.proofs.Sayings.{held_since-under}
use Rattle.tl_explain.proofs.law.held_since_saying.Goals as goal

pub returns-clause-profile : goal.returns-clause-profile
returns-clause-profile c = λ w n k t. held_since n k t

pub returns-clause-under : goal.returns-clause-under
returns-clause-under c = λ w n k l t. held_since-under l n k t
