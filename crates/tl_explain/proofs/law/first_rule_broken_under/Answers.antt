use Rattle.tl_explain.proofs.Ordered.{breaks-under, of_burst-under, of_message-under}
use Rattle.tl_explain.proofs.law.first_rule_broken_under.Goals as goal

pub returns-clause-message : goal.returns-clause-message
returns-clause-message c = λ w l x t e. of_message-under l x t e

pub returns-clause-burst : goal.returns-clause-burst
returns-clause-burst c = λ w l x t e. of_burst-under l x t e

pub returns-clause-itself : goal.returns-clause-itself
returns-clause-itself c = λ w l rule x t e. breaks-under l x t rule e
