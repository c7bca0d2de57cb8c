use Rattle.tl_explain.proofs.Ordered.{breaks_first, of_burst, of_message}
use Rattle.tl_explain.proofs.law.first_rule_broken.Goals as goal

pub returns-clause-message : goal.returns-clause-message
returns-clause-message c = λ w p x t e. of_message p x t e

pub returns-clause-burst : goal.returns-clause-burst
returns-clause-burst c = λ w p x t e. of_burst p x t e

pub returns-clause-itself : goal.returns-clause-itself
returns-clause-itself c = λ w p rule x t e. breaks_first p rule x t e
