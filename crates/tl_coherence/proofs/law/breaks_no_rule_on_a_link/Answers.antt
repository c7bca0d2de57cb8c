use Rattle.tl_coherence.proofs.flow.Flows.{flows}
use Rattle.tl_coherence.proofs.law.breaks_no_rule_on_a_link.Goals as goal

pub returns : goal.returns
returns g c = λ config log given link l level. flows given link l level
