use Rattle.tl_coherence.proofs.flow.FlowTraces.{faultless}
use Rattle.tl_coherence.proofs.law.has_no_fault_on_all_links.Goals as goal

pub returns : goal.returns
returns g c = λ config log given. faultless config log given
