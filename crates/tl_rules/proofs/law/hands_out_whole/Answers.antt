use Rattle.tl_burst.proofs.Splitting.{beats-positive}
use Rattle.tl_rules.proofs.Handed.{unfinished-whole, pending-whole, held-whole, request_of-whole, release_of-whole}
use Rattle.tl_rules.proofs.Handed.{probe_of-whole, grant_sink-whole}
use Rattle.tl_rules.proofs.law.hands_out_whole.Goals as goal

pub returns-clause-unfinished : goal.returns-clause-unfinished
returns-clause-unfinished g c = λ m ch t none. unfinished-whole ch m t none (beats-positive m c.requires)

pub returns-clause-pending : goal.returns-clause-pending
returns-clause-pending g c = λ m key t none. pending-whole key m t none (beats-positive m c.requires)

pub returns-clause-held : goal.returns-clause-held
returns-clause-held g c = λ m block t none. held-whole block m t none (beats-positive m c.requires)

pub returns-clause-request : goal.returns-clause-request
returns-clause-request g c = λ m source t none. request_of-whole source m t none (beats-positive m c.requires)

pub returns-clause-release : goal.returns-clause-release
returns-clause-release g c = λ m source t none. release_of-whole source m t none (beats-positive m c.requires)

pub returns-clause-probe : goal.returns-clause-probe
returns-clause-probe g c = λ m block t none. probe_of-whole block m t none (beats-positive m c.requires)

pub returns-clause-sink : goal.returns-clause-sink
returns-clause-sink g c = λ m block t none. grant_sink-whole block m t none (beats-positive m c.requires)
