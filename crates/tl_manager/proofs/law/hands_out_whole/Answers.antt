use Rattle.std.proofs.Common.{refl}
use Rattle.tl_burst.specs.declared.message.Message.TheVariants.{B, D}
use Rattle.tl_burst.{proofs.Splitting.beats-positive, specs.statement.Burst.beats_of}
use Rattle.tl_rules.{proofs.Sent.request_of-other, proofs.Handed.pending-sent_b, proofs.Handed.pending-sent_d}
use Rattle.tl_manager.proofs.law.hands_out_whole.Goals as goal

pub returns-clause-probe : goal.returns-clause-probe
returns-clause-probe g c = λ m key t none. pending-sent_b key m t none (beats-positive (B m) c.requires)

pub returns-clause-answer : goal.returns-clause-answer
returns-clause-answer g c = λ m key t none. pending-sent_d key m t none (beats-positive (D m) c.requires)

pub returns-clause-requests : goal.returns-clause-requests
returns-clause-requests g c = λ m source t. request_of-other source (D m) t (beats_of (D m)) refl
