use Rattle.std.proofs.Common.{refl}
use Rattle.tl_explain.proofs.convicts.Rules.{convicts}
use Rattle.tl_explain.proofs.law.evidence_convicts_under.Goals as goal

pub returns : goal.returns
returns c = λ w n l rule x reason t is e. convicts l l (λ k h. refl) rule n t x reason is e
