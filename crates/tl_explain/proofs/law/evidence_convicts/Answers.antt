use Rattle.tl_params.specs.statement.Liberties.{liberties_of, no_liberties}
use Rattle.tl_explain.proofs.Sayings.{held-profile}
use Rattle.tl_explain.proofs.convicts.Rules.{convicts}
use Rattle.tl_explain.proofs.law.evidence_convicts.Goals as goal

pub returns : goal.returns
returns c = λ w n p rule x reason t is e.
    convicts (liberties_of p) no_liberties (held-profile p) rule n t x reason is e
