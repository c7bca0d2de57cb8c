use Rattle.std.proofs.Common.{false, refl}
use Rattle.tl_commits.specs.statement.Events.{beats_of}
use Rattle.tl_commits.proofs.BeatsJudged.{judge-asked}
use Rattle.tl_commits.proofs.judge.CommitJudge.keeps_rules.Goals as goal

pub returns-in-Ok-clause-knows : goal.returns-in-Ok-clause-knows
returns-in-Ok-clause-knows g c = λ levels complete l e k.
    judge-asked _ _ levels complete l e k (c.broken.ensures.knows levels l (beats_of e) false k.judge_is) refl refl refl refl refl refl

pub returns-in-Err-clause-knows : goal.returns-in-Err-clause-knows
returns-in-Err-clause-knows g c = λ levels complete l e k.
    judge-asked _ _ levels complete l e k (c.broken.ensures.knows levels l (beats_of e) false k.judge_is) refl refl refl refl refl refl
