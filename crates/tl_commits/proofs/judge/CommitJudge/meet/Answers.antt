use Rattle.std.proofs.Common.{refl, length}
use Rattle.tl_commits.proofs.BeatsJudged.{table-met}
use Rattle.tl_commits.proofs.judge.CommitJudge.meet.Goals as goal

pub returns-clause-knows : goal.returns-clause-knows
returns-clause-knows g c = λ levels complete l e k.
    table-met c.args.self.now _ levels complete l e k k.judge_is refl refl refl (λ table. table)
    (λ grants. c.meet_grant.ensures.knows levels l complete e k.judge_is grants)
    (λ readings. c.meet_reading.ensures.knows complete (length levels) e readings)

pub returns-in_err-meet_grant-clause-knows : goal.returns-in_err-meet_grant-clause-knows
returns-in_err-meet_grant-clause-knows g c = λ levels complete l e k.
    table-met c.args.self.now _ levels complete l e k k.judge_is refl refl refl (λ table. table)
    (λ grants. c.meet_grant.ensures.knows levels l complete e k.judge_is grants) (λ readings. readings)
