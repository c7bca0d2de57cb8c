use Rattle.tl_commits.proofs.judge.CommitJudge.try_push.Goals as goal

pub returns-in-Beat-clause-answer : goal.returns-in-Beat-clause-answer
returns-in-Beat-clause-answer g c = λ levels complete l e k is.
    rw c.in-Beat.is (c.take_beat.ensures.answer levels complete l e k)

pub returns-in-Beat-clause-knows : goal.returns-in-Beat-clause-knows
returns-in-Beat-clause-knows g c = λ levels complete l e k is.
    rw c.in-Beat.is (c.take_beat.ensures.knows levels complete l e k)

pub returns-in-Commit-clause-answer : goal.returns-in-Commit-clause-answer
returns-in-Commit-clause-answer g c = λ levels complete l e k is.
    rw c.in-Commit.is (c.take_commit.ensures.answer levels complete l e k (rw c.in-Commit.is at is))

pub returns-in-Commit-clause-knows : goal.returns-in-Commit-clause-knows
returns-in-Commit-clause-knows g c = λ levels complete l e k is.
    rw c.in-Commit.is (c.take_commit.ensures.knows levels complete l e k (rw c.in-Commit.is at is))
