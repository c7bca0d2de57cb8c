use Rattle.std.proofs.Common.{inr}
use Rattle.tl_report.proofs.events.EventLineJudgeLineJudge.judge_line.Goals as goal

pub returns-in-Some-clause-judges : goal.returns-in-Some-clause-judges
returns-in-Some-clause-judges g c = λ terms e known.
    let (bad, knows) = (rw c.in-Some.is at c.in_ok-push-in-Ok.ensures) terms.together terms.links terms.may e known in
    (inr ((c.in-Ok.link, c.in-Ok.event), c.in-Ok.ensures.spelled, bad), λ goes_on. knows)
