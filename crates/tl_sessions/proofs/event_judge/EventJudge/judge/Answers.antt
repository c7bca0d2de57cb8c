use Rattle.std.proofs.Common.{inr}
use Rattle.tl_sessions.proofs.event_judge.EventJudge.judge.Goals as goal

pub returns : goal.returns
returns g c = inr (
  c.if-self.false,
  record {
    judged = c.try_push-judged.result;
    told = c.of_commits.ensures;
    judges = record {
      lawful = λ levels complete l e knows. c.try_push-judged.ensures.answer levels complete l e knows c.requires.event;
      knows = λ levels complete l e knows. c.try_push-judged.ensures.knows levels complete l e knows c.requires.event;
    };
    closed_is = c.closed_after-self.ensures;
  },
)
