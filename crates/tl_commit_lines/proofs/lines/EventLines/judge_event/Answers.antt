use Rattle.std.proofs.Common.{refl}
use Rattle.tl_commit_lines.proofs.EventsJudged.{event-judged}
use Rattle.tl_commit_lines.proofs.lines.EventLines.judge_event.Goals as goal

pub returns-in-Some-clause-judges : goal.returns-in-Some-clause-judges
returns-in-Some-clause-judges c =
    event-judged c.args.self.now _ c.args.line.now c.args.out.now.items _ c.in-Some.links _ c.judge_line.result
    c.in-Some.is refl refl c.judge_line.ensures
