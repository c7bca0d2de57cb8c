use Rattle.std.proofs.Common.{refl}
use Rattle.tl_wide_event_lines.proofs.TraceJudged.{wide-judged}
use Rattle.tl_wide_event_lines.proofs.lines.WideEventLines.judge_event.Goals as goal

pub returns-in-Some-clause-judges : goal.returns-in-Some-clause-judges
returns-in-Some-clause-judges c =
    wide-judged c.args.self.now _ c.args.line.now c.args.out.now.items _ c.in-Some.links _ c.judge_line.result
    c.in-Some.is refl refl c.judge_line.ensures
