use Rattle.std.proofs.Common.{refl}
use Rattle.tl_wide_lines.proofs.TraceJudged.{wide-judged}
use Rattle.tl_wide_lines.proofs.lines.TraceLinesLineHandler.handle_line.Goals as goal

pub returns-in-Some-clause-judges : goal.returns-in-Some-clause-judges
returns-in-Some-clause-judges c =
    wide-judged c.args.self.now _ c.args.line.now c.args._out.now.items c.in-Some.links _ c.judge_line.result
    c.in-Some.is
    refl refl c.judge_line.ensures

pub returns-in-None-clause-judges : goal.returns-in-None-clause-judges
returns-in-None-clause-judges c = c.judge_other.ensures.judges c.args._out.now.items
