use Rattle.std.proofs.Common.{refl}
use Rattle.tl_wide_lines.proofs.TraceJudged.{other-judged, wide-begun}
use Rattle.tl_wide_lines.proofs.lines.TraceLines.start.Goals as goal

pub returns-in-None-clause-judges : goal.returns-in-None-clause-judges
returns-in-None-clause-judges c = λ said.
    other-judged c.args.self.now _ c.args.line.now said c.judge_line.result c.requires c.requires
    (rw c.in-None.is at c.in_ok-begin_wide.ensures) (c.judge_line.ensures.judges said) c.judge_line.ensures.purpose

pub returns-in-Some-clause-judges : goal.returns-in-Some-clause-judges
returns-in-Some-clause-judges c = λ said.
    wide-begun c.args.self.now _ c.args.line.now said c.in-Some.links c.requires c.replace.ensures.after refl
    (rw c.in-Some.is at c.in_ok-begin_wide.ensures)
