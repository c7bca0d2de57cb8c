use Rattle.tl_wide_lines.proofs.TraceJudged.{none-read, other-judged}
use Rattle.tl_wide_lines.proofs.lines.TraceLines.judge_other.Goals as goal

pub returns-in_default-clause-judges : goal.returns-in_default-clause-judges
returns-in_default-clause-judges c = λ said.
    other-judged c.args.self.now _ c.args.line.now said c.judge_line.result c.requires c.requires
    (λ text known. absurd (none-read c.args.self.now.narrow c.in_default.not-Waiting text known))
    (c.judge_line.ensures.judges said) c.judge_line.ensures.purpose
