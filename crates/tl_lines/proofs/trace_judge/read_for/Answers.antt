use Rattle.tl_lines.proofs.LinksHeaders.{none_for}
use Rattle.tl_lines.proofs.trace_judge.read_for.Goals as goal

pub returns-in_default : goal.returns-in_default
returns-in_default c =
    none_for c.args.allow c.args.line.now
    (λ width may levels named. c.in_default.ensures.every_spelling width may levels named)
