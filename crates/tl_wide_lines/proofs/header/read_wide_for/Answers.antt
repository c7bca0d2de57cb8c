use Rattle.tl_wide_lines.proofs.WideHeaders.{none_for}
use Rattle.tl_wide_lines.proofs.header.read_wide_for.Goals as goal

pub returns-in_default : goal.returns-in_default
returns-in_default c =
    none_for c.args.allow c.args.line.now
    (λ width may levels named. c.in_default.ensures.every_spelling width may levels named)
