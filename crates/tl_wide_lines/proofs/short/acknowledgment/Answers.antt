use Rattle.std.proofs.Common.{arith, rules}
use Rattle.tl_wide_lines.proofs.ShortLines.{acknowledgment-spells}
use Rattle.tl_wide_lines.proofs.short.acknowledgment.Goals as goal

pub returns : goal.returns
returns g c = acknowledgment-spells c.args.line.now c.in_ok-link.link c.read_into.new.beat _ (omega arith)
    (search rules) (search rules) (search rules)
