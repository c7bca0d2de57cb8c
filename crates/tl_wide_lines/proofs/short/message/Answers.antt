use Rattle.std.proofs.Common.{arith, rules}
use Rattle.tl_wide_lines.proofs.ShortLines.{message-spells, number-at}
use Rattle.tl_wide_lines.proofs.short.message.Goals as goal

pub returns : goal.returns
returns g c = message-spells c.args.line.now c.shorten.new.short c.in_ok-link.link c.read_into.new.beat _ (omega arith)
    c.shorten.ensures (number-at c.args.line.now 11 c.in_ok-source.source (omega arith) (search rules)) (search rules)
    (search rules) (search rules)
