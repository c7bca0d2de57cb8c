use Rattle.std.proofs.Common.{arith, rules}
use Rattle.tl_wide_lines.proofs.ShortLines.{number-at, response-spells}
use Rattle.tl_wide_lines.proofs.short.response.Goals as goal

pub returns : goal.returns
returns g c = response-spells c.args.line.now c.shorten.new.short c.in_ok-link.link c.read_into.new.beat _ (omega arith)
    c.shorten.ensures (number-at c.args.line.now 11 c.in_ok-source.source (omega arith) (search rules))
    (number-at c.args.line.now 16 c.in_ok-sink.sink (omega arith) (search rules)) (search rules) (search rules)
