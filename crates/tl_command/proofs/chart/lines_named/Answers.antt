use Rattle.std.proofs.Common.{rules}
use Rattle.tl_command.proofs.ChartLines.{spelled_lines}
use Rattle.tl_command.proofs.chart.lines_named.Goals as goal

pub returns : goal.returns
returns c = spelled_lines c.args.word.now _ _ c.in_ok-first-2.first c.in_ok-last.last c.ordered.result (search rules)
    (search rules) c.in_ok-first.ensures c.in_ok-first-2.ensures c.in_ok-last.ensures c.ordered.ensures
