use Rattle.std.proofs.Common.{rules, ◌∙◌}
use Rattle.tl_engine.proofs.ChartedLines.{charted, said_of}
use Rattle.tl_engine.proofs.chart.drawn.Goals as goal

pub returns : goal.returns
returns c = λ trace has said is.
    charted c.args.window c.args.lines.now c.gatherer-gatherer.result.now c.fault.result c.line_said.result.now said
    c.args.verdict.now c.is_broken.result c.args.status trace _ _ (search rules) (search rules) (search rules) has is
    (c.line_said.ensures ∙ said_of _ said is) (search rules) c.new-chart.ensures.items c.in_ok-append_chart.ensures
