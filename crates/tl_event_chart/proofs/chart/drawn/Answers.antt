use Rattle.std.proofs.Common.{rules, ◌∙◌}
use Rattle.tl_engine.proofs.ChartedLines.{said_of}
use Rattle.tl_event_chart.proofs.Verdict.{charted-beside}
use Rattle.tl_event_chart.proofs.chart.drawn.Goals as goal

pub returns : goal.returns
returns c = λ win lines said has is.
    charted-beside win lines c.args.canvas.now _ _ c.line_said.result.now said c.args.verdict.now c.is_broken.result
    c.args.status _ _ has c.beside.ensures is (c.line_said.ensures ∙ said_of _ said is) c.is_broken.ensures
    (search rules) c.in_ok-append_chart_beside.ensures
