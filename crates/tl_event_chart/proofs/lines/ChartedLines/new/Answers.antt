use Rattle.std.proofs.Common.{[], refl}
use Rattle.tl_event_chart.proofs.Drawing.{drawn-none}
use Rattle.tl_event_chart.proofs.lines.ChartedLines.new.Goals as goal

pub returns-clause-notes : goal.returns-clause-notes
returns-clause-notes c = record {
  counted = refl;
  has = drawn-none c.in_ok-canvas.canvas c.args.window [] c.in_ok-canvas.ensures.notes c.in_ok-canvas.ensures.window;
}
