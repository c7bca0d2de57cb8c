use Rattle.std.proofs.Common.{rules, refl}
use Rattle.tl_chart.proofs.Gathering.{on_ok}
use Rattle.tl_event_chart.proofs.Drawing.{draws-line}
use Rattle.tl_event_chart.proofs.lines.ChartedLines.draw_line.Goals as goal

pub returns-clause-draws : goal.returns-clause-draws
returns-clause-draws c = on_ok c.take_line.result (draws-line c.args.self.now (record {
  lines = c.args.self.now.lines;
  alloc = c.args.self.now.alloc;
  allow = c.args.self.now.allow;
  window = c.args.self.now.window;
  count = c.in_ok-self.field-0;
  following = c.take_line.new.self;
  canvas = c.take_line.new.canvas;
}) c.args.line.now (search rules) refl) c.take_line.ensures
