use Rattle.std.proofs.Common.{length}
use Rattle.tl_event_chart.specs.code.Drawing.{DrawsBeats}
use Rattle.tl_wide.specs.statement.Pieces.{left_of}
use Rattle.tl_event_chart.proofs.wide.WideFollower.draw_parts.Given as goal

abbrev pub invariant-loop-part : goal.invariant-loop-part
invariant-loop-part g l = DrawsBeats l.fn.canvas l.canvas

abbrev pub decreases-loop-part : goal.decreases-loop-part
decreases-loop-part g l = length (left_of {p = g.row.P} l.beat l.left)
