use Rattle.std.proofs.Common.{length}
use Rattle.tl_tried.specs.code.WideCover.{PartsLeft}
use Rattle.tl_wide.specs.statement.Pieces.{left_of}
use Rattle.tl_tried.proofs.wide_covering.take_parts.Given as goal

abbrev pub invariant-loop-part : goal.invariant-loop-part
invariant-loop-part g l =
    PartsLeft l.fn.covering l.covering l.link (left_of {p = g.row.P} l.beat l.fn.parts)
    (left_of {p = g.row.P} l.beat l.left)

abbrev pub decreases-loop-part : goal.decreases-loop-part
decreases-loop-part g l = length (left_of {p = g.row.P} l.beat l.left)
