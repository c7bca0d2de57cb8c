use Rattle.std.proofs.Common.{length}
use Rattle.tl_wide.specs.statement.Pieces.{left_of}
use Rattle.tl_wide_event_story.specs.code.Guiding.{PartsTaken}
use Rattle.tl_wide_event_story.proofs.guide.Guide.take_parts.Given as goal

abbrev pub invariant-loop-part : goal.invariant-loop-part
invariant-loop-part g l =
    PartsTaken l.fn.self l.self l.passing.link l.is_later (left_of {p = g.row.P} l.passing.beat.now l.fn.parts)
    (left_of {p = g.row.P} l.passing.beat.now l.left)

abbrev pub decreases-loop-part : goal.decreases-loop-part
decreases-loop-part g l = length (left_of {p = g.row.P} l.passing.beat.now l.left)
