use Rattle.std.proofs.Common.{length}
use Rattle.tl_wide.specs.statement.Pieces.{left_of}
use Rattle.tl_wide_event_story.proofs.guide.Guide.pass_parts.Given as goal

abbrev pub decreases-loop-part : goal.decreases-loop-part
decreases-loop-part g l = length (left_of {p = g.row.P} l.passing.beat.now l.left)
