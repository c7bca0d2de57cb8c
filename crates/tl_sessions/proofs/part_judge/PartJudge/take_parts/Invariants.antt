use Rattle.std.proofs.Common.{◌≡◌, length}
use Rattle.tl_wide.specs.statement.Pieces.{left_of}
use Rattle.tl_wide_events.specs.statement.Narrowed.{as_events}
use Rattle.tl_sessions.specs.code.WideJudging.{PartsLeft}
use Rattle.tl_sessions.proofs.part_judge.PartJudge.take_parts.Given as goal

abbrev pub invariant-loop-part : goal.invariant-loop-part
invariant-loop-part g l = record {
  same : l.after ≡ l.left;
  parts : PartsLeft l.fn.self l.self l.link (as_events (left_of {p = g.row.P} l.beat l.fn.parts))
      (as_events (left_of {p = g.row.P} l.beat l.left));
}

abbrev pub decreases-loop-part : goal.decreases-loop-part
decreases-loop-part g l = length (left_of {p = g.row.P} l.beat l.left)
