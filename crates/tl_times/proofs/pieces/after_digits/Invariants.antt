use Rattle.std.proofs.Common.{◌≡◌, length}
use Rattle.tl_times.specs.statement.Pieces.{after_digits}
use Rattle.tl_times.proofs.pieces.after_digits.Given as goal

abbrev pub invariant-loop-b : goal.invariant-loop-b
invariant-loop-b l = after_digits l.rest ≡ after_digits l.text

abbrev pub decreases-loop-b : goal.decreases-loop-b
decreases-loop-b l = length l.rest
