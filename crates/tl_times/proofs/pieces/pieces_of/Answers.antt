use Rattle.std.proofs.Common.{arith}
use Rattle.tl_times.proofs.Splitting.{empty, no_pieces}
use Rattle.tl_times.proofs.pieces.pieces_of.Goals as goal

pub returns-then-is_empty : goal.returns-then-is_empty
returns-then-is_empty c = rw c.new-pieces.ensures.items (no_pieces _ (empty _ c.if-is_empty.ensures), λ k d lt. absurd (omega (arith, lt)))
