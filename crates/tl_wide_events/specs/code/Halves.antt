-- A commit by the halves of its address; only private clauses cite this.
use Rattle.std.specs.Prelude.{◌≡◌, ◌≢◌, ◌+◌, ◌*◌, ◌^◌, ℕ, Option, Some, None}
use Rattle.tl_beat.specs.declared.fault.LineFault.{LineFault}
use Rattle.tl_events.specs.declared.commit.Commit.{Commit}
use Rattle.tl_events.specs.declared.commit.Commit.TheVariants as commit
use Rattle.tl_events.specs.declared.commit.Piece.{Piece}
use Rattle.tl_wide_events.specs.declared.commit.WideCommit.{WideCommit}
use Rattle.tl_wide_events.specs.declared.commit.WideCommit.TheVariants as wide
use Rattle.tl_wide_events.specs.declared.commit.WidePiece.{WidePiece}

-- a piece with a higher half of its address
abbrev pub widened_piece : Piece → ℕ → WidePiece
widened_piece piece high = record { size = piece.size; address = 2 ^ 32 * high + piece.address }

-- a commit with a higher half of its address
abbrev pub widened : Commit → ℕ → WideCommit
widened (commit.Store piece value) high = wide.Store (widened_piece piece high) value
widened (commit.Load piece value) high = wide.Load (widened_piece piece high) value
widened (commit.Begin piece) high = wide.Begin (widened_piece piece high)

-- if there is a fault it is this
abbrev pub IsFaultUnless : Option LineFault → LineFault → Type 0
IsFaultUnless found fault = found ≢ None → found ≡ Some fault
