-- The words of a store or a load.
use Rattle.std.specs.Prelude.{◌==◌, ◌++◌, ℕ, List, codes, if◌then◌else◌}
use Rattle.tl_beat.specs.statement.Digits.{digits}
use Rattle.tl_events.specs.declared.commit.Commit.{Commit}
use Rattle.tl_events.specs.declared.commit.Commit.TheVariants as commit
use Rattle.tl_events.specs.declared.commit.Piece.{Piece}
use Rattle.tl_events.specs.statement.CommitLine.{value_digits}
use Rattle.tl_wide_events.specs.declared.commit.WideCommit.{WideCommit}
use Rattle.tl_wide_events.specs.declared.commit.WideCommit.TheVariants as wide
use Rattle.tl_wide_events.specs.declared.commit.WidePiece.{WidePiece}

-- ---- the bytes of a commit

-- the bytes that a commit reaches
abbrev pub piece_in : Commit → Piece
piece_in (commit.Store piece value) = piece
piece_in (commit.Load piece value) = piece
piece_in (commit.Begin piece) = piece

-- the bytes that a commit of a wide trace reaches
abbrev pub wide_piece_in : WideCommit → WidePiece
wide_piece_in (wide.Store piece value) = piece
wide_piece_in (wide.Load piece value) = piece
wide_piece_in (wide.Begin piece) = piece

-- ---- a commit of a narrow trace with an address of 64 bits

-- the same bytes
abbrev pub widened_piece : Piece → WidePiece
widened_piece piece = record { size = piece.size; address = piece.address }

-- the same commit
abbrev pub widened : Commit → WideCommit
widened (commit.Store piece value) = wide.Store (widened_piece piece) value
widened (commit.Load piece value) = wide.Load (widened_piece piece) value
widened (commit.Begin piece) = wide.Begin (widened_piece piece)

-- ---- words

-- 2^size bytes
abbrev pub bytes_words : ℕ → List ℕ
bytes_words size =
    if size == 0 then codes "1 byte" else
    if size == 1 then codes "2 bytes" else
    if size == 2 then codes "4 bytes" else codes "8 bytes"

-- the bytes of a piece, with this number of digits of their address
abbrev pub piece_words : ℕ → WidePiece → List ℕ
piece_words count piece = bytes_words piece.size ++ (codes " at " ++ digits count piece.address)

-- their value, the byte of the highest address first
abbrev pub value_words : WidePiece → ℕ → List ℕ
value_words piece value = codes ": " ++ digits (value_digits piece.size) value

-- the action of a core, with this number of digits of the address
abbrev pub action_words : ℕ → WideCommit → List ℕ
action_words count (wide.Store piece value) =
    codes " stores " ++ (piece_words count piece ++ value_words piece value)
action_words count (wide.Load piece value) =
    codes " loads " ++ (piece_words count piece ++ value_words piece value)
action_words count (wide.Begin piece) = codes " begins to load " ++ piece_words count piece

-- the action of a core in a narrow trace
abbrev pub commit_words : Commit → List ℕ
commit_words x = action_words 8 (widened x)

-- the action of a core in a wide trace
abbrev pub wide_commit_words : WideCommit → List ℕ
wide_commit_words x = action_words 16 x
