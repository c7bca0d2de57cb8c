-- How a commit's line is read, by the pieces between its spaces; only private clauses cite this.
use Rattle.std.specs.Prelude.{ℕ, not, ◌||◌, List, [], ◌∷◌, length, Option, Some, None, Result, Ok, Err, nat_lt}
use Rattle.std.specs.Prelude.{if◌then◌else◌}
use Rattle.std.specs.Io.BufRead.{ends_with_byte}
use Rattle.tl_beat.specs.declared.beat.Link.{Link}
use Rattle.tl_beat.specs.declared.fault.LineFault.{LineFault}
use Rattle.tl_beat.specs.declared.fault.LineFault.TheVariants.{F1, F2, F3}
use Rattle.tl_beat.specs.code.Reading.{◌>>=◌, number_in}
use Rattle.tl_beat.specs.statement.Line.{field, pieces, without_last}
use Rattle.tl_events.specs.declared.commit.Commit.{Commit}
use Rattle.tl_events.specs.declared.commit.Commit.TheVariants as commit
use Rattle.tl_events.specs.declared.commit.Piece.{Piece}
use Rattle.tl_events.specs.declared.read.ValuedPiece.{ValuedPiece}
use Rattle.tl_events.specs.statement.CommitLine.{Letter, S, L, I, is_piece, letter_named, value_digits}

-- a piece of these numbers
abbrev pub piece_of : ℕ → ℕ → Result Piece LineFault
piece_of size address = if is_piece size address then Ok (record { size = size; address = address }) else Err F3

-- the link and the commit
abbrev pub made_by : ℕ → Commit → Result (Link × Commit) LineFault
made_by link x = Ok (record { 0 = link }, x)

-- a link, a piece and its bytes
abbrev pub valued : ℕ → Piece → ℕ → Result ValuedPiece LineFault
valued link piece value = Ok (record { link = link; piece = piece; value = value })

-- a store or a load
unfoldable pub reading_valued : List (List ℕ) → Result ValuedPiece LineFault
reading_valued (link ∷ letter ∷ size ∷ address ∷ value ∷ []) = do
  link ← number_in 2 link
  size ← number_in 1 size
  address ← number_in 8 address
  piece ← piece_of size address
  value ← number_in (value_digits size) value
  valued link piece value
reading_valued _ = Err F1

abbrev pub stored : ValuedPiece → Result (Link × Commit) LineFault
stored x = made_by x.link (commit.Store x.piece x.value)

abbrev pub loaded : ValuedPiece → Result (Link × Commit) LineFault
loaded x = made_by x.link (commit.Load x.piece x.value)

-- the beginning of a load
unfoldable pub reading_begin : List (List ℕ) → Result (Link × Commit) LineFault
reading_begin (link ∷ letter ∷ size ∷ address ∷ []) = do
  link ← number_in 2 link
  size ← number_in 1 size
  address ← number_in 8 address
  piece ← piece_of size address
  made_by link (commit.Begin piece)
reading_begin _ = Err F1

abbrev pub reading_on : Option Letter → List (List ℕ) → Result (Link × Commit) LineFault
reading_on None fields = Err F2
reading_on (Some S) fields = reading_valued fields >>= stored
reading_on (Some L) fields = reading_valued fields >>= loaded
reading_on (Some I) fields = reading_begin fields

unfoldable pub reading_fields : List (List ℕ) → Result (Link × Commit) LineFault
reading_fields fields = if nat_lt (length fields) 2 then Err F1 else reading_on (letter_named (field fields 1)) fields

-- how a line with its line feed is read
unfoldable pub reading_commit : List ℕ → Result (Link × Commit) LineFault
reading_commit line =
    if nat_lt 256 (length line) || not (ends_with_byte 10 line) then Err F1 else reading_fields
    (pieces (without_last line))
