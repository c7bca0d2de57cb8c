-- A commit's line read from left to right, as the code goes; only private clauses cite this.
use Rattle.std.specs.Prelude.{ℕ, ◌-◌, not, ◌||◌, ◌==◌, List, length, take, drop, Option, Some, None, Result, Err}
use Rattle.std.specs.Prelude.{nat_lt, if◌then◌else◌}
use Rattle.std.specs.List.{after_first}
use Rattle.std.specs.Io.BufRead.{ends_with_byte}
use Rattle.tl_beat.specs.declared.beat.Link.{Link}
use Rattle.tl_beat.specs.declared.fault.LineFault.{LineFault}
use Rattle.tl_beat.specs.declared.fault.LineFault.TheVariants.{F1, F2}
use Rattle.tl_beat.specs.code.FromLeft.{at_end, digits_at, field_at, letter_in, spaces_in}
use Rattle.tl_beat.specs.code.Reading.{◌>>=◌}
use Rattle.tl_events.specs.declared.commit.Commit.{Commit}
use Rattle.tl_events.specs.declared.commit.Commit.TheVariants as commit
use Rattle.tl_events.specs.code.CommitReading.{loaded, made_by, piece_of, stored, valued}
use Rattle.tl_events.specs.declared.read.ValuedPiece.{ValuedPiece}
use Rattle.tl_events.specs.statement.CommitLine.{value_digits}

-- n digits, and nothing after them
abbrev pub last_number_at : ℕ → List ℕ → Result ℕ LineFault
last_number_at n bytes = digits_at 0 n bytes >>= at_end

-- a store or a load
unfoldable pub valued_at : List ℕ → Result ValuedPiece LineFault
valued_at bytes = do
  link ← field_at 2 bytes
  size ← field_at 1 (drop 2 link.1)
  address ← field_at 8 size.1
  piece ← piece_of size.0 address.0
  value ← last_number_at (value_digits size.0) address.1
  valued link.0 piece value

-- the beginning of a load
unfoldable pub begin_at : List ℕ → Result (Link × Commit) LineFault
begin_at bytes = do
  link ← field_at 2 bytes
  size ← field_at 1 (drop 2 link.1)
  address ← last_number_at 8 size.1
  piece ← piece_of size.0 address
  made_by link.0 (commit.Begin piece)

abbrev pub line_with : Option ℕ → ℕ → List ℕ → Result (Link × Commit) LineFault
line_with None spaces body = Err F2
line_with (Some c) spaces body =
    if c == 83 then (if spaces == 4 then valued_at body >>= stored else Err F1) else
    if c == 76 then (if spaces == 4 then valued_at body >>= loaded else Err F1) else
    if c == 73 then (if spaces == 3 then begin_at body else Err F1) else Err F2

abbrev pub body_at : List ℕ → Result (Link × Commit) LineFault
body_at body =
    if spaces_in body == 0 then Err F1 else line_with (letter_in (after_first (λ b. b == 32) body)) (spaces_in body)
    body

-- a line with its line feed
abbrev pub line_at : List ℕ → Result (Link × Commit) LineFault
line_at line = if nat_lt 256 (length line) || not (ends_with_byte 10 line) then Err F1 else body_at
    (take (length line - 1) line)
