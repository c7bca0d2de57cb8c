-- What is known while the times of a trace's lines are read.
use Rattle.std.specs.Prelude.{◌≡◌, ◌+◌, ◌∷◌, ◌++◌, ⊤, ℕ, List, [], bytes_eq, if◌then◌else◌, length}
use Rattle.std.specs.List.{AllZip}
use Rattle.tl_lines.specs.statement.Lines.{IsOpen}
use Rattle.tl_times.specs.code.Splitting.{are_cited, cited}
use Rattle.tl_times.specs.declared.piece.Piece.{Piece}
use Rattle.tl_times.specs.declared.times.TimeLines.{TimeLines}
use Rattle.tl_times.specs.statement.Pieces.{Cited}
use Rattle.tl_times.specs.statement.Timed.{time_of, time_text}

-- the piece has this time in addition, if it cites the line of this number
abbrev pub IsNoted : List ℕ → List ℕ → Piece → Piece → Type 0
IsNoted number time old new =
    (cited new ≡ cited old)
    × (new.time.items ≡ old.time.items ++ (if bytes_eq old.line.now number then time else []))

abbrev pub AreNoted : List ℕ → List ℕ → List Piece → List Piece → Type 0
AreNoted number time old new = AllZip (IsNoted number time) old new

-- each piece has the time of its line, by these lines of times
unfoldable pub AreTimed : List (List ℕ) → List Piece → Type 0
AreTimed lines [] = ⊤
AreTimed lines (piece ∷ pieces) = (piece.time.items ≡ time_of lines piece.line.now) × AreTimed lines pieces

-- these lines have been read
abbrev pub KnowsTimes : TimeLines → List (List ℕ) → List ℕ → Type 0
KnowsTimes t lines text = (t.next ≡ length lines + 2) × AreTimed lines t.pieces.items

-- the lines before the first that has no LF, or more than 256 bytes, have been read
abbrev pub EndsTimes : TimeLines → List (List ℕ) → Type 0
EndsTimes t lines =
    (front : List (List ℕ)) × (line : List ℕ) × (more : List (List ℕ)) × (lines ≡ front ++ line ∷ more) × IsOpen line
    × AreTimed front t.pieces.items

-- the text of a piece, with the time
abbrev pub said : Piece → List ℕ
said piece = piece.text.now ++ time_text piece.time.items

-- what the pieces cite
abbrev pub cites : TimeLines → List Cited
cites t = are_cited t.pieces.items
