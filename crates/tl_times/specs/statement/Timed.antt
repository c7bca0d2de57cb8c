-- An explanation with the times of the lines that it cites.
use Rattle.std.specs.Prelude.{ℕ, List, [], ◌∷◌, ◌++◌, suc, if◌then◌else◌, bytes_eq, codes, decimal}
use Rattle.std.specs.Prelude.{◌≡◌, ◌⊎◌, Option}
use Rattle.std.specs.Io.KnownBytes.{Consumes, IsAtEnd}
use Rattle.std.specs.List.{flat_map}
use Rattle.tl_lines.specs.statement.Lines.{IsOpen, lines_of}
use Rattle.tl_times.specs.statement.Pieces.{after_digits, front_digits, pieces}

-- the number that a line is, without its LF; none if the line is no number
abbrev pub number_in : List ℕ → List ℕ
number_in line = if bytes_eq (after_digits line) (codes "\n") then front_digits line else []

-- The time of the line whose number has these digits. The first of the times is that of line n.
unfoldable pub time_from : ℕ → List (List ℕ) → List ℕ → List ℕ
time_from n [] digits = []
time_from n (time ∷ times) digits =
    (if bytes_eq digits (decimal n) then number_in time else []) ++ time_from (suc n) times digits

-- The header of a trace has no time: the first is that of line 2.
abbrev pub time_of : List (List ℕ) → List ℕ → List ℕ
time_of times digits = time_from 2 times digits

-- a time in words; nothing if there is none
abbrev pub time_text : List ℕ → List ℕ
time_text [] = []
time_text time = codes " (time " ++ (time ++ codes ")")

-- An explanation with these times of the trace's lines, each after the place that cites its line.
abbrev pub timed : List (List ℕ) → List ℕ → List ℕ
timed times text = flat_map (λ c. c.text ++ time_text (time_of times c.line)) (pieces text)

-- These lines of times are read: all of the input, or those before the first that has no LF or more than 256 bytes.
abbrev pub ReadsTimes : Option (List ℕ) → Option (List ℕ) → List (List ℕ) → Type 0
ReadsTimes had left lines =
    (read : List ℕ) × Consumes had left read
    × ((lines_of read ≡ lines) × IsAtEnd left
    ⊎ ((line : List ℕ) × (more : List (List ℕ)) × (lines_of read ≡ lines ++ line ∷ more) × IsOpen line))
