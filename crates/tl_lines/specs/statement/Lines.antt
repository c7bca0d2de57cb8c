-- The lines of an input.
use Rattle.std.specs.Prelude.{◌≡◌, ℕ, ◌<◌, ◌≤◌, ◌-◌, ◌^◌, false, List, [], ◌∷◌, ◌++◌, length, ◌==◌, if◌then◌else◌}
use Rattle.std.specs.Prelude.{◌⊎◌, All, count_by, take}
use Rattle.std.specs.Io.BufRead.{ends_with_byte}

-- a byte before the first of these lines
abbrev pub before_first : ℕ → List (List ℕ) → List (List ℕ)
before_first b [] = (b ∷ []) ∷ []
before_first b (line ∷ lines) = (b ∷ line) ∷ lines

-- the lines of an input, each with the LF at its end; a rest without LF is a line too
unfoldable pub lines_of : List ℕ → List (List ℕ)
lines_of [] = []
lines_of (b ∷ bs) = if b == 10 then (b ∷ []) ∷ lines_of bs else before_first b (lines_of bs)

-- no byte is LF
abbrev pub LacksLf : List ℕ → Type 0
LacksLf bytes = All (λ b. (b == 10) ≡ false) bytes

-- an LF at the end, and no other
abbrev pub IsLine : List ℕ → Type 0
IsLine bytes = (front : List ℕ) × LacksLf front × (bytes ≡ front ++ 10 ∷ [])

-- no LF at the end, or more than 256 bytes
abbrev pub IsOpen : List ℕ → Type 0
IsOpen line = (ends_with_byte 10 line ≡ false) ⊎ (256 < length line)

-- the number of lines that have ended
abbrev pub ended_lines : List ℕ → ℕ
ended_lines bytes = count_by (λ b. b == 10) bytes

-- whole lines: nothing, or an LF at the end
abbrev pub AreWhole : List ℕ → Type 0
AreWhole bytes = (bytes ≡ []) ⊎ ((front : List ℕ) × (bytes ≡ front ++ 10 ∷ []))

-- the lines that have ended
abbrev pub lines_ended : List ℕ → List (List ℕ)
lines_ended read = take (ended_lines read) (lines_of read)

-- no number is left for the line after these
abbrev pub RunsOut : List ℕ → Type 0
RunsOut read = 2 ^ 64 - 1 ≤ ended_lines read
