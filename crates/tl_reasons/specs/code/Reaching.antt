-- What is known of a line while an input is read.
use Rattle.std.specs.Prelude.{◌≡◌, ◌<◌, ◌++◌, ◌∷◌, ℕ, zero, suc, Bool, true, false, List, [], length, ◌==◌, if◌then◌else◌}
use Rattle.tl_reasons.specs.declared.line_front.LineFront.{LineFront}
use Rattle.tl_reasons.specs.statement.Fronts.{front_after}
use Rattle.tl_lines.specs.statement.Lines.{LacksLf}

-- the bytes behind so many LFs
unfoldable pub behind : ℕ → List ℕ → List ℕ
behind zero bytes = bytes
behind (suc n) [] = []
behind (suc n) (b ∷ bytes) = if b == 10 then behind n bytes else behind (suc n) bytes

-- Of the line after `good` lines these bytes have come, after `before` more lines have ended; or its front has, whatever
-- follows.
abbrev pub HasCome : ℕ → ℕ → List ℕ → Bool → List ℕ → Type 0
HasCome good before front true read = (rest : List ℕ) → front_after good (read ++ rest) ≡ front
HasCome good before front false read =
    LacksLf front × (length front < 257) × (0 < before → front ≡ [])
    × ((rest : List ℕ) → behind good (read ++ rest) ≡ behind before (front ++ rest))

-- these bytes have been read
abbrev pub KnowsFront : ℕ → LineFront → List ℕ → Type 0
KnowsFront good line read = HasCome good line.before line.front.items line.is_whole read

-- one more byte was read
abbrev pub TakesByte : LineFront → LineFront → ℕ → Type 0
TakesByte old new b = (good : ℕ) (read : List ℕ) → KnowsFront good old read → KnowsFront good new (read ++ b ∷ [])

-- more bytes were read
abbrev pub TakesBytes : LineFront → LineFront → List ℕ → Type 0
TakesBytes old new bytes = (good : ℕ) (read : List ℕ) → KnowsFront good old read → KnowsFront good new (read ++ bytes)
