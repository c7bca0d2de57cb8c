-- A line as it is shown.
use Rattle.std.proofs.Common.{◌≡◌, ◌<◌, ◌/◌, ◌%◌, ℕ, false, [], ◌∷◌, ◌++◌, refl, ap₂, arith, codes}
use Rattle.tl_beat.specs.statement.Digits.{digit_char, digits}
use Rattle.tl_explain.specs.statement.Shown.{byte_text, is_printable, under}

-- the digits of a byte
two-digits : (b : ℕ) → b < 256 → digits 2 b ≡ digit_char (b / 16) ∷ digit_char (b % 16) ∷ []
unfolding digits
two-digits b lt =
    ap₂ (λ (x y : ℕ). digit_char x ∷ digit_char y ∷ []) (omega (arith, lt)) (omega arith)

-- a byte that isn't printable
pub escaped : (b high low : ℕ) → b < 256 → is_printable b ≡ false → high ≡ digit_char (b / 16)
    → low ≡ digit_char (b % 16) → codes "\\x" ++ high ∷ low ∷ [] ≡ byte_text b
escaped b high low lt not first last = rw (not, two-digits b lt, first, last) refl

-- it has four characters
pub four_marks : (mark b : ℕ) → is_printable b ≡ false → mark ∷ mark ∷ mark ∷ mark ∷ [] ≡ under mark b
unfolding digits
four_marks mark b not = rw not refl
