-- The tables of digits have the value of each byte, and the byte of each value.
use Rattle.std.proofs.Common.{◌≡◌, ℕ, zero, suc, ◌<◌, Bool, true, refl, arith, inl, inr}
use Rattle.std.specs.Prelude.{◌==◌, ◌&&◌, ◌⊎◌, slice_index_or}
use Rattle.std.proofs.lemmas.Bool.{eqb-true, and_parts}
use Rattle.tl_beat.specs.declared.read.field.TheConstants.{VALUES}
use Rattle.tl_beat.specs.declared.text.TheConstants.{DIGITS}
use Rattle.tl_beat.specs.statement.Digits.{digit_char}
use Rattle.tl_beat.specs.code.FromLeft.{value_or_16}

-- the first n entries are right
abbrev right : ℕ → Bool
right zero = true
right (suc n) = (slice_index_or VALUES n 0 == value_or_16 n) && right n

either : (n c : ℕ) → c < suc n → (c ≡ n) ⊎ (c < n)
either n c lt = grind arith

entry : (n c : ℕ) → right n ≡ true → c < n → slice_index_or VALUES c 0 ≡ value_or_16 c
entry zero c e lt = absurd (omega arith)
entry (suc n) c e lt =
    let parts = and_parts (slice_index_or VALUES n 0 == value_or_16 n) (right n) e in
    go (either n c lt) (eqb-true _ _ parts.0) (entry n c parts.1)
  where
    go : (c ≡ n) ⊎ (c < n) → slice_index_or VALUES n 0 ≡ value_or_16 n
        → (c < n → slice_index_or VALUES c 0 ≡ value_or_16 c) → slice_index_or VALUES c 0 ≡ value_or_16 c
    go (inl same) here more = rw same here
    go (inr lt) here more = more lt

pub table_value : (c : ℕ) → c < 256 → slice_index_or VALUES c 0 ≡ value_or_16 c
table_value c lt = entry 256 c refl lt

-- the first n digits are right
abbrev digits_right : ℕ → Bool
digits_right zero = true
digits_right (suc n) = (slice_index_or DIGITS n 0 == digit_char n) && digits_right n

digit_entry : (n d : ℕ) → digits_right n ≡ true → d < n → slice_index_or DIGITS d 0 ≡ digit_char d
digit_entry zero d e lt = absurd (omega arith)
digit_entry (suc n) d e lt =
    let parts = and_parts (slice_index_or DIGITS n 0 == digit_char n) (digits_right n) e in
    go (either n d lt) (eqb-true _ _ parts.0) (digit_entry n d parts.1)
  where
    go : (d ≡ n) ⊎ (d < n) → slice_index_or DIGITS n 0 ≡ digit_char n
        → (d < n → slice_index_or DIGITS d 0 ≡ digit_char d) → slice_index_or DIGITS d 0 ≡ digit_char d
    go (inl same) here more = rw same here
    go (inr lt) here more = more lt

pub digit_char-is : (d : ℕ) → d < 16 → slice_index_or DIGITS d 0 ≡ digit_char d
digit_char-is d lt = digit_entry 16 d refl lt
