-- Fields of digits at their places are read from left to right.
use Rattle.std.proofs.Common.{◌≡◌, ℕ, suc, ◌+◌, ◌-◌, ◌*◌, ◌<◌, ◌≤◌, Bool}
use Rattle.std.proofs.Common.{true, false, cond, List, [], ◌∷◌, ◌++◌, length}
use Rattle.std.proofs.Common.{take, drop, refl, sym, arith}
use Rattle.std.proofs.lemmas.List.{take_rest}
use Rattle.std.proofs.lemmas.Bool.{ltb-true, and_parts}
use Rattle.std.specs.Prelude.{Ok, slice_index, ◌&&◌, nat_lt}
use Rattle.tl_beat.specs.statement.Digits.{is_digit, digit_value}
use Rattle.tl_beat.specs.code.FromLeft.{value_or_16, digits_at, field_at, head_at}

-- a byte whose value is below 16 is a digit
pub record IsDigit (c v : ℕ) : Type 0 where
  pub is : is_digit c ≡ true
  pub value : digit_value c ≡ v

pub digit_is : (c v : ℕ) → v ≡ value_or_16 c → v < 16 → IsDigit c v
digit_is c v e lt = go (is_digit c) refl e
  where
    go : (b : Bool) → is_digit c ≡ b → v ≡ cond b (digit_value c) 16 → IsDigit c v
    go true is f = record { is = is; value = sym f }
    go false is f = absurd (omega arith)

pub digit_at-is : (number n c v : ℕ) (cs : List ℕ) → IsDigit c v
    → digits_at number (suc n) (c ∷ cs) ≡ digits_at (16 * number + v) n cs
unfolding digits_at
digit_at-is number n c v cs d = rw (d.is, d.value) refl

pub no_digit : (number : ℕ) (cs : List ℕ) → digits_at number 0 cs ≡ Ok (number, cs)
unfolding digits_at
no_digit number cs = refl

behind_zero : (v : ℕ) → 0 + v ≡ v
behind_zero v = omega arith

pub field_of_one : (c v : ℕ) (cs : List ℕ) → IsDigit c v → field_at 1 (c ∷ 32 ∷ cs) ≡ Ok (v, cs)
field_of_one c v cs d = rw (digit_at-is 0 0 c v (32 ∷ cs) d, no_digit (16 * 0 + v) (32 ∷ cs), behind_zero) refl

pub field_of_two : (c1 c0 v1 v0 : ℕ) (cs : List ℕ) → IsDigit c1 v1 → IsDigit c0 v0
    → field_at 2 (c1 ∷ c0 ∷ 32 ∷ cs) ≡ Ok (16 * v1 + v0, cs)
field_of_two c1 c0 v1 v0 cs d1 d0 =
    rw (
      digit_at-is 0 1 c1 v1 (c0 ∷ 32 ∷ cs) d1,
      digit_at-is (16 * 0 + v1) 0 c0 v0 (32 ∷ cs) d0,
      no_digit
          (16 * (16 * 0 + v1) + v0) (32 ∷ cs),
      behind_zero,
    ) refl

-- the values of the fields before the address are those of digits
abbrev head_digits : ℕ → ℕ → ℕ → ℕ → ℕ → ℕ → ℕ → Bool
head_digits l1 l0 o p z s1 s0 =
    ((nat_lt l1 16 && nat_lt l0 16) && (nat_lt s1 16 && nat_lt s0 16)) && ((nat_lt o 16 && nat_lt p 16) && nat_lt z 16)

pub are_pairs : (a b c d : ℕ) → ((nat_lt a 16 && nat_lt b 16) && (nat_lt c 16 && nat_lt d 16)) ≡ true
    → (a < 16) × (b < 16) × (c < 16) × (d < 16)
are_pairs a b c d e =
    let (ab, cd) = and_parts (nat_lt a 16 && nat_lt b 16) (nat_lt c 16 && nat_lt d 16) e in
    let (is_a, is_b) = and_parts (nat_lt a 16) (nat_lt b 16) ab in
    let (is_c, is_d) = and_parts (nat_lt c 16) (nat_lt d 16) cd in
    (ltb-true a 16 is_a, ltb-true b 16 is_b, ltb-true c 16 is_c, ltb-true d 16 is_d)

pub head_places : (bytes : List ℕ) (l1 l0 o p z s1 s0 : ℕ) → 14 ≤ length bytes
    → slice_index bytes 2 ≡ 32 → slice_index bytes 6 ≡ 32 → slice_index bytes 8 ≡ 32 → slice_index bytes 10 ≡ 32
    → slice_index bytes 13 ≡ 32
    → l1 ≡ value_or_16 (slice_index bytes 0) → l0 ≡ value_or_16 (slice_index bytes 1)
    → o ≡ value_or_16 (slice_index bytes 5) → p ≡ value_or_16 (slice_index bytes 7)
    → z ≡ value_or_16 (slice_index bytes 9)
    → s1 ≡ value_or_16 (slice_index bytes 11) → s0 ≡ value_or_16 (slice_index bytes 12)
    → head_digits l1 l0 o p z s1 s0 ≡ true
    → head_at bytes ≡ Ok (
      record { link = 16 * l1 + l0; opcode = o; param = p; size = z; source = 16 * s1 + s0 },
      take
          (length bytes - 14) (drop 14 bytes),
    )
unfolding head_at
head_places (x0 ∷ x1 ∷ x2 ∷ x3 ∷ x4 ∷ x5 ∷ x6 ∷ x7 ∷ x8 ∷ x9 ∷ x10 ∷ x11 ∷ x12 ∷ x13 ∷ rest) l1 l0 o p z s1 s0 long e2
    e6 e8 e10 e13 v0 v1 v5 v7 v9 v11 v12 small =
    let parts = and_parts ((nat_lt l1 16 && nat_lt l0 16) && (nat_lt s1 16 && nat_lt s0 16))
    ((nat_lt o 16 && nat_lt p 16) && nat_lt z 16) small in
    let (b0, b1, b11, b12) = are_pairs l1 l0 s1 s0 parts.0 in
    let (op, is_z) = and_parts (nat_lt o 16 && nat_lt p 16) (nat_lt z 16) parts.1 in
    let (is_o, is_p) = and_parts (nat_lt o 16) (nat_lt p 16) op in
    let b5 = ltb-true o 16 is_o in
    let b7 = ltb-true p 16 is_p in
    let b9 = ltb-true z 16 is_z in
    let bytes = x0 ∷ x1 ∷ x2 ∷ x3 ∷ x4 ∷ x5 ∷ x6 ∷ x7 ∷ x8 ∷ x9 ∷ x10 ∷ x11 ∷ x12 ∷ x13 ∷ rest in
    rw (
      take_rest bytes 14,
      e2,
      e6,
      e8,
      e10,
      e13,
      field_of_two x0 x1 l1 l0 (x3 ∷ x4 ∷ x5 ∷ 32 ∷ x7 ∷ 32 ∷ x9 ∷ 32 ∷ x11 ∷ x12 ∷ 32 ∷ rest) (digit_is x0 l1 v0 b0)
          (digit_is x1 l0 v1 b1),
      field_of_one x5 o (x7 ∷ 32 ∷ x9 ∷ 32 ∷ x11 ∷ x12 ∷ 32 ∷ rest) (digit_is x5 o v5 b5),
      field_of_one x7 p (x9 ∷ 32 ∷ x11 ∷ x12 ∷ 32 ∷ rest) (digit_is x7 p v7 b7),
      field_of_one x9 z (x11 ∷ x12 ∷ 32 ∷ rest) (digit_is x9 z v9 b9),
      field_of_two x11 x12 s1 s0 rest (digit_is x11 s1 v11 b11) (digit_is x12 s0 v12 b12),
    ) refl
head_places bytes l1 l0 o p z s1 s0 long e2 e6 e8 e10 e13 v0 v1 v5 v7 v9 v11 v12 small =
    absurd (omega arith)

pub field_of_eight : (bytes field behind : List ℕ) (number : ℕ) → bytes ≡ field ++ behind → 1 ≤ length behind
    → slice_index behind 0 ≡ 32 → digits_at 0 8 (field ++ behind) ≡ Ok (number, behind)
    → field_at 8 bytes ≡ Ok (number, take (length behind - 1) (drop 1 behind))
field_of_eight bytes field [] number e long space read = absurd (omega arith)
field_of_eight bytes field (c ∷ cs) number e long space read = rw (e, read, space, take_rest (c ∷ cs) 1) refl
