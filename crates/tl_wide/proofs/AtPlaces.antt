-- The first fields of a wide line, each at its place, are read from left to right.
use Rattle.std.proofs.Common.{◌≡◌, ℕ, ◌+◌, ◌-◌, ◌*◌, ◌≤◌, Bool, true, List, ◌∷◌, length, take, drop, refl, arith}
use Rattle.std.proofs.lemmas.Bool.{ltb-true, and_parts}
use Rattle.std.proofs.lemmas.List.{take_rest}
use Rattle.std.specs.Prelude.{Ok, ◌&&◌, nat_lt, slice_index}
use Rattle.tl_beat.proofs.AtPlaces.{IsDigit, digit_is, digit_at-is, no_digit, field_of_one, field_of_two, are_pairs}
use Rattle.tl_beat.specs.code.FromLeft.{field_at, value_or_16}
use Rattle.tl_wide.specs.code.FromLeft.{head_at}

field_of_four : (c3 c2 c1 c0 v3 v2 v1 v0 : ℕ) (cs : List ℕ) → IsDigit c3 v3 → IsDigit c2 v2 → IsDigit c1 v1
    → IsDigit c0 v0
    → field_at 4 (c3 ∷ c2 ∷ c1 ∷ c0 ∷ 32 ∷ cs) ≡ Ok (256 * (16 * v3 + v2) + (16 * v1 + v0), cs)
field_of_four c3 c2 c1 c0 v3 v2 v1 v0 cs d3 d2 d1 d0 =
    let value : 16 * (16 * (16 * (16 * 0 + v3) + v2) + v1) + v0 ≡ 256 * (16 * v3 + v2) + (16 * v1 + v0) = omega arith in
    rw (
      digit_at-is 0 3 c3 v3 (c2 ∷ c1 ∷ c0 ∷ 32 ∷ cs) d3,
      digit_at-is (16 * 0 + v3) 2 c2 v2 (c1 ∷ c0 ∷ 32 ∷ cs) d2,
      digit_at-is (16 * (16 * 0 + v3) + v2) 1 c1 v1 (c0 ∷ 32 ∷ cs) d1,
      digit_at-is (16 * (16 * (16 * 0 + v3) + v2) + v1) 0 c0 v0 (32 ∷ cs) d0,
      no_digit (16 * (16 * (16 * (16 * 0 + v3) + v2) + v1) + v0) (32 ∷ cs),
      value,
    ) refl

-- four digits and a space, each at its place
pub id_places : (bytes : List ℕ) (s3 s2 s1 s0 : ℕ) → 5 ≤ length bytes → slice_index bytes 4 ≡ 32
    → s3 ≡ value_or_16 (slice_index bytes 0) → s2 ≡ value_or_16 (slice_index bytes 1)
    → s1 ≡ value_or_16 (slice_index bytes 2) → s0 ≡ value_or_16 (slice_index bytes 3)
    → ((nat_lt s3 16 && nat_lt s2 16) && (nat_lt s1 16 && nat_lt s0 16)) ≡ true
    → field_at 4 bytes ≡ Ok (256 * (16 * s3 + s2) + (16 * s1 + s0), take (length bytes - 5) (drop 5 bytes))
id_places (x3 ∷ x2 ∷ x1 ∷ x0 ∷ x ∷ rest) s3 s2 s1 s0 long e v3 v2 v1 v0 small =
    let (b3, b2, b1, b0) = are_pairs s3 s2 s1 s0 small in
    rw (take_rest (x3 ∷ x2 ∷ x1 ∷ x0 ∷ x ∷ rest) 5, e) (field_of_four x3 x2 x1 x0 s3 s2 s1 s0 rest
    (digit_is x3 s3 v3 b3) (digit_is x2 s2 v2 b2) (digit_is x1 s1 v1 b1) (digit_is x0 s0 v0 b0))
id_places bytes s3 s2 s1 s0 long e v3 v2 v1 v0 small = absurd (omega arith)

-- the values of the fields before the address are those of digits
abbrev head_digits : ℕ → ℕ → ℕ → ℕ → ℕ → ℕ → ℕ → ℕ → ℕ → Bool
head_digits l1 l0 o p z s3 s2 s1 s0 =
    ((nat_lt l1 16 && nat_lt l0 16) && ((nat_lt s3 16 && nat_lt s2 16) && (nat_lt s1 16 && nat_lt s0 16)))
    && ((nat_lt o 16 && nat_lt p 16) && nat_lt z 16)

pub head_places : (bytes : List ℕ) (l1 l0 o p z s3 s2 s1 s0 : ℕ) → 16 ≤ length bytes
    → slice_index bytes 2 ≡ 32 → slice_index bytes 6 ≡ 32 → slice_index bytes 8 ≡ 32 → slice_index bytes 10 ≡ 32
    → slice_index bytes 15 ≡ 32
    → l1 ≡ value_or_16 (slice_index bytes 0) → l0 ≡ value_or_16 (slice_index bytes 1)
    → o ≡ value_or_16 (slice_index bytes 5) → p ≡ value_or_16 (slice_index bytes 7)
    → z ≡ value_or_16 (slice_index bytes 9)
    → s3 ≡ value_or_16 (slice_index bytes 11) → s2 ≡ value_or_16 (slice_index bytes 12)
    → s1 ≡ value_or_16 (slice_index bytes 13) → s0 ≡ value_or_16 (slice_index bytes 14)
    → head_digits l1 l0 o p z s3 s2 s1 s0 ≡ true
    → head_at bytes ≡ Ok (
      record { link = 16 * l1 + l0; opcode = o; param = p; size = z; source = 256 * (16 * s3 + s2) + (16 * s1 + s0) },
      take (length bytes - 16) (drop 16 bytes),
    )
unfolding head_at
head_places (x0 ∷ x1 ∷ x2 ∷ x3 ∷ x4 ∷ x5 ∷ x6 ∷ x7 ∷ x8 ∷ x9 ∷ x10 ∷ x11 ∷ x12 ∷ x13 ∷ x14 ∷ x15 ∷ rest) l1 l0 o p z
    s3 s2 s1 s0 long e2 e6 e8 e10 e15 v0 v1 v5 v7 v9 v11 v12 v13 v14 small =
    let parts = and_parts ((nat_lt l1 16 && nat_lt l0 16)
    && ((nat_lt s3 16 && nat_lt s2 16) && (nat_lt s1 16 && nat_lt s0 16)))
    ((nat_lt o 16 && nat_lt p 16) && nat_lt z 16) small in
    let ends = and_parts (nat_lt l1 16 && nat_lt l0 16)
    ((nat_lt s3 16 && nat_lt s2 16) && (nat_lt s1 16 && nat_lt s0 16))
    parts.0 in
    let (is_l1, is_l0) = and_parts (nat_lt l1 16) (nat_lt l0 16) ends.0 in
    let (b11, b12, b13, b14) = are_pairs s3 s2 s1 s0 ends.1 in
    let (op, is_z) = and_parts (nat_lt o 16 && nat_lt p 16) (nat_lt z 16) parts.1 in
    let (is_o, is_p) = and_parts (nat_lt o 16) (nat_lt p 16) op in
    let b0 = ltb-true l1 16 is_l1 in
    let b1 = ltb-true l0 16 is_l0 in
    let b5 = ltb-true o 16 is_o in
    let b7 = ltb-true p 16 is_p in
    let b9 = ltb-true z 16 is_z in
    let bytes = x0 ∷ x1 ∷ x2 ∷ x3 ∷ x4 ∷ x5 ∷ x6 ∷ x7 ∷ x8 ∷ x9 ∷ x10 ∷ x11 ∷ x12 ∷ x13 ∷ x14 ∷ x15 ∷ rest in
    rw (
      take_rest bytes 16,
      e2,
      e6,
      e8,
      e10,
      e15,
      field_of_two x0 x1 l1 l0 (x3 ∷ x4 ∷ x5 ∷ 32 ∷ x7 ∷ 32 ∷ x9 ∷ 32 ∷ x11 ∷ x12 ∷ x13 ∷ x14 ∷ 32 ∷ rest)
          (digit_is x0 l1 v0 b0) (digit_is x1 l0 v1 b1),
      field_of_one x5 o (x7 ∷ 32 ∷ x9 ∷ 32 ∷ x11 ∷ x12 ∷ x13 ∷ x14 ∷ 32 ∷ rest) (digit_is x5 o v5 b5),
      field_of_one x7 p (x9 ∷ 32 ∷ x11 ∷ x12 ∷ x13 ∷ x14 ∷ 32 ∷ rest) (digit_is x7 p v7 b7),
      field_of_one x9 z (x11 ∷ x12 ∷ x13 ∷ x14 ∷ 32 ∷ rest) (digit_is x9 z v9 b9),
      field_of_four x11 x12 x13 x14 s3 s2 s1 s0 rest (digit_is x11 s3 v11 b11) (digit_is x12 s2 v12 b12)
          (digit_is x13 s1 v13 b13) (digit_is x14 s0 v14 b14),
    ) refl
head_places bytes l1 l0 o p z s3 s2 s1 s0 long e2 e6 e8 e10 e15 v0 v1 v5 v7 v9 v11 v12 v13 v14 small =
    absurd (omega arith)
