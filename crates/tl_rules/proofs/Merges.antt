-- Lanes chosen by the bits of a mask are the merge.
use Rattle.std.proofs.Common.{◌≡◌, ℕ, zero, suc, ◌+◌, ◌*◌, ◌^◌, ◌<◌, Bool, cond, eqb, List, [], ◌∷◌, length, refl, sym}
use Rattle.std.proofs.Common.{ap, ◌∙◌, arith, inl, inr, bit_and}
use Rattle.std.specs.Int.{bit_at}
use Rattle.std.proofs.lemmas.Nat.Bits.{and_pow, bit_at-lt, bit_at_cat_low}
use Rattle.std.proofs.lemmas.Nat.{pow-add}
use Rattle.std.proofs.Math.Nat.{div-div-eq-div-mul}
use Rattle.std.proofs.Common.{◌++◌, ◌≤◌, ◌/◌, ◌%◌, take, drop, take-add, add-zero, zero-add}
use Rattle.std.proofs.lemmas.List.{take_at, drop_at, length-take-le, length-drop, drop-drop}
use Rattle.std.proofs.lemmas.Bool.{cases_eq, ne_eqb}
use mathlib.Core.Bool.{not}
use lib.Lanes.{top, sel_l}
use Rattle.tl_rules.specs.code.Merge.{merged}

abbrev pub test : ℕ → ℕ → Bool
test m k = top 7 (cond (not (eqb (bit_and m (2 ^ k)) 0)) 255 0)

abbrev pub tests : ℕ → ℕ → ℕ → List Bool
tests m i zero = []
tests m i (suc n) = test m i ∷ tests m (i + 1) n

-- the lane of a bit that is a or 0, where it is a power of two
lane_of : (p b : ℕ) → 0 < p → b < 2 → top 7 (cond (not (eqb (b * p) 0)) 255 0) ≡ eqb b 1
lane_of p b pos lt =
    elim (cases_eq b 0) [
      | inl none ↦ rw none (let e : 0 * p ≡ 0 = omega arith in rw e refl)
      | inr some ↦
          let one : b ≡ 1 = omega arith in
          rw one (let ne : 1 * p ≡ 0 → ⊥ = omega arith in rw (ne_eqb (1 * p) 0 ne) refl)
    ]

pub test-is : (m k : ℕ) → 0 < 2 ^ k → test m k ≡ eqb (bit_at m k) 1
test-is m k pos = rw (and_pow m k) (lane_of (2 ^ k) (bit_at m k) pos (bit_at-lt m k))

-- choosing by the tests is the merge
pub chosen-is : (m i n : ℕ) (xs ys : List ℕ) → ((k : ℕ) → 0 < 2 ^ k) → length xs ≡ n → length ys ≡ n
    → sel_l (tests m i n) ys xs ≡ merged m i xs ys
chosen-is m i zero [] ys pos a b = refl
chosen-is m i zero (x ∷ xs) ys pos a b = absurd (omega arith)
chosen-is m i (suc n) [] ys pos a b = absurd (omega arith)
chosen-is m i (suc n) (x ∷ xs) [] pos a b = absurd (omega arith)
chosen-is m i (suc n) (x ∷ xs) (y ∷ ys) pos a b =
    let p : length xs ≡ n = omega arith in
    let q : length ys ≡ n = omega arith in
    rw (test-is m i (pos i), chosen-is m (i + 1) n xs ys pos p q) refl

-- ---- a piece of the bytes

bit_at_shifted : (m at k : ℕ) → k < 8 → bit_at (m / 2 ^ at % 256) k ≡ bit_at m (at + k)
bit_at_shifted m at k lt =
    let whole : m / 2 ^ at / 256 * 2 ^ 8 + m / 2 ^ at % 256 ≡ m / 2 ^ at = omega arith in
    sym (bit_at_cat_low (m / 2 ^ at / 256) 8 (m / 2 ^ at % 256) k lt) ∙ ap (λ n. bit_at n k) whole
    ∙ rw (div-div-eq-div-mul m (2 ^ at) (2 ^ k), ← pow-add) refl

merged_shifted : (m at i : ℕ) (xs ys : List ℕ) → i + length xs ≤ 8
    → merged (m / 2 ^ at % 256) i xs ys ≡ merged m (at + i) xs ys
merged_shifted m at i [] ys le = refl
merged_shifted m at i (x ∷ xs) [] le = refl
merged_shifted m at i (x ∷ xs) (y ∷ ys) le =
    let lt : i < 8 = omega arith in
    let more : i + 1 + length xs ≤ 8 = omega arith in
    let place : at + (i + 1) ≡ at + i + 1 = omega arith in
    rw (bit_at_shifted m at i lt, merged_shifted m at (i + 1) xs ys more, place) refl

merged-append : (m i : ℕ) (cs ds xs ys : List ℕ) → length cs ≡ length ds
    → merged m i (cs ++ xs) (ds ++ ys) ≡ merged m i cs ds ++ merged m (i + length cs) xs ys
merged-append m i [] [] xs ys e = rw add-zero refl
merged-append m i [] (d ∷ ds) xs ys e = absurd (omega arith)
merged-append m i (c ∷ cs) [] xs ys e = absurd (omega arith)
merged-append m i (c ∷ cs) (d ∷ ds) xs ys e =
    let same : length cs ≡ length ds = omega arith in
    let place : i + 1 + length cs ≡ i + suc (length cs) = omega arith in
    rw (merged-append m (i + 1) cs ds xs ys same, place) refl

length-merged : (m i : ℕ) (xs ys : List ℕ) → length (merged m i xs ys) ≡ length xs
length-merged m i [] ys = refl
length-merged m i (x ∷ xs) [] = refl
length-merged m i (x ∷ xs) (y ∷ ys) = ap suc (length-merged m (i + 1) xs ys)

-- eight more bytes
pub eight_more : (m at : ℕ) (old new now : List ℕ) → length old ≡ length new → at + 8 ≤ length old
    → now ≡ merged m 0 (take at old) (take at new) ++ drop at old
    → take at now ++ merged (m / 2 ^ at % 256) 0 (take 8 (drop at now)) (take 8 (drop at new)) ++ drop (at + 8) now
    ≡ merged m 0 (take (at + 8) old) (take (at + 8) new) ++ drop (at + 8) old
eight_more m at old new now same le is =
    let done = merged m 0 (take at old) (take at new) in
    let long : length (take at old) ≡ at = length-take-le at old (omega arith) in
    let long' : length (take at new) ≡ at = length-take-le at new (omega arith) in
    let full : length done ≡ at = length-merged m 0 (take at old) (take at new) ∙ long in
    let eight : length (take 8 (drop at old)) ≡ 8 = length-take-le 8 (drop at old) (omega (arith, length-drop at old))
    in
    let front : take at now ≡ done = ap (take at) is ∙ take_at done (drop at old) at full in
    let back : drop at now ≡ drop at old = ap (drop at) is ∙ drop_at done (drop at old) at full in
    let rest : drop (at + 8) now ≡ drop (at + 8) old = sym (drop-drop 8 at now) ∙ ap (drop 8) back ∙ drop-drop 8 at old
    in
    let shifted = merged_shifted m at 0 (take 8 (drop at old)) (take 8 (drop at new)) (omega arith) in
    let joined = merged-append m 0 (take at old) (take at new) (take 8 (drop at old)) (take 8 (drop at new))
    (long ∙ sym long') in
    let split : (xs : List ℕ) → take (at + 8) xs ≡ take at xs ++ take 8 (drop at xs) = λ xs. take-add at 8 xs in
    rw (front, back, rest, split old, split new, joined, long, shifted, zero-add, add-zero) refl
