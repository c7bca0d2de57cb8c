-- Bytes written over zeros, and numbers of several bytes.
use Rattle.std.proofs.Common.{◌≡◌, ℕ, zero, suc, ◌+◌, ◌-◌, ◌*◌, ◌<◌, ◌≤◌, List, ◌++◌, length, take, drop, get_or}
use Rattle.std.proofs.Common.{replicate, refl, ap, ◌∙◌, arith, add-zero, zero-add, inl, inr, lit<}
use Rattle.std.specs.Int.{from_le_bytes, w64}
use Rattle.std.proofs.lemmas.Bool.{cases_lt}
use Rattle.std.proofs.lemmas.List.{append-nil, length-drop, length-take, length-replicate, get_or-replicate}
use Rattle.std.proofs.lemmas.List.{length-take-le, take-replicate, drop-replicate}
use Rattle.std.proofs.lemmas.List.{get_or-drop, get_or-take, get_or_past, get_or_append_left, get_or-append_right}
use Rattle.tl_rules.specs.statement.Effect.{number_from}
use Rattle.tl_rules.specs.code.Place.{moved_up}

-- 64 zeros with bytes written from a place on
pub over_zeros : (at : ℕ) (new out : List ℕ) → at + length new ≤ 64
    → out ≡ take at (replicate 64 0) ++ new ++ drop (at + length new) (replicate 64 0)
    → out ≡ replicate at 0 ++ new ++ replicate (64 - at - length new) 0
over_zeros at new out le is =
    let few : at ≤ 64 = omega arith in
    let rest : 64 - (at + length new) ≡ 64 - at - length new = omega arith in
    is ∙ rw (take-replicate {X = ℕ} at 64 0 few, drop-replicate {X = ℕ} (at + length new) 64 0, rest) refl

-- nothing is left of them above
pub over_zeros_to_end : (at : ℕ) (bytes new out : List ℕ) → at ≤ 64 → length bytes ≡ 64 → new ≡ take (64 - at) bytes
    → out ≡ take at (replicate 64 0) ++ new ++ drop (at + length new) (replicate 64 0)
    → out ≡ replicate at 0 ++ take (64 - at) bytes
over_zeros_to_end at bytes new out le long new_is is =
    let n : length new ≡ 64 - at = ap length new_is ∙ length-take-le (64 - at) bytes (omega arith) in
    let none : 64 - at - length new ≡ 0 = omega arith in
    over_zeros at new out (omega arith) is ∙ rw (none, append-nil) (ap (λ xs. replicate at 0 ++ xs) new_is)

-- a part of other bytes
pub over_zeros_part : (at from count : ℕ) (bytes new out : List ℕ) → at + count ≤ 64 → from + count ≤ 64
    → length bytes ≡ 64 → new ≡ take count (drop from bytes)
    → out ≡ take at (replicate 64 0) ++ new ++ drop (at + length new) (replicate 64 0)
    → out ≡ replicate at 0 ++ take count (drop from bytes) ++ replicate
    (64 - at - length (take count (drop from bytes))) 0
over_zeros_part at from count bytes new out le le' long new_is is =
    let n : length new ≡ count = ap length new_is ∙ length-take-le count (drop from bytes)
    (omega (arith, length-drop from bytes)) in
    over_zeros at new out (omega arith) is ∙ ap (λ xs. replicate at 0 ++ xs ++ replicate (64 - at - length xs) 0) new_is

-- bytes stay bytes
pub moved_fits : (n : ℕ) (bytes out : List ℕ) → ((i : ℕ) → get_or bytes i 0 < 256) → out ≡ moved_up n bytes → (i : ℕ)
    → get_or out i 0 < 256
moved_fits n bytes out fits is i =
    let front : length (replicate {A = ℕ} n 0) ≡ n = length-replicate {A = ℕ} n 0 in
    rw is (elim (cases_lt i n) [
      | inl below ↦ rw (
        get_or_append_left {A = ℕ} (replicate n 0) (take (64 - n) bytes) 0 i (omega arith),
        get_or-replicate {A = ℕ} n i 0 0 below,
      ) (lit< tt)
      | inr from ↦ rw (get_or-append_right {X = ℕ} (replicate n 0) (take (64 - n) bytes) n i 0 front from)
          (elim (cases_lt (i - n) (64 - n)) [
            | inl inside ↦ rw (get_or-take (64 - n) bytes (i - n) 0 inside) (fits (i - n))
            | inr past ↦ rw (get_or_past (take (64 - n) bytes) (i - n) 0 (omega (arith, length-take (64 - n) bytes)))
                (lit< tt)
          ])
    ])

-- ---- numbers

get_or_zeros : (n i : ℕ) → get_or {A = ℕ} (replicate n 0) i 0 ≡ 0
get_or_zeros n i = elim (cases_lt i n) [
  | inl lt ↦ get_or-replicate {A = ℕ} n i 0 0 lt
  | inr le ↦ get_or_past {X = ℕ} (replicate n 0) i 0 (omega (arith, length-replicate {A = ℕ} n 0))
]

pub number_same : (f g : ℕ → ℕ) (a b n : ℕ) → ((i : ℕ) → i < n → f (a + i) ≡ g (b + i))
    → number_from f a n ≡ number_from g b n
unfolding number_from
number_same f g a b zero same = refl
number_same f g a b (suc n) same =
    let first : f a ≡ g b = rw (add-zero, add-zero) at (same 0 (omega arith)) in
    let more : (i : ℕ) → i < n → f (a + 1 + i) ≡ g (b + 1 + i) =
    λ i lt. ap f (omega arith) ∙ same (i + 1) (omega arith) ∙ ap g (omega arith) in
    rw (first, number_same f g (a + 1) (b + 1) n more) refl

number_zeros : (f : ℕ → ℕ) (a n : ℕ) → ((i : ℕ) → f (a + i) ≡ 0) → number_from f a n ≡ 0
unfolding number_from
number_zeros f a zero zeros = refl
number_zeros f a (suc n) zeros =
    let first : f a ≡ 0 = rw add-zero at (zeros 0) in
    let more : (i : ℕ) → f (a + 1 + i) ≡ 0 = λ i. ap f (omega arith) ∙ zeros (i + 1) in
    rw (first, number_zeros f (a + 1) n more) refl

-- zeros above a number don't count
number_below : (f : ℕ → ℕ) (a n m : ℕ) → n ≤ m → ((i : ℕ) → n ≤ i → f (a + i) ≡ 0)
    → number_from f a m ≡ number_from f a n
unfolding number_from
number_below f a zero m le zeros = number_zeros f a m (λ i. zeros i (omega arith))
number_below f a (suc n) zero le zeros = absurd (omega arith)
number_below f a (suc n) (suc m) le zeros =
    let less : n ≤ m = omega arith in
    let more : (i : ℕ) → n ≤ i → f (a + 1 + i) ≡ 0 = λ i le. ap f (omega arith) ∙ zeros (i + 1) (omega arith) in
    rw (number_below f (a + 1) n m less more) refl

eight_bytes : (f : ℕ → ℕ) → f 0 + f 1 * 256 + f 2 * 65536 + f 3 * 16777216 + f 4 * 4294967296 + f 5 * 1099511627776 + f
    6 * 281474976710656 + f 7 * 72057594037927936 ≡ number_from f 0 8
unfolding number_from
eight_bytes f = omega arith

low_byte : (low zeros : List ℕ) (count i : ℕ) → length low ≡ count → zeros ≡ replicate 8 0 → count ≤ i
    → get_or (low ++ drop count zeros) (0 + i) 0 ≡ 0
low_byte low zeros count i long is le =
    rw (
      zero-add,
      is,
      drop-replicate {X = ℕ} count 8 0,
      get_or-append_right {X = ℕ} low (replicate (8 - count) 0) count
          i 0 long le,
    ) (get_or_zeros (8 - count) (i - count))

pub low_bytes : (bytes low eight : List ℕ) (at count n : ℕ) → count ≤ 8 → at + count ≤ length bytes
    → low ≡ take count (drop at bytes) → eight ≡ low ++ drop (length low) (replicate 8 0)
    → n ≡ from_le_bytes w64 eight → n ≡ number_from (λ i. get_or bytes i 0) at count
low_bytes bytes low eight at count n few inside low_is is n_is =
    let long : length low ≡ count = ap length low_is ∙ length-take-le count (drop at bytes)
    (omega (arith, length-drop at bytes)) in
    let eight_is : eight ≡ low ++ drop count (replicate 8 0) = is ∙ ap (λ k. low ++ drop k (replicate 8 0)) long in
    let high : (i : ℕ) → count ≤ i → get_or eight (0 + i) 0 ≡ 0 =
    λ i le. ap (λ xs. get_or xs (0 + i) 0) eight_is ∙ low_byte low (replicate 8 0) count i long refl le in
    let same : (i : ℕ) → i < count → get_or eight (0 + i) 0 ≡ get_or bytes (at + i) 0 =
    λ i lt. let below : i < length low = omega arith in ap (λ xs. get_or xs (0 + i) 0) eight_is
    ∙ rw (
      zero-add,
      get_or_append_left low (drop count (replicate 8 0)) 0 i below,
      low_is,
      get_or-take count (drop at bytes) i 0 lt,
      get_or-drop at bytes i 0,
    ) refl in
    n_is ∙ eight_bytes (λ i. get_or eight i 0) ∙ number_below (λ i. get_or eight i 0) 0 count 8 few high ∙ number_same
    (λ i. get_or eight i 0) (λ i. get_or bytes i 0) 0 at count same
