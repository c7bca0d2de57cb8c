-- The place of the first LF cuts the first line off.
use Rattle.std.proofs.Common.{◌≡◌, ◌<◌, ◌≤◌, ℕ, suc, ◌+◌, ◌-◌, ◌*◌, ◌^◌, List, [], ◌∷◌, ◌++◌, length, take, drop, get_or, map}
use Rattle.std.proofs.Common.{true, false, Bool, cond, refl, ap, ◌∙◌, arith, inl, inr}
use Rattle.std.proofs.Math.Nat.{mul_assoc, mul_comm, pow-suc}
use Rattle.std.proofs.Math.Pow.{pow_mono}
use Rattle.std.proofs.Math.Seq.{take-add}
use Rattle.std.proofs.lemmas.Bool.{eqb-true, cases_lt}
use Rattle.std.proofs.lemmas.List.{drop-drop, get_or-take, length-drop, length-map, length-take, length-take-le, map-append}
use Rattle.std.proofs.lemmas.List.{take-append-drop, take_more, take_rest}
use Rattle.std.proofs.lemmas.List.Elements.{All-from_get_or}
use Rattle.std.proofs.lemmas.Simd.{mask_l-lt, none_from_empty_mask, run_in_chunk_fails, run_in_chunk_stops, trailing_mask_l}
use Rattle.std.specs.Int.Count.{count_trailing_zeros}
use Rattle.std.specs.List.{prefix_len}
use Rattle.std.specs.Prelude.{◌==◌, not}
use Rattle.std.specs.Simd.Lanes.{mask_l}
use Rattle.memchr.specs.Find.{NoneBefore, Passes, is_byte}
use Rattle.tl_lines.specs.code.FirstLine.{marks}
use Rattle.tl_lines.specs.statement.Lines.{LacksLf, IsLine}

not_true : (b : Bool) → (b ≡ true → ⊥) → b ≡ false
not_true true apart = absurd (apart refl)
not_true false apart = refl

-- the bytes up to an LF, and it
pub cut_line : (bytes : List ℕ) (k : ℕ) → NoneBefore (Passes (is_byte 10) bytes) 0 (length bytes) k
    → Passes (is_byte 10) bytes k
    → IsLine (take (k + 1) bytes) × (take (k + 1) bytes ++ drop (k + 1) bytes ≡ bytes)
cut_line bytes k first is =
    let lf : get_or bytes k 0 ≡ 10 = eqb-true (get_or bytes k 0) 10 is in
    let size : length (take k bytes) ≡ k = length-take-le k bytes (omega (arith, first.high)) in
    let lacks : LacksLf (take k bytes) = All-from_get_or (λ b. (b == 10) ≡ false) (take k bytes) 0 (λ i lt.
    let near : i < k = omega (arith, size, lt) in
    rw (get_or-take k bytes i 0 near) (not_true (get_or bytes i 0 == 10) (first.before i (omega arith) near))) in
    let more : take (k + 1) bytes ≡ take k bytes ++ 10 ∷ [] =
    take_more bytes k 0 first.high ∙ ap (λ (x : ℕ). take k bytes ++ x ∷ []) lf in
    ((take k bytes, lacks, more), take-append-drop (k + 1) bytes)

-- of two parts, the marks of the second stand above those of the first
doubled : (c a p m : ℕ) → c + 2 * (a + p * m) ≡ (c + 2 * a) + (p * 2) * m
doubled c a p m = omega (arith, ap (λ n. n * m) (mul_comm p 2) ∙ mul_assoc 2 p m)

mask_l-append : (xs ys : List Bool) → mask_l (xs ++ ys) ≡ mask_l xs + 2 ^ length xs * mask_l ys
mask_l-append [] ys = omega arith
mask_l-append (x ∷ xs) ys =
    rw (mask_l-append xs ys, pow-suc 2 (length xs))
    (doubled (cond x 1 0) (mask_l xs) (2 ^ length xs) (mask_l ys))

marks-append : (xs ys : List ℕ) → length xs ≡ 16 → marks (xs ++ ys) ≡ marks xs + 65536 * marks ys
marks-append xs ys size =
    let long : length (map (is_byte 10) xs) ≡ 16 = length-map xs (is_byte 10) ∙ size in
    ap mask_l (map-append (is_byte 10) xs ys) ∙ mask_l-append (map (is_byte 10) xs) (map (is_byte 10) ys)
    ∙ ap (λ n. marks xs + 2 ^ n * marks ys) long

-- the marks of 48 bytes
pub near_marks : (bytes : List ℕ) → 48 ≤ length bytes
    → marks (take 48 bytes) ≡ marks (take 16 bytes) + 65536 * marks (take 16 (drop 16 bytes))
    + 4294967296 * marks (take 16 (drop 32 bytes))
near_marks bytes room =
    let a = take 16 bytes in
    let b = take 16 (drop 16 bytes) in
    let c = take 16 (drop 32 bytes) in
    let cut : take 48 bytes ≡ a ++ (b ++ c) = take-add 16 32 bytes ∙ ap (λ (x : List ℕ). a ++ x) (take-add 16 16 (drop 16 bytes) ∙ ap (λ (x : List ℕ). b ++ take 16 x) (drop-drop 16 16 bytes)) in
    let first : marks (a ++ (b ++ c)) ≡ marks a + 65536 * marks (b ++ c) = marks-append a (b ++ c) (length-take-le 16 bytes (omega arith)) in
    let second : marks (b ++ c) ≡ marks b + 65536 * marks c = marks-append b c (length-take-le 16 (drop 16 bytes) (omega (arith, length-drop 16 bytes))) in
    ap marks cut ∙ first ∙ omega (arith, second)

pub marks-lt : (bytes : List ℕ) → marks (take 16 bytes) < 65536
marks-lt bytes =
    let ms = map (is_byte 10) (take 16 bytes) in
    let few : length ms ≤ 16 = omega (arith, length-map (take 16 bytes) (is_byte 10), length-take 16 bytes) in
    omega (arith, mask_l-lt ms, pow_mono few)

-- those of 16 bytes of a rest
pub rest_marks : (bytes : List ℕ) (i r : ℕ) → r ≡ marks (take 16 (take (length bytes - i) (drop i bytes)))
    → (r ≡ marks (take 16 (drop i bytes))) × (r < 65536)
rest_marks bytes i r is =
    let same : r ≡ marks (take 16 (drop i bytes)) = is ∙ ap (λ (rest : List ℕ). marks (take 16 rest)) (take_rest bytes i) in
    (same, omega (arith, same, marks-lt (drop i bytes)))

-- where a byte is marked, a byte that isn't LF doesn't end the run
below : (b : Bool) (n m l : ℕ) → 0 < cond b 1 0 + 2 * n → (0 < n → m < l) → cond (not b) (1 + m) 0 < suc l
below true n m l some f = omega arith
below false n m l some f = omega (arith, f (omega arith))

run_stops : (bytes : List ℕ) → 0 < marks bytes → prefix_len (λ b. not (is_byte 10 b)) bytes < length bytes
run_stops [] some = absurd (omega arith)
run_stops (b ∷ bytes) some =
    below (is_byte 10 b) (marks bytes) (prefix_len (λ b. not (is_byte 10 b)) bytes) (length bytes) some (run_stops bytes)

-- the lowest mark of some bytes is the first LF of all, if none is before those
pub marked_line : (bytes : List ℕ) (i n : ℕ) → i + n ≤ length bytes → n ≤ 64
    → ((k : ℕ) → k < i → is_byte 10 (get_or bytes k 0) ≡ false)
    → 0 < marks (take n (drop i bytes)) → (k : ℕ) → k ≡ i + count_trailing_zeros 64 (marks (take n (drop i bytes)))
    → NoneBefore (Passes (is_byte 10) bytes) 0 (length bytes) k × Passes (is_byte 10) bytes k
marked_line bytes i n room few none some k at =
    let part = take n (drop i bytes) in
    let r = prefix_len (λ b. not (is_byte 10 b)) part in
    let size : length part ≡ n = length-take-le n (drop i bytes) (omega (arith, length-drop i bytes)) in
    let place : k ≡ i + r = at ∙ ap (λ x. i + x) (trailing_mask_l (is_byte 10) 64 part (omega arith) some) in
    let short : r < n = omega (arith, run_stops part some) in (
      record {
        low = omega arith;
        high = omega arith;
        before = λ j low high lf.
            let other : is_byte 10 (get_or bytes j 0) ≡ false = elim (cases_lt j i) [
              | inl near ↦ none j near
              | inr far ↦ run_in_chunk_fails (is_byte 10) bytes i n r 0 room refl j far (omega arith)
            ] in
            absurd cc;
      },
      rw place (run_in_chunk_stops (is_byte 10) bytes i n r 0 room refl short),
    )

-- no byte without a mark is LF
pub unmarked : (bytes : List ℕ) (n : ℕ) → n ≤ length bytes → marks (take n bytes) ≡ 0 → (k : ℕ) → k < n
    → is_byte 10 (get_or bytes k 0) ≡ false
unmarked bytes n room none k near =
    none_from_empty_mask (is_byte 10) bytes 0 n 0 (omega arith) none k (omega arith) (omega arith)
