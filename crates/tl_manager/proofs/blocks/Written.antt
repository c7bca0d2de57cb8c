-- A block that is written reads back, and the others stay.
use Rattle.tl_manager.proofs.Imports.{Memory, bytes_from, with_block}
use Rattle.std.proofs.Common.{◌≡◌, ℕ, suc, ◌+◌, ◌*◌, ◌/◌, ◌%◌, ◌<◌, List, [], ◌∷◌, length, refl, sym, ◌∙◌, ap, ap₂}
use Rattle.std.proofs.Common.{arith}
use Rattle.std.{specs.Prelude.slice_index, proofs.lemmas.Bool.eq-eqb}

pub bytes_are : (f : Memory) (x : ℕ) (bytes : List ℕ) → ((i : ℕ) → i < length bytes → f (x + i) ≡ slice_index bytes i)
    → bytes_from f x (length bytes) ≡ bytes
unfolding bytes_from
bytes_are f x [] e = refl
bytes_are f x (b ∷ bytes) e =
    let at_first : x + 0 ≡ x = omega arith in
    let first : f x ≡ b = rw at_first at (e 0 (omega arith)) in
    ap₂ (λ c cs. c ∷ cs) first (bytes_are f (x + 1) bytes (λ i lt. let later : x + 1 + i ≡ x + suc i = omega arith in
    rw later (e (suc i) (omega (arith, lt)))))

pub block-written : (n : ℕ) (bytes : List ℕ) (memory : Memory) → length bytes ≡ 64
    → bytes_from (with_block n bytes memory) (64 * n) 64 ≡ bytes
block-written n bytes memory long =
    ap (bytes_from (with_block n bytes memory) (64 * n)) (sym long) ∙ bytes_are (with_block n bytes memory) (64 * n)
    bytes (λ i lt. at i (omega (arith, lt, long)))
  where
    at : (i : ℕ) → i < 64 → with_block n bytes memory (64 * n + i) ≡ slice_index bytes i
    at i lt =
        let block : (64 * n + i) / 64 ≡ n = omega (arith, lt) in
        let place : (64 * n + i) % 64 ≡ i = omega (arith, lt) in
        rw (block, place, eq-eqb n n refl) refl
