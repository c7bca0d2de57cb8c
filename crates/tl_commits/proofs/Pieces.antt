-- Pieces: their sizes and their digits.
use Rattle.std.proofs.Common.{◌≡◌, ◌≤◌, ◌<◌, ◌+◌, ◌%◌, ◌^◌, ◌&&◌, ℕ, zero, suc, Bool, true, arith, refl, ap₂, ◌∙◌}
use Rattle.std.proofs.Math.Numerals.{add-one}
use Rattle.tl_rules.specs.statement.Legality.{each_below}

-- the number of bytes of a piece
pub most-bytes : (size : ℕ) → size ≤ 3 → 2 ^ size ≤ 8
most-bytes zero le = omega arith
most-bytes (suc zero) le = omega arith
most-bytes (suc (suc zero)) le = omega arith
most-bytes (suc (suc (suc zero))) le = omega arith
most-bytes (suc (suc (suc (suc n)))) le = absurd (omega arith)

-- the addresses of a piece have 32 bits
pub piece-fits : (size address i : ℕ) → size ≤ 3 → address < 2 ^ 32 → address % 2 ^ size ≡ 0 → i < 2 ^ size
    → address + i < 2 ^ 32
piece-fits zero address i le lt even small = omega arith
piece-fits (suc zero) address i le lt even small = omega arith
piece-fits (suc (suc zero)) address i le lt even small = omega arith
piece-fits (suc (suc (suc zero))) address i le lt even small = omega arith
piece-fits (suc (suc (suc (suc n)))) address i le lt even small = absurd (omega arith)

-- one byte more passes a test
pub below-more : (n : ℕ) (test : ℕ → Bool) (now all next : Bool) → now ≡ test n → all ≡ each_below n test
    → next ≡ (now && all) → next ≡ each_below (n + 1) test
unfolding each_below
below-more n test now all next now_is all_is next_is = next_is ∙ rw (add-one, now_is, all_is) refl

pub below-none : (test : ℕ → Bool) → true ≡ each_below 0 test
unfolding each_below
below-none test = refl

-- two tests that say the same of each byte of a piece
pub each-below-same : (n : ℕ) (test other : ℕ → Bool) → ((i : ℕ) → i < n → test i ≡ other i)
    → each_below n test ≡ each_below n other
unfolding each_below
each-below-same zero test other same = refl
each-below-same (suc n) test other same =
    ap₂ (λ (a b : Bool). a && b) (same n (omega arith)) (each-below-same n test other (λ i lt. same i (omega (arith, lt))))
