-- Digits of a number, and of lanes, that are written in parts.
use Rattle.std.proofs.Common.{◌≡◌, ◌≤◌, ◌<◌, ℕ, zero, suc, ◌+◌, ◌-◌, ◌*◌, ◌/◌, ◌%◌, ◌^◌, List, [], ◌++◌, length, take, drop}
use Rattle.std.proofs.Common.{refl, sym, ◌∙◌, ap, arith}
use Rattle.std.proofs.Math.Nat.{div-div-eq-div-mul}
use Rattle.std.proofs.lemmas.List.{append-nil, drop-drop, drop_all, take-append-drop}
use Rattle.std.proofs.lemmas.Nat.{pow-add}
use Rattle.tl_beat.{proofs.LaneDigits.halves-digits, specs.statement.Digits.digits, specs.statement.Digits.lane_digits}

-- ---- a number

low-digit : (k n : ℕ) → k < 8 → n % 2 ^ 32 / 2 ^ (4 * k) % 16 ≡ n / 2 ^ (4 * k) % 16
low-digit zero n lt = omega arith
low-digit (suc zero) n lt = omega arith
low-digit (suc (suc zero)) n lt = omega arith
low-digit (suc (suc (suc zero))) n lt = omega arith
low-digit (suc (suc (suc (suc zero)))) n lt = omega arith
low-digit (suc (suc (suc (suc (suc zero))))) n lt = omega arith
low-digit (suc (suc (suc (suc (suc (suc zero)))))) n lt = omega arith
low-digit (suc (suc (suc (suc (suc (suc (suc zero))))))) n lt = omega arith
low-digit (suc (suc (suc (suc (suc (suc (suc (suc k)))))))) n lt = absurd (omega (arith, lt))

-- up to eight digits are those of the lowest 32 bits
pub low-digits : (k n : ℕ) → k ≤ 8 → digits k (n % 2 ^ 32) ≡ digits k n
unfolding digits
low-digits zero n le = refl
low-digits (suc k) n le = rw (low-digit k n (omega (arith, le)), low-digits k n (omega (arith, le))) refl

high-digit : (k n : ℕ) → n / 2 ^ (4 * (k + 8)) % 16 ≡ n / 2 ^ 32 / 2 ^ (4 * k) % 16
high-digit k n =
    let places : 4 * (k + 8) ≡ 32 + 4 * k = omega arith in
    rw (div-div-eq-div-mul n (2 ^ 32) (2 ^ (4 * k)), places, pow-add 2 32 (4 * k)) refl

above : (k n : ℕ) → digits (k + 8) n ≡ digits k (n / 2 ^ 32) ++ digits 8 n
unfolding digits
above zero n = refl
above (suc k) n = let more : suc k + 8 ≡ suc (k + 8) = omega arith in rw more (rw (high-digit k n, above k n) refl)

-- more than eight
pub high-digits : (count n : ℕ) → 8 ≤ count
    → digits (count - 8) (n / 2 ^ 32) ++ digits 8 (n % 2 ^ 32) ≡ digits count n
high-digits count n many =
    let whole : count ≡ count - 8 + 8 = omega (arith, many) in
    ap (λ (t : List ℕ). digits (count - 8) (n / 2 ^ 32) ++ t) (low-digits 8 n (omega arith))
    ∙ sym (above (count - 8) n) ∙ ap (λ (k : ℕ). digits k n) (sym whole)

-- ---- lanes

no-digits : lane_digits [] ≡ []
unfolding lane_digits
no-digits = refl

-- behind the last lane
pub nothing-behind : (n : ℕ) (lanes old : List ℕ) → length lanes ≤ n → old ≡ old ++ lane_digits (drop n lanes)
nothing-behind n lanes old le = rw (drop_all n lanes le, no-digits, append-nil) refl

-- the digits of the eight lanes before those that are written
pub eight-more : (at : ℕ) (lanes old out eight : List ℕ) → eight ≡ lane_digits (take 8 (drop at lanes))
    → out ≡ old ++ lane_digits (drop (at + 8) lanes) → out ++ eight ≡ old ++ lane_digits (drop at lanes)
eight-more at lanes old out eight is so-far =
    let cut : drop at lanes ≡ take 8 (drop at lanes) ++ drop (at + 8) lanes = sym (take-append-drop 8 (drop at lanes))
    ∙ ap (λ (xs : List ℕ). take 8 (drop at lanes) ++ xs) (drop-drop 8 at lanes) in
    halves-digits old out (out ++ eight) (drop at lanes) (take 8 (drop at lanes)) (drop (at + 8) lanes) so-far
    (ap (λ (xs : List ℕ). out ++ xs) is) cut
