-- Digits of a number that are written in two parts.
use Rattle.std.proofs.Common.{◌≡◌, ◌≤◌, ◌<◌, ℕ, zero, suc, ◌+◌, ◌-◌, ◌*◌, ◌/◌, ◌%◌, ◌^◌, List, ◌++◌, refl, sym, ◌∙◌}
use Rattle.std.proofs.Common.{Result, Ok, Err, ap, arith}
use Rattle.std.specs.Prelude.{OnOk, is_ok, if◌then◌else◌}
use Rattle.std.proofs.Math.Nat.{div-div-eq-div-mul}
use Rattle.std.proofs.lemmas.Nat.{pow-add}
use Rattle.tl_beat.specs.statement.Digits.{digits}

-- a digit of the lowest 32 bits
low_digit : (k n : ℕ) → k < 8 → n % 2 ^ 32 / 2 ^ (4 * k) % 16 ≡ n / 2 ^ (4 * k) % 16
low_digit zero n lt = omega arith
low_digit (suc zero) n lt = omega arith
low_digit (suc (suc zero)) n lt = omega arith
low_digit (suc (suc (suc zero))) n lt = omega arith
low_digit (suc (suc (suc (suc zero)))) n lt = omega arith
low_digit (suc (suc (suc (suc (suc zero))))) n lt = omega arith
low_digit (suc (suc (suc (suc (suc (suc zero)))))) n lt = omega arith
low_digit (suc (suc (suc (suc (suc (suc (suc zero))))))) n lt = omega arith
low_digit (suc (suc (suc (suc (suc (suc (suc (suc k)))))))) n lt = absurd (omega (arith, lt))

-- up to eight digits
pub low_digits : (k n : ℕ) → k ≤ 8 → digits k (n % 2 ^ 32) ≡ digits k n
unfolding digits
low_digits zero n le = refl
low_digits (suc k) n le = rw (low_digit k n (omega (arith, le)), low_digits k n (omega (arith, le))) refl

-- a digit above the lowest 32 bits
high_digit : (k n : ℕ) → n / 2 ^ (4 * (k + 8)) % 16 ≡ n / 2 ^ 32 / 2 ^ (4 * k) % 16
high_digit k n =
    let places : 4 * (k + 8) ≡ 32 + 4 * k = omega arith in
    rw (div-div-eq-div-mul n (2 ^ 32) (2 ^ (4 * k)), places, pow-add 2 32 (4 * k)) refl

-- more than eight
above : (k n : ℕ) → digits (k + 8) n ≡ digits k (n / 2 ^ 32) ++ digits 8 n
unfolding digits
above zero n = refl
above (suc k) n = let more : suc k + 8 ≡ suc (k + 8) = omega arith in rw more (rw (high_digit k n, above k n) refl)

pub high_digits : (count n : ℕ) → 8 ≤ count
    → digits (count - 8) (n / 2 ^ 32) ++ digits 8 (n % 2 ^ 32) ≡ digits count n
high_digits count n many =
    let whole : count ≡ count - 8 + 8 = omega (arith, many) in
    ap (λ (t : List ℕ). digits (count - 8) (n / 2 ^ 32) ++ t) (low_digits 8 n (omega arith))
    ∙ sym (above (count - 8) n) ∙ ap (λ (k : ℕ). digits k n) (sym whole)

-- ---- what is appended

-- what was shown was appended
pub appended : {X E : Type 0} (r : Result X E) (old new shown text : List ℕ)
    → new ≡ (if is_ok r then old ++ shown else old) → shown ≡ text → OnOk r (new ≡ old ++ text)
appended (Ok x) old new shown text e same = e ∙ ap (λ (t : List ℕ). old ++ t) same
appended (Err x) old new shown text e same = tt
