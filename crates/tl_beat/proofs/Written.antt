-- Digits and lanes that are written one after another.
use Rattle.std.proofs.Common.{◌≡◌, ℕ, suc, ◌+◌, ◌-◌, ◌*◌, ◌/◌, ◌%◌, ◌^◌, ◌<◌, List, [], ◌∷◌, ◌++◌, length, get_or, take}
use Rattle.std.proofs.Common.{refl, sym, ap, ◌∙◌, arith, append_assoc}
use Rattle.std.proofs.lemmas.List.{append-nil, take_more}
use Rattle.tl_beat.proofs.SpelledDigits.{lane_digits-last}
use Rattle.tl_beat.specs.statement.Digits.{digit_char, digits, lane_digits}

digits-more : (w k n : ℕ) → w ≡ suc k → digits w n ≡ digit_char (n / 2 ^ (4 * k) % 16) ∷ digits k n
unfolding digits
digits-more w k n e = rw e refl

-- one more digit is written
pub append_one : (xs old : List ℕ) (w i n d : ℕ) → i < w → xs ++ digits (w - i) n ≡ old
    → d ≡ digit_char (n / 2 ^ (4 * (w - 1 - i)) % 16) → (xs ++ d ∷ []) ++ digits (w - (i + 1)) n ≡ old
append_one xs old w i n d lt so_far is =
    let left : w - i ≡ suc (w - 1 - i) = omega arith in
    let k : w - (i + 1) ≡ w - 1 - i = omega arith in
    rw (k, is, append_assoc) (rw (digits-more (w - i) (w - 1 - i) n left) at so_far)

pub digits-none : (w n : ℕ) → w ≡ 0 → digits w n ≡ []
unfolding digits
digits-none w n e = rw e refl

-- one more lane is written, from the last one down
pub append_lane : (xs old lanes : List ℕ) (n i : ℕ) → i < n → length lanes ≡ n
    → xs ++ lane_digits (take (n - i) lanes) ≡ old
    → (xs ++ digits 2 (get_or lanes (n - 1 - i) 0)) ++ lane_digits (take (n - (i + 1)) lanes) ≡ old
append_lane xs old lanes n i lt len so_far =
    let left : n - i ≡ n - (i + 1) + 1 = omega arith in
    let place : n - 1 - i ≡ n - (i + 1) = omega arith in
    let more : take (n - i) lanes ≡ take (n - (i + 1)) lanes ++ get_or lanes (n - (i + 1)) 0 ∷ [] =
    rw left (take_more lanes (n - (i + 1)) 0 (omega arith)) in
    append_assoc xs (digits 2 (get_or lanes (n - 1 - i) 0)) (lane_digits (take (n - (i + 1)) lanes))
    ∙ ap (λ (k : ℕ). xs ++ (digits 2 (get_or lanes k 0) ++ lane_digits (take (n - (i + 1)) lanes))) place
    ∙ ap (λ (t : List ℕ). xs ++ t) (sym (lane_digits-last (take (n - (i + 1)) lanes) (get_or lanes (n - (i + 1)) 0))
    ∙ ap lane_digits (sym more))
    ∙ so_far

pub lanes-none : (xs lanes : List ℕ) (n : ℕ) → n ≡ 0 → xs ++ lane_digits (take n lanes) ≡ xs
unfolding lane_digits
lanes-none xs lanes n e = rw e (append-nil xs)
