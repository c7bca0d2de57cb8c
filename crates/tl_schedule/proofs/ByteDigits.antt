-- The digits of bytes, the last byte first.
use Rattle.std.proofs.Common.{◌≡◌, ◌<◌, ◌≤◌, ℕ, suc, ◌+◌, ◌-◌, ◌^◌, List, [], ◌∷◌, ◌++◌, length, get_or, take, drop}
use Rattle.std.proofs.Common.{refl, sym, ap, ◌∙◌, arith, append_assoc, lit<}
use Rattle.std.{proofs.Math.Nat.pow-le-pow_right, proofs.Math.Seq.drop-cons}
use Rattle.std.proofs.lemmas.List.{append-nil, drop-drop, drop_all, take-append-drop, take_all}
use Rattle.tl_beat.{specs.statement.Digits.digits, specs.statement.Digits.lane_digits, proofs.LaneDigits.halves-digits}

no_digits : lane_digits [] ≡ []
unfolding lane_digits
no_digits = refl

one_more_byte : (x : ℕ) (xs : List ℕ) → lane_digits (x ∷ xs) ≡ lane_digits xs ++ digits 2 x
unfolding lane_digits
one_more_byte x xs = refl

-- behind the last byte
pub nothing_behind : (n : ℕ) (bytes old : List ℕ) → length bytes ≤ n → old ≡ old ++ lane_digits (drop n bytes)
nothing_behind n bytes old le = rw (drop_all n bytes le, no_digits, append-nil) refl

pub append-step : (i : ℕ) (bytes old out pair : List ℕ) → i < length bytes
    → pair ≡ digits 2 (get_or bytes (length bytes - 1 - i) 0) → out ≡ old ++ lane_digits (drop (length bytes - i) bytes)
    → out ++ pair ≡ old ++ lane_digits (drop (length bytes - (i + 1)) bytes)
append-step i bytes old out pair lt two so_far =
    let at : length bytes - (i + 1) ≡ length bytes - 1 - i = omega arith in
    let after : length bytes - i ≡ suc (length bytes - 1 - i) = omega arith in
    let cut : drop (length bytes - 1 - i) bytes ≡ get_or bytes (length bytes - 1 - i) 0 ∷ drop
    (suc (length bytes - 1 - i)) bytes = drop-cons bytes (length bytes - 1 - i) 0 (omega arith) in
    rw (so_far, two, at, after, cut, one_more_byte)
    (append_assoc old (lane_digits (drop (suc (length bytes - 1 - i)) bytes))
    (digits 2 (get_or bytes (length bytes - 1 - i) 0)))

-- the digits of the eight bytes before those that are written
pub eight_more : (at : ℕ) (bytes old out eight : List ℕ) → eight ≡ lane_digits (take 8 (drop at bytes))
    → out ≡ old ++ lane_digits (drop (at + 8) bytes) → out ++ eight ≡ old ++ lane_digits (drop at bytes)
eight_more at bytes old out eight is so_far =
    let cut : drop at bytes ≡ take 8 (drop at bytes) ++ drop (at + 8) bytes = sym (take-append-drop 8 (drop at bytes))
    ∙ ap (λ (xs : List ℕ). take 8 (drop at bytes) ++ xs) (drop-drop 8 at bytes) in
    halves-digits old out (out ++ eight) (drop at bytes) (take 8 (drop at bytes)) (drop (at + 8) bytes) so_far
    (ap (λ (xs : List ℕ). out ++ xs) is) cut

-- the two digits, one after the other
pub both-pushed : (x : ℕ) (text pair : List ℕ) → pair ≡ digits 2 x
    → (text ++ get_or pair 0 0 ∷ []) ++ get_or pair 1 0 ∷ [] ≡ text ++ pair
unfolding digits
both-pushed x text pair two = rw (two, append_assoc) refl

-- bytes of a block are at most those of a size from 6 on
pub all_shown : (size : ℕ) (bytes : List ℕ) → 6 ≤ size → length bytes ≤ 64 → bytes ≡ take (2 ^ size) bytes
all_shown size bytes great few =
    let many : 2 ^ 6 ≤ 2 ^ size = pow-le-pow_right {n = 2} (lit< tt) {i = 6} {j = size} great in
    sym (take_all (2 ^ size) bytes (omega (arith, many, few)))
