-- The digits of eight lanes as a vector are those that are written one after another.
use Rattle.std.proofs.Common.{◌≡◌, ℕ, ◌+◌, ◌-◌, ◌*◌, ◌/◌, ◌%◌, ◌^◌, ◌<◌, cond, ltb, List, [], ◌∷◌, ◌++◌, length, take}
use Rattle.std.proofs.Common.{drop, get_or, refl, sym, ap, ◌∙◌, arith, append_assoc}
use Rattle.std.proofs.lemmas.Bool.Decides.{nat_tests}
use Rattle.std.proofs.lemmas.List.{append-nil, take-append-drop, take_rest}
use Rattle.tl_beat.specs.statement.Digits.{digit_char, digits, lane_digits}
use lib.Lanes.{top}

-- one lane of the vector of digits
abbrev lane_char : ℕ → ℕ
lane_char v = cond (top 7 (cond (ltb v 10) 255 0)) ((v + 48) % 256) ((v + 87) % 256)

char_is : (v : ℕ) → v < 16 → lane_char v ≡ digit_char v
char_is v lt = grind (arith, nat_tests)

two_digits : (x : ℕ) → x < 256 → lane_char (x / 16) ∷ lane_char (x * 16 % 256 / 16) ∷ [] ≡ digits 2 x
unfolding digits
two_digits x lt =
    let high : x / 2 ^ 4 % 16 ≡ x / 16 = omega arith in
    let low : x / 2 ^ 0 % 16 ≡ x * 16 % 256 / 16 = omega arith in
    rw (char_is (x / 16) (omega arith), char_is (x * 16 % 256 / 16) (omega arith), high, low) refl

abbrev spelled : List ℕ → List ℕ
spelled xs =
    lane_char (get_or xs 7 0 / 16) ∷ lane_char ((get_or xs 7 0 * 16 % 256) / 16) ∷ lane_char (get_or xs 6 0 / 16)
    ∷ lane_char ((get_or xs 6 0 * 16 % 256) / 16) ∷ lane_char (get_or xs 5 0 / 16) ∷ lane_char
    ((get_or xs 5 0 * 16 % 256) / 16)
    ∷ lane_char (get_or xs 4 0 / 16) ∷ lane_char ((get_or xs 4 0 * 16 % 256) / 16) ∷ lane_char (get_or xs 3 0 / 16)
    ∷ lane_char ((get_or xs 3 0 * 16 % 256) / 16) ∷ lane_char (get_or xs 2 0 / 16) ∷ lane_char
    ((get_or xs 2 0 * 16 % 256) / 16)
    ∷ lane_char (get_or xs 1 0 / 16) ∷ lane_char ((get_or xs 1 0 * 16 % 256) / 16) ∷ lane_char (get_or xs 0 0 / 16)
    ∷ lane_char ((get_or xs 0 0 * 16 % 256) / 16) ∷ []

pub eight-digits : (xs : List ℕ) → length xs ≡ 8 → ((i : ℕ) → get_or xs i 0 < 256) → spelled xs ≡ lane_digits xs
unfolding lane_digits
eight-digits (x0 ∷ x1 ∷ x2 ∷ x3 ∷ x4 ∷ x5 ∷ x6 ∷ x7 ∷ []) len fits =
    rw (
      ← two_digits x0 (fits 0),
      ← two_digits x1 (fits 1),
      ← two_digits x2 (fits 2),
      ← two_digits x3 (fits 3),
      ← two_digits x4 (fits 4),
      ← two_digits x5 (fits 5),
      ← two_digits x6 (fits 6),
      ← two_digits x7 (fits 7),
    ) refl
eight-digits xs len fits = absurd (omega arith)

pub lane_digits-append : (xs ys : List ℕ) → lane_digits (xs ++ ys) ≡ lane_digits ys ++ lane_digits xs
unfolding lane_digits
lane_digits-append [] ys = sym (append-nil (lane_digits ys))
lane_digits-append (x ∷ xs) ys =
    ap (λ (t : List ℕ). t ++ digits 2 x) (lane_digits-append xs ys) ∙ append_assoc (lane_digits ys) (lane_digits xs)
    (digits 2 x)

-- the last lanes are written, and then the first
pub halves-digits : (text one two xs front back : List ℕ) → one ≡ text ++ lane_digits back
    → two ≡ one ++ lane_digits front
    → xs ≡ front ++ back → two ≡ text ++ lane_digits xs
halves-digits text one two xs front back e f whole =
    f ∙ ap (λ (t : List ℕ). t ++ lane_digits front) e ∙ append_assoc text (lane_digits back) (lane_digits front)
    ∙ ap (λ (t : List ℕ). text ++ t) (sym (lane_digits-append front back) ∙ ap lane_digits (sym whole))

pub halves : (xs : List ℕ) → xs ≡ take 8 xs ++ take (length xs - 8) (drop 8 xs)
halves xs = sym (take-append-drop 8 xs) ∙ ap (λ (t : List ℕ). take 8 xs ++ t) (sym (take_rest xs 8))
