-- The values of a vector's bytes as digits, and whether each is a digit.
use Rattle.std.proofs.Common.{◌≡◌, ℕ, zero, suc, ◌+◌, ◌%◌, ◌^◌, ◌<◌, ◌≤◌, Bool, true, false, cond, ltb, List, [], ◌∷◌}
use Rattle.std.proofs.Common.{length, map, replicate, refl, sym, ap, ap₂, ◌∙◌, arith}
use Rattle.std.proofs.Math.Nat.{pow-suc}
use Rattle.std.proofs.lemmas.List.{length-map}
use Rattle.std.proofs.lemmas.Bool.Decides.{nat_tests}
use Rattle.std.proofs.lemmas.Simd.{mask_l-lt}
use Rattle.std.specs.List.{AllPass}
use Rattle.std.specs.Prelude.{⊤}
use Rattle.tl_beat.specs.statement.Digits.{is_digit}
use Rattle.tl_beat.specs.code.FromLeft.{value_or_16}
use Rattle.tl_beat.proofs.AtPlaces.{digit_is}
use Rattle.tl_beat.proofs.VectorDigits.{pass_cons, pass_none, minus, less}
use lib.Lanes.{top, mask_l, sel_l, zip2, Each1}
use mir.Syntax.{w8}
use mir.Val.{Fits}

-- one lane of the vector of values
abbrev lane : ℕ → ℕ
lane x = cond (top 7 (cond (ltb ((x + 208) % 256) 10) 255 0)) ((x + 208) % 256)
    (cond (top 7 (cond (ltb ((x + 159) % 256) 6) 255 0)) (((x + 159) % 256 + 10) % 256) 16)

lane_value : (x : ℕ) → x < 256 → lane x ≡ value_or_16 x
lane_value x lt = grind (arith, nat_tests)

abbrev plus : ℕ → ℕ → ℕ
plus a b = (a + b) % 256

-- the vector of values
pub values-are : (n : ℕ) (xs : List ℕ) → length xs ≡ n → Each1 (Fits w8) xs
    → sel_l (map (top 7) (zip2 less (zip2 minus xs (replicate n 48)) (replicate n 10))) (zip2 minus xs (replicate n 48))
    (sel_l (map (top 7) (zip2 less (zip2 minus xs (replicate n 97)) (replicate n 6)))
    (zip2 plus (zip2 minus xs (replicate n 97)) (replicate n 10)) (replicate n 16))
    ≡ map value_or_16 xs
values-are n [] e fits = refl
values-are zero (x ∷ xs) e fits = absurd (omega arith)
values-are (suc n) (x ∷ xs) e fits =
    ap₂ (λ (y : ℕ) (ys : List ℕ). y ∷ ys) (lane_value x fits.0.fits) (values-are n xs (omega (arith, e)) fits.1)

-- the vector of whether each value is a digit's
abbrev are_small : ℕ → List ℕ → List Bool
are_small n values = map (top 7) (zip2 less values (replicate n 16))

AreSmall : List ℕ → Type 0
AreSmall [] = ⊤
AreSmall (v ∷ vs) = (v < 16) × AreSmall vs

small_is : (v : ℕ) → top 7 (less v 16) ≡ true → v < 16
small_is v e = grind (arith, nat_tests)

all_set : (n : ℕ) (values : List ℕ) → length values ≡ n → mask_l (are_small n values) + 1 ≡ 2 ^ n → AreSmall values
unfolding AreSmall
all_set n [] e is = tt
all_set zero (v ∷ vs) e is = absurd (omega arith)
all_set (suc n) (v ∷ vs) e is = go (top 7 (less v 16)) refl is (all_set n vs (omega (arith, e)))
  where
    go : (b : Bool) → top 7 (less v 16) ≡ b → mask_l (b ∷ are_small n vs) + 1 ≡ 2 ^ suc n
        → (mask_l (are_small n vs) + 1 ≡ 2 ^ n → AreSmall vs) → (v < 16) × AreSmall vs
    go true h f more = (small_is v h, more (let twice = rw pow-suc at f in omega arith))
    go false h f more = absurd (let twice = rw pow-suc at f in omega arith)

length-small : (n : ℕ) (values : List ℕ) → length values ≡ n → length (are_small n values) ≡ n
length-small n [] e = e
length-small zero (v ∷ vs) e = absurd (omega arith)
length-small (suc n) (v ∷ vs) e = ap suc (length-small n vs (omega (arith, e)))

all_small : (n : ℕ) (values : List ℕ) (m : ℕ) → length values ≡ n → 2 ^ n ≡ m → m ≤ 65536
    → mask_l (are_small n values) % 18446744073709551616 + 1 ≡ m → AreSmall values
all_small n values m long is le e =
    let small : mask_l (are_small n values) < m =
    rw (length-small n values long, is) at (mask_l-lt (are_small n values)) in
    let full : mask_l (are_small n values) + 1 ≡ m = omega arith in
    all_set n values long (full ∙ sym is)

-- bytes whose values are below 16 are digits
small_pass : (xs : List ℕ) → AreSmall (map value_or_16 xs) → AllPass is_digit xs
unfolding AreSmall
small_pass [] s = pass_none
small_pass (x ∷ xs) s = pass_cons x xs (digit_is x (value_or_16 x) refl s.0).is (small_pass xs s.1)

pub eight_pass : (field values : List ℕ) → length field ≡ 8 → values ≡ map value_or_16 field
    → mask_l (are_small 8 values) % 18446744073709551616 ≡ 255 → AllPass is_digit field
eight_pass field values long is e =
    let count : length values ≡ 8 = ap length is ∙ length-map field value_or_16 ∙ long in
    small_pass field (rw is at (all_small 8 values 256 count refl (omega arith) (omega (arith, e))))
