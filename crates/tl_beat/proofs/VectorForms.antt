-- A vector of bytes follows a form where no lane is beyond its range.
use Rattle.std.proofs.Common.{◌≡◌, ℕ, zero, suc, ◌+◌, ◌-◌, ◌%◌, ◌^◌, ◌<◌, Bool, true, false, cond, eqb, List, [], ◌∷◌}
use Rattle.std.proofs.Common.{length, map, replicate, refl, ap, ap₂, arith, inl, inr}
use Rattle.std.proofs.Math.Nat.{pow-suc}
use Rattle.std.proofs.lemmas.Bool.{eqb-true}
use Rattle.std.proofs.lemmas.Bool.Decides.{nat_tests}
use Rattle.std.proofs.lemmas.Simd.{mask_l-lt}
use Rattle.std.specs.Bool.{OnTrue}
use Rattle.std.specs.Prelude.{◌==◌, ◌||◌, ◌⊎◌}
use Rattle.tl_beat.specs.statement.Digits.{is_digit}
use Rattle.tl_beat.specs.code.Form.{may_stand, Follow, beyond, beyond_form, each_beyond}
use Rattle.tl_beat.proofs.VectorDigits.{minus, less}
use lib.Lanes.{top, mask_l, sel_l, zip2, Each1}
use mir.Syntax.{w8}
use mir.Val.{Fits}

abbrev equal : ℕ → ℕ → ℕ
equal a b = cond (eqb a b) 255 0

-- ---- how far each byte is beyond its range

-- the places of a form that have this byte
abbrev are : ℕ → ℕ → List ℕ → List Bool
are n y fs = map (top 7) (zip2 equal fs (replicate n y))

abbrev lows : ℕ → ℕ → List ℕ → List ℕ
lows n first fs = sel_l (are n 35 fs) (replicate n first) (sel_l (are n 63 fs) (replicate n 48) fs)

abbrev mores : ℕ → ℕ → List ℕ → List ℕ
mores n more fs =
    sel_l (are n 35 fs) (replicate n more)
    (sel_l (are n 63 fs) (replicate n 1) (sel_l (are n 46 fs) (replicate n 255) (replicate n 0)))

abbrev beyonds : ℕ → ℕ → ℕ → List ℕ → List ℕ → List ℕ
beyonds n first more fs xs =
    zip2 minus (sel_l (map (top 7) (zip2 less (zip2 minus xs (lows n first fs)) (mores n more fs))) (mores n more fs)
    (zip2 minus xs (lows n first fs))) (mores n more fs)

no_less : (m y : ℕ) → m < 256 → y < 256 → minus (cond (top 7 (less m y)) y m) y ≡ m - y
no_less m y lm ly = grind (arith, nat_tests)

below : (a b : ℕ) → minus a b < 256
below a b = omega arith

-- one lane
abbrev low_if : Bool → Bool → ℕ → ℕ → ℕ
low_if p q first f = cond (top 7 (cond p 255 0)) first (cond (top 7 (cond q 255 0)) 48 f)

abbrev more_if : Bool → Bool → Bool → ℕ → ℕ
more_if p q r more = cond (top 7 (cond p 255 0)) more (cond (top 7 (cond q 255 0)) 1 (cond (top 7 (cond r 255 0)) 255 0))

abbrev lane_if : Bool → Bool → Bool → ℕ → ℕ → ℕ → ℕ → ℕ
lane_if p q r first more f x =
    minus (cond (top 7 (less (minus x (low_if p q first f)) (more_if p q r more))) (more_if p q r more)
    (minus x (low_if p q first f))) (more_if p q r more)

lane : (p q r : Bool) (first more f x : ℕ) → more < 256
    → lane_if p q r first more f x
    ≡ cond p (beyond first more x) (cond q (beyond 48 1 x) (cond r (beyond f 255 x) (beyond f 0 x)))
lane true q r first more f x lt = no_less (minus x first) more (below x first) lt
lane false true r first more f x lt = no_less (minus x 48) 1 (below x 48) (omega arith)
lane false false true first more f x lt = no_less (minus x f) 255 (below x f) (omega arith)
lane false false false first more f x lt = no_less (minus x f) 0 (below x f) (omega arith)

pub beyonds-are : (n first more : ℕ) (fs xs : List ℕ) → length fs ≡ n → length xs ≡ n → more < 256
    → beyonds n first more fs xs ≡ each_beyond first more fs xs
beyonds-are n first more [] [] e f lt = refl
beyonds-are n first more [] (x ∷ xs) e f lt = absurd (omega arith)
beyonds-are n first more (y ∷ fs) [] e f lt = absurd (omega arith)
beyonds-are zero first more (y ∷ fs) (x ∷ xs) e f lt = absurd (omega arith)
beyonds-are (suc n) first more (y ∷ fs) (x ∷ xs) e f lt =
    ap₂ (λ (z : ℕ) (zs : List ℕ). z ∷ zs) (lane (eqb y 35) (eqb y 63) (eqb y 46) first more y x lt)
    (beyonds-are n first more fs xs (omega (arith, e)) (omega (arith, f)) lt)

-- ---- where none is beyond both

least_zero : (a b : ℕ) → top 7 (equal (cond (top 7 (less a b)) a b) 0) ≡ true → (a ≡ 0) ⊎ (b ≡ 0)
least_zero a b e = grind (arith, nat_tests)

digit_stands : (x : ℕ) → x < 256 → (beyond 48 9 x ≡ 0) ⊎ (beyond 97 5 x ≡ 0) → is_digit x ≡ true
digit_stands x lt (inl e) = grind (arith, nat_tests)
digit_stands x lt (inr e) = grind (arith, nat_tests)

same : (a : ℕ) → (a ≡ 0) ⊎ (a ≡ 0) → a ≡ 0
same a (inl e) = e
same a (inr e) = e

bit_stands : (x : ℕ) → x < 256 → beyond 48 1 x ≡ 0 → ((x == 48) || (x == 49)) ≡ true
bit_stands x lt e = grind (arith, nat_tests)

byte_stands : (f x : ℕ) → f < 256 → x < 256 → beyond f 0 x ≡ 0 → (x == f) ≡ true
byte_stands f x lf lx e = grind (arith, nat_tests)

abbrev beyond_if : Bool → Bool → Bool → ℕ → ℕ → ℕ → ℕ → ℕ
beyond_if p q r first more f x =
    cond p (beyond first more x) (cond q (beyond 48 1 x) (cond r (beyond f 255 x) (beyond f 0 x)))

stands : (p q r : Bool) (f x : ℕ) → f < 256 → x < 256
    → (beyond_if p q r 48 9 f x ≡ 0) ⊎ (beyond_if p q r 97 5 f x ≡ 0)
    → cond p (is_digit x) (cond q ((x == 48) || (x == 49)) (cond r true (x == f))) ≡ true
stands true q r f x lf lx e = digit_stands x lx e
stands false true r f x lf lx e = bit_stands x lx (same _ e)
stands false false true f x lf lx e = refl
stands false false false f x lf lx e = byte_stands f x lf lx (same _ e)

follow-cons : (f x : ℕ) (fs xs : List ℕ) → may_stand f x ≡ true → Follow fs xs → Follow (f ∷ fs) (x ∷ xs)
follow-cons f x fs xs here more zero lt = here
follow-cons f x fs xs here more (suc i) lt = more i (omega arith)

-- whether each lane of one of two vectors is 0
abbrev zeros : ℕ → List ℕ → List ℕ → List Bool
zeros n xs ys = map (top 7) (zip2 equal (sel_l (map (top 7) (zip2 less xs ys)) xs ys) (replicate n 0))

all_follow : (n : ℕ) (fs xs : List ℕ) → length fs ≡ n → length xs ≡ n → Each1 (Fits w8) fs → Each1 (Fits w8) xs
    → mask_l (zeros n (each_beyond 48 9 fs xs) (each_beyond 97 5 fs xs)) + 1 ≡ 2 ^ n → Follow fs xs
all_follow n [] xs e f fits_f fits_x is = λ i lt. absurd (omega arith)
all_follow n (y ∷ fs) [] e f fits_f fits_x is = absurd (omega arith)
all_follow zero (y ∷ fs) (x ∷ xs) e f fits_f fits_x is = absurd (omega arith)
all_follow (suc n) (y ∷ fs) (x ∷ xs) e f fits_f fits_x is =
    go (top 7 (equal (cond (top 7 (less (beyond_form 48 9 y x) (beyond_form 97 5 y x))) (beyond_form 48 9 y x)
    (beyond_form 97 5 y x)) 0)) refl is
    (all_follow n fs xs (omega (arith, e)) (omega (arith, f)) fits_f.1 fits_x.1)
  where
    go : (b : Bool) → top 7 (equal (cond (top 7 (less (beyond_form 48 9 y x) (beyond_form 97 5 y x)))
        (beyond_form 48 9 y x) (beyond_form 97 5 y x)) 0) ≡ b
        → mask_l (b ∷ zeros n (each_beyond 48 9 fs xs) (each_beyond 97 5 fs xs)) + 1 ≡ 2 ^ suc n
        → (mask_l (zeros n (each_beyond 48 9 fs xs) (each_beyond 97 5 fs xs)) + 1 ≡ 2 ^ n → Follow fs xs)
        → Follow (y ∷ fs) (x ∷ xs)
    go true h k more =
        follow-cons y x fs xs (stands (eqb y 35) (eqb y 63) (eqb y 46) y x fits_f.0.fits fits_x.0.fits
        (least_zero _ _ h)) (more (let twice = rw pow-suc at k in omega arith))
    go false h k more = absurd (let twice = rw pow-suc at k in omega arith)

length-zeros : (n : ℕ) (fs xs : List ℕ) → length fs ≡ n → length xs ≡ n
    → length (zeros n (each_beyond 48 9 fs xs) (each_beyond 97 5 fs xs)) ≡ n
length-zeros n [] xs e f = e
length-zeros n (y ∷ fs) [] e f = absurd (omega arith)
length-zeros zero (y ∷ fs) (x ∷ xs) e f = absurd (omega arith)
length-zeros (suc n) (y ∷ fs) (x ∷ xs) e f = ap suc (length-zeros n fs xs (omega (arith, e)) (omega (arith, f)))

pub follow-is : (fs xs numbers letters : List ℕ) → length fs ≡ 16 → length xs ≡ 16 → Each1 (Fits w8) fs
    → Each1 (Fits w8) xs → numbers ≡ each_beyond 48 9 fs xs → letters ≡ each_beyond 97 5 fs xs
    → OnTrue (eqb (mask_l (zeros 16 numbers letters) % 18446744073709551616) 65535) (Follow fs xs)
follow-is fs xs numbers letters e f fits_f fits_x is_n is_l =
    rw (is_n, is_l) (go (eqb (mask_l (zeros 16 (each_beyond 48 9 fs xs) (each_beyond 97 5 fs xs)) % 18446744073709551616) 65535)
    refl)
  where
    go : (b : Bool) → eqb (mask_l (zeros 16 (each_beyond 48 9 fs xs) (each_beyond 97 5 fs xs)) % 18446744073709551616) 65535
        ≡ b → OnTrue b (Follow fs xs)
    go true h =
        let lt : mask_l (zeros 16 (each_beyond 48 9 fs xs) (each_beyond 97 5 fs xs)) < 2 ^ 16 =
        rw (length-zeros 16 fs xs e f) at (mask_l-lt (zeros 16 (each_beyond 48 9 fs xs) (each_beyond 97 5 fs xs))) in
        let full : mask_l (zeros 16 (each_beyond 48 9 fs xs) (each_beyond 97 5 fs xs)) % 18446744073709551616 ≡ 65535 =
        eqb-true _ 65535 h in
        all_follow 16 fs xs e f fits_f fits_x (omega (arith, lt, full))
    go false h = tt
