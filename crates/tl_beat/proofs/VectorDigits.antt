-- Digits as a vector are the number or the lanes that they spell.
use Rattle.std.proofs.Common.{◌≡◌, ℕ, suc, ◌+◌, ◌*◌, ◌%◌, ◌<◌, Bool, true, false, cond, ltb, List, [], ◌∷◌, ◌++◌}
use Rattle.std.proofs.Common.{length, get_or, map, replicate, zero, ◌-◌, refl, sym, ap, ap₂, ◌∙◌, arith, slice_index_or}
use Rattle.std.proofs.lemmas.Bool.Decides.{nat_tests}
use Rattle.std.specs.Int.{from_be_bytes}
use Rattle.std.specs.Prelude.{Ok}
use Rattle.std.specs.List.{AllPass}
use Rattle.tl_beat.specs.statement.Digits.{is_digit, digit_value}
use Rattle.tl_beat.specs.code.FromLeft.{digits_at, lanes_at}
use Rattle.tl_beat.proofs.AtPlaces.{digit_at-is, no_digit}
use Rattle.tl_beat.specs.code.Form.{Follow, paired, lane_value, front_numbers}
use lib.Lanes.{top, sel_l, zip2}
use mir.Syntax.{w32}

pub pass_cons : (c : ℕ) (cs : List ℕ) → is_digit c ≡ true → AllPass is_digit cs → AllPass is_digit (c ∷ cs)
pass_cons c cs is pass zero d lt = is
pass_cons c cs is pass (suc k) d lt = pass k d (omega arith)

pub pass_none : AllPass is_digit []
pass_none k d lt = absurd (omega arith)

-- bytes that follow a form of digits are digits
pub follow_pass : (n : ℕ) (xs : List ℕ) → length xs ≡ n → Follow (replicate n 35) xs → AllPass is_digit xs
follow_pass n [] e f = pass_none
follow_pass zero (x ∷ xs) e f = absurd (omega arith)
follow_pass (suc n) (x ∷ xs) e f =
    pass_cons x xs (f 0 (omega arith)) (follow_pass n xs (omega (arith, e)) (λ i lt. f (suc i) (omega arith)))

abbrev pub minus : ℕ → ℕ → ℕ
minus a b = (a + (256 - b)) % 256

abbrev pub less : ℕ → ℕ → ℕ
less a b = cond (ltb a b) 255 0

-- one lane of the vector of values
lane_same : (b : Bool) (v : ℕ) → minus v (cond (top 7 (cond b 255 0)) 39 0) ≡ (v + (256 - cond b 39 0)) % 256
lane_same true v = refl
lane_same false v = refl

-- the vector of values
pub values-are : (n : ℕ) (xs : List ℕ) → length xs ≡ n
    → zip2 minus (zip2 minus xs (replicate n 48)) (sel_l (map (top 7) (zip2 less (replicate n 57) xs)) (replicate n 39)
    (replicate n 0))
    ≡ map lane_value xs
values-are n [] e = refl
values-are zero (x ∷ xs) e = absurd (omega arith)
values-are (suc n) (x ∷ xs) e =
    ap₂ (λ (y : ℕ) (ys : List ℕ). y ∷ ys) (lane_same (ltb 57 x) (minus x 48)) (values-are n xs (omega (arith, e)))

pub lane_digit : (x : ℕ) → is_digit x ≡ true → lane_value x ≡ digit_value x
lane_digit x is = grind (arith, nat_tests)

pub digits-values : (xs : List ℕ) → AllPass is_digit xs → map lane_value xs ≡ map digit_value xs
digits-values [] pass = refl
digits-values (x ∷ xs) pass =
    ap₂ (λ (y : ℕ) (ys : List ℕ). y ∷ ys) (lane_digit x (pass 0 0 (omega arith)))
    (digits-values xs (λ k d lt. pass (suc k) d (omega arith)))

-- two lanes of a vector of values, with zeros behind it, as the number of a byte
abbrev none : List ℕ
none = 0 ∷ 0 ∷ 0 ∷ 0 ∷ 0 ∷ 0 ∷ 0 ∷ 0 ∷ 0 ∷ 0 ∷ 0 ∷ 0 ∷ 0 ∷ 0 ∷ 0 ∷ 0 ∷ []

abbrev lanes_of : List ℕ → ℕ → ℕ → ℕ
lanes_of values i j = paired (get_or (values ++ none) i 0) (get_or (values ++ none) j 0)

pub front-numbers : (front values : List ℕ) → length front ≡ 16 → values ≡ map lane_value front
    → lanes_of values 0 1 ∷ lanes_of values 16 5 ∷ lanes_of values 16 7 ∷ lanes_of values 16 9 ∷ lanes_of values 11 12
    ∷ lanes_of values 14 15 ∷ lanes_of values 16 16 ∷ lanes_of values 16 16 ∷ [] ≡ front_numbers front
front-numbers (x0 ∷ x1 ∷ x2 ∷ x3 ∷ x4 ∷ x5 ∷ x6 ∷ x7 ∷ x8 ∷ x9 ∷ x10 ∷ x11 ∷ x12 ∷ x13 ∷ x14 ∷ x15 ∷ []) values long is
    =
    rw is refl
front-numbers front values long is = absurd (omega arith)

small : (c : ℕ) → is_digit c ≡ true → digit_value c < 16
small c is = grind (arith, nat_tests)

pub pair_value : (v w : ℕ) → v < 16 → w < 16 → 16 * v + w ≡ paired v w
pair_value v w p q = omega arith

pair-step : (c d n : ℕ) (before cs : List ℕ) → is_digit c ≡ true → is_digit d ≡ true
    → lanes_at before (suc n) (c ∷ d ∷ cs) ≡ lanes_at (paired (digit_value c) (digit_value d) ∷ before) n cs
unfolding lanes_at
pair-step c d n before cs is_c is_d =
    rw (is_c, is_d, pair_value (digit_value c) (digit_value d) (small c is_c) (small d is_d)) refl

-- two neighbours of a vector of values as a lane
abbrev pair_of : List ℕ → ℕ → ℕ
pair_of values i = paired (get_or (values ++ values) i 0) (get_or (values ++ values) (1 + i) 0)

-- the lanes of a vector of values, the last of them first
abbrev spelled : List ℕ → List ℕ
spelled values =
    pair_of values 14 ∷ pair_of values 12 ∷ pair_of values 10 ∷ pair_of values 8 ∷ pair_of values 6 ∷ pair_of values 4
    ∷ pair_of values 2 ∷ pair_of values 0 ∷ []

-- the byte at a place below the number of bytes is a digit
at : (bytes : List ℕ) (n i : ℕ) → AllPass is_digit bytes → length bytes ≡ n → i < n → is_digit (slice_index_or bytes i
    0) ≡ true
at bytes n i pass long lt = pass i 0 (omega arith)

pub digits-lanes : (digits values before rest : List ℕ) (n : ℕ) → length digits ≡ 16 → AllPass is_digit digits
    → values ≡ map digit_value digits
    → lanes_at before (8 + n) (digits ++ rest) ≡ lanes_at (spelled values ++ before) n rest
digits-lanes (x0 ∷ x1 ∷ x2 ∷ x3 ∷ x4 ∷ x5 ∷ x6 ∷ x7 ∷ x8 ∷ x9 ∷ x10 ∷ x11 ∷ x12 ∷ x13 ∷ x14 ∷ x15 ∷ []) values before
    rest n
    long pass is =
    let eight : 8 + n ≡ suc (suc (suc (suc (suc (suc (suc (suc n))))))) = omega arith in
    let bytes : List ℕ = x0 ∷ x1 ∷ x2 ∷ x3 ∷ x4 ∷ x5 ∷ x6 ∷ x7 ∷ x8 ∷ x9 ∷ x10 ∷ x11 ∷ x12 ∷ x13 ∷ x14 ∷ x15 ∷ [] in
    rw (eight, is) (
    pair-step x0 x1 _ _ _ (at bytes 16 0 pass long (omega arith)) (at bytes 16 1 pass long (omega arith))
    ∙ pair-step x2 x3 _ _ _ (at bytes 16 2 pass long (omega arith)) (at bytes 16 3 pass long (omega arith))
    ∙ pair-step x4 x5 _ _ _ (at bytes 16 4 pass long (omega arith)) (at bytes 16 5 pass long (omega arith))
    ∙ pair-step x6 x7 _ _ _ (at bytes 16 6 pass long (omega arith)) (at bytes 16 7 pass long (omega arith))
    ∙ pair-step x8 x9 _ _ _ (at bytes 16 8 pass long (omega arith)) (at bytes 16 9 pass long (omega arith))
    ∙ pair-step x10 x11 _ _ _ (at bytes 16 10 pass long (omega arith)) (at bytes 16 11 pass long (omega arith))
    ∙ pair-step x12 x13 _ _ _ (at bytes 16 12 pass long (omega arith)) (at bytes 16 13 pass long (omega arith))
    ∙ pair-step x14 x15 _ _ _ (at bytes 16 14 pass long (omega arith)) (at bytes 16 15 pass long (omega arith)))
digits-lanes digits values before rest n long pass is = absurd (omega arith)

digit-step : (number n c : ℕ) (cs : List ℕ) → is_digit c ≡ true
    → digits_at number (suc n) (c ∷ cs) ≡ digits_at (16 * number + digit_value c) n cs
digit-step number n c cs is = digit_at-is number n c (digit_value c) cs (record { is = is; value = refl })

-- the number that a vector of eight values stands for
abbrev number_of : List ℕ → ℕ
number_of values =
    from_be_bytes w32 (pair_of values 0 ∷ pair_of values 2 ∷ pair_of values 4 ∷ pair_of values 6 ∷ [])

eight : (a b c d e f g h : ℕ) → a < 16 → b < 16 → c < 16 → d < 16 → e < 16 → f < 16 → g < 16 → h < 16
    → 16 * (16 * (16 * (16 * (16 * (16 * (16 * (16 * 0 + a) + b) + c) + d) + e) + f) + g) + h
    ≡ from_be_bytes w32 (paired a b ∷ paired c d ∷ paired e f ∷ paired g h ∷ [])
eight a b c d e f g h pa pb pc pd pe pf pg ph =
    rw (← pair_value a b pa pb, ← pair_value c d pc pd, ← pair_value e f pe pf, ← pair_value g h pg ph) (omega arith)

pub digits-number : (digits values rest : List ℕ) (number : ℕ) → length digits ≡ 8 → AllPass is_digit digits
    → values ≡ map digit_value digits → number ≡ number_of values → digits_at 0 8 (digits ++ rest) ≡ Ok (number, rest)
digits-number (x0 ∷ x1 ∷ x2 ∷ x3 ∷ x4 ∷ x5 ∷ x6 ∷ x7 ∷ []) values rest number long pass is same =
    let bytes : List ℕ = x0 ∷ x1 ∷ x2 ∷ x3 ∷ x4 ∷ x5 ∷ x6 ∷ x7 ∷ [] in
    let d0 : is_digit x0 ≡ true = at bytes 8 0 pass long (omega arith) in
    let d1 : is_digit x1 ≡ true = at bytes 8 1 pass long (omega arith) in
    let d2 : is_digit x2 ≡ true = at bytes 8 2 pass long (omega arith) in
    let d3 : is_digit x3 ≡ true = at bytes 8 3 pass long (omega arith) in
    let d4 : is_digit x4 ≡ true = at bytes 8 4 pass long (omega arith) in
    let d5 : is_digit x5 ≡ true = at bytes 8 5 pass long (omega arith) in
    let d6 : is_digit x6 ≡ true = at bytes 8 6 pass long (omega arith) in
    let d7 : is_digit x7 ≡ true = at bytes 8 7 pass long (omega arith) in
    digit-step 0 7 x0 _ d0 ∙ digit-step _ 6 x1 _ d1 ∙ digit-step _ 5 x2 _ d2 ∙ digit-step _ 4 x3 _ d3
    ∙ digit-step _ 3 x4 _ d4 ∙ digit-step _ 2 x5 _ d5 ∙ digit-step _ 1 x6 _ d6 ∙ digit-step _ 0 x7 rest d7
    ∙ no_digit _ rest
    ∙ ap (λ (number : ℕ). Ok (number, rest)) (eight _ _ _ _ _ _ _ _ (small x0 d0) (small x1 d1) (small x2 d2)
    (small x3 d3) (small x4 d4) (small x5 d5) (small x6 d6) (small x7 d7) ∙ sym (rw is at same))
digits-number digits values rest number long pass is same = absurd (omega arith)
