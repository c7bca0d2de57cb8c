-- Decimal numbers at the front of a text.
use Rattle.std.proofs.Common.{◌≡◌, ◌<◌, ◌≤◌, ℕ, ◌+◌, ◌*◌, ◌/◌, ◌%◌, ◌-◌, ◌^◌, List, [], ◌∷◌, ◌++◌, get_or, Bool, true}
use Rattle.std.proofs.Common.{false, refl, ap, sym, ◌∙◌, arith, append_assoc, cond}
use Rattle.std.{proofs.lemmas.Bool.Decides.nat_tests, specs.Fmt.decimal, specs.Prelude.Option, specs.Prelude.Some}
use Rattle.std.{specs.Prelude.None}
use Rattle.std.proofs.lemmas.Fmt.{decimal_digit, decimal_step, decimal_by_steps, first_decimal}
use Rattle.tl_params.{specs.statement.Range.is_from_to, proofs.Options.some_pair}
use Rattle.tl_schedule.specs.code.HeaderReading.{is_decimal, digit_at, decimal_from, starts_with_zero, within}
use Rattle.tl_schedule.specs.code.HeaderReading.{number_at}

-- ---- digit by digit

abbrev digit_if : Bool → ℕ → List ℕ → Option (ℕ × List ℕ)
digit_if b d rest = cond b (Some (d, rest)) None

pub digit-step : (n d : ℕ) (bytes after : List ℕ) → digit_at bytes ≡ Some (d, after)
    → decimal_from n bytes ≡ decimal_from (10 * n + d) after
unfolding decimal_from
digit-step n d [] after e = absurd cc
digit-step n d (c ∷ cs) after e = go (is_decimal c) refl e
  where
    go : (b : Bool) → is_decimal c ≡ b → digit_if b (c - 48) cs ≡ Some (d, after)
        → cond b (decimal_from (10 * n + (c - 48)) cs) (n, c ∷ cs) ≡ decimal_from (10 * n + d) after
    go true is f = let (same, rest) = some_pair (c - 48, cs) (d, after) f in rw (same, rest) refl
    go false is f = absurd cc

pub digit-none : (n : ℕ) (bytes : List ℕ) → digit_at bytes ≡ None → decimal_from n bytes ≡ (n, bytes)
unfolding decimal_from
digit-none n [] e = refl
digit-none n (c ∷ cs) e = go (is_decimal c) refl e
  where
    go : (b : Bool) → is_decimal c ≡ b → digit_if b (c - 48) cs ≡ None
        → cond b (decimal_from (10 * n + (c - 48)) cs) (n, c ∷ cs) ≡ (n, c ∷ cs)
    go true is f = absurd cc
    go false is f = refl

-- more digits make no smaller number
decimal-grows : (n : ℕ) (bytes : List ℕ) → n ≤ (decimal_from n bytes).0
unfolding decimal_from
decimal-grows n [] = omega arith
decimal-grows n (c ∷ cs) = go (is_decimal c) (decimal-grows (10 * n + (c - 48)) cs)
  where
    go : (b : Bool) → 10 * n + (c - 48) ≤ (decimal_from (10 * n + (c - 48)) cs).0
        → n ≤ (cond b (decimal_from (10 * n + (c - 48)) cs) (n, c ∷ cs)).0
    go true h = omega arith
    go false h = omega arith

out_of : (limit n : ℕ) → limit < n → is_from_to 1 limit n ≡ false
out_of limit n lt = grind (arith, nat_tests)

nothing : (limit n : ℕ) → n ≡ 0 → is_from_to 1 limit n ≡ false
nothing limit n e = grind (arith, nat_tests)

inside : (limit n : ℕ) → n ≤ limit → (n ≡ 0 → ⊥) → is_from_to 1 limit n ≡ true
inside limit n le some = grind (arith, nat_tests)

-- the loop over digits
module _ (limit n : ℕ) (bytes rest : List ℕ) (same : decimal_from 0 bytes ≡ decimal_from n rest) where
  pub too_great : limit < n → within limit (decimal_from 0 bytes) ≡ None
  too_great lt =
      let grows = decimal-grows n rest in
      let out : is_from_to 1 limit (decimal_from 0 bytes).0 ≡ false =
      rw same (out_of limit (decimal_from n rest).0 (omega (arith, grows, lt))) in
      rw out refl

  pub no_digits : digit_at rest ≡ None → n ≡ 0 → within limit (decimal_from 0 bytes) ≡ None
  no_digits none e =
      let last : (decimal_from 0 bytes).0 ≡ n = rw (same, digit-none n rest none) refl in
      rw (nothing limit _ (last ∙ e)) refl

  pub whole_number : digit_at rest ≡ None → n ≤ limit → (n ≡ 0 → ⊥)
      → within limit (decimal_from 0 bytes) ≡ Some (n, rest)
  whole_number none le some =
      let read : decimal_from 0 bytes ≡ (n, rest) = same ∙ digit-none n rest none in
      rw (read, inside limit n le some) refl

-- ---- what was read was spelled so

abbrev pair : ℕ → List ℕ → ℕ × List ℕ
pair n rest = (n, rest)

digit_again : (c : ℕ) → is_decimal c ≡ true → (48 + (c - 48) ≡ c) × (c - 48 < 10)
digit_again c e = (grind (arith, nat_tests), grind (arith, nat_tests))

one_digit_more : (m d : ℕ) → 0 < m → d < 10 → 10 * m + d < 2 ^ 64 → decimal (10 * m + d) ≡ decimal m ++ (48 + d) ∷ []
one_digit_more m d some small fits =
    let front : (10 * m + d) / 10 ≡ m = omega arith in
    let last : (10 * m + d) % 10 ≡ d = omega arith in
    rw (decimal_step (10 * m + d) (omega arith) fits, front, last) refl

-- digits behind a number from 1 on
from_taken : (m n : ℕ) (bytes rest : List ℕ) → 0 < m → n < 2 ^ 60 → decimal_from m bytes ≡ pair n rest
    → decimal m ++ bytes ≡ decimal n ++ rest
unfolding decimal_from
from_taken m n [] rest some small e =
    let same : m ≡ n = ap (λ (x : ℕ × List ℕ). x.0) e in
    let nothing_left : [] ≡ rest = ap (λ (x : ℕ × List ℕ). x.1) e in
    rw (same, nothing_left) refl
from_taken m n (c ∷ cs) rest some small e = go (is_decimal c) refl (from_taken (10 * m + (c - 48)) n cs rest) e
  where
    go : (b : Bool) → is_decimal c ≡ b
        → (0 < 10 * m + (c - 48) → n < 2 ^ 60 → decimal_from (10 * m + (c - 48)) cs ≡ pair n rest
        → decimal (10 * m + (c - 48)) ++ cs ≡ decimal n ++ rest)
        → cond b (decimal_from (10 * m + (c - 48)) cs) (pair m (c ∷ cs)) ≡ pair n rest
        → decimal m ++ c ∷ cs ≡ decimal n ++ rest
    go true is more f =
        let (char, low) = digit_again c is in
        let value : (decimal_from (10 * m + (c - 48)) cs).0 ≡ n = ap (λ (x : ℕ × List ℕ). x.0) f in
        let grows = decimal-grows (10 * m + (c - 48)) cs in
        let longer = one_digit_more m (c - 48) some low (omega (arith, value, grows, small)) in
        let front : decimal m ++ c ∷ [] ≡ decimal (10 * m + (c - 48)) =
        ap (λ (x : ℕ). decimal m ++ x ∷ []) (sym char) ∙ sym longer in
        sym (append_assoc (decimal m) (c ∷ []) cs) ∙ ap (λ (x : List ℕ). x ++ cs) front ∙ more (omega (arith, some))
        small f
    go false is more f =
        let same : m ≡ n = ap (λ (x : ℕ × List ℕ). x.0) f in
        let left : c ∷ cs ≡ rest = ap (λ (x : ℕ × List ℕ). x.1) f in
        rw (same, left) refl

within_taken : (limit n : ℕ) (rest : List ℕ) (x : ℕ × List ℕ) → within limit x ≡ Some (n, rest)
    → (x ≡ pair n rest) × (is_from_to 1 limit n ≡ true)
within_taken limit n rest x e = go (is_from_to 1 limit x.0) refl e
  where
    go : (b : Bool) → is_from_to 1 limit x.0 ≡ b → cond b (Some x) None ≡ Some (pair n rest)
        → (x ≡ pair n rest) × (is_from_to 1 limit n ≡ true)
    go true is f =
        let same : x ≡ pair n rest = cc in
        (same, ap (λ (y : ℕ × List ℕ). is_from_to 1 limit y.0) (sym same) ∙ is)
    go false is f = absurd cc

small_number : (limit n : ℕ) → limit ≤ 1024 → is_from_to 1 limit n ≡ true → (0 < n) × (n < 2 ^ 60)
small_number limit n le e = (grind (arith, nat_tests), grind (arith, nat_tests))

-- a number within its limit stands at the front
pub record IsNumber (limit : ℕ) (bytes : List ℕ) (n : ℕ) (rest : List ℕ) : Type 0 where
  pub is_text : bytes ≡ decimal n ++ rest
  pub fits : is_from_to 1 limit n ≡ true

digits_taken : (limit n : ℕ) (bytes rest : List ℕ) → limit ≤ 1024 → starts_with_zero bytes ≡ false
    → within limit (decimal_from 0 bytes) ≡ Some (pair n rest) → IsNumber limit bytes n rest
unfolding decimal_from
digits_taken limit n [] rest le first e = let (same, fits) = within_taken limit n rest (0, []) e in
    let none : 0 ≡ n = ap (λ (x : ℕ × List ℕ). x.0) same in
    absurd (omega (arith, small_number limit n le fits))
digits_taken limit n (c ∷ cs) rest le first e =
    go (is_decimal c) refl (within_taken limit n rest (decimal_from 0 (c ∷ cs)) e)
  where
    go : (b : Bool) → is_decimal c ≡ b → (cond b (decimal_from (10 * 0 + (c - 48)) cs) (pair 0 (c ∷ cs)) ≡ pair n rest)
        × (is_from_to 1 limit n ≡ true) → IsNumber limit (c ∷ cs) n rest
    go true is (same, fits) =
        let (char, low) = digit_again c is in
        let zero_times : 10 * 0 + (c - 48) ≡ c - 48 = omega arith in
        let some : 0 < c - 48 = grind (arith, nat_tests) in
        let small = small_number limit n le fits in
        let text = from_taken (c - 48) n cs rest some small.1
        (ap (λ (m : ℕ). decimal_from m cs) (sym zero_times) ∙ same) in
        let one : decimal (c - 48) ≡ c ∷ [] = decimal_digit (c - 48) low ∙ ap (λ (x : ℕ). x ∷ []) char in
        record { is_text = ap (λ (x : List ℕ). x ++ cs) (sym one) ∙ text; fits = fits }
    go false is (same, fits) =
        let none : 0 ≡ n = ap (λ (x : ℕ × List ℕ). x.0) same in
        absurd (omega (arith, small_number limit n le fits))

pub number_taken : (limit n : ℕ) (bytes rest : List ℕ) → limit ≤ 1024 → number_at limit bytes ≡ Some (n, rest)
    → IsNumber limit bytes n rest
number_taken limit n bytes rest le e = go (starts_with_zero bytes) refl e
  where
    go : (b : Bool) → starts_with_zero bytes ≡ b → cond b None (within limit (decimal_from 0 bytes)) ≡ Some
        (pair n rest) → IsNumber limit bytes n rest
    go true is f = absurd cc
    go false is f = digits_taken limit n bytes rest le is f

-- ---- what was spelled is read

digit_read : (d : ℕ) (rest : List ℕ) → d < 10 → digit_at ((48 + d) ∷ rest) ≡ Some (d, rest)
digit_read d rest lt =
    let is : is_decimal (48 + d) ≡ true = grind (arith, nat_tests) in
    let value : 48 + d - 48 ≡ d = omega arith in
    rw (is, value) refl

from_again : (n : ℕ) → n < 2 ^ 64 → (rest : List ℕ) → decimal_from 0 (decimal n ++ rest) ≡ decimal_from n rest
from_again n lt = decimal_by_steps (λ m ds. (rest : List ℕ) → decimal_from 0 (ds ++ rest) ≡ decimal_from m rest) one
    more n lt
  where
    one : (m : ℕ) → m < 10 → (rest : List ℕ) → decimal_from 0 ((48 + m) ∷ rest) ≡ decimal_from m rest
    one m small rest =
        let same : 10 * 0 + m ≡ m = omega arith in
        digit-step 0 m ((48 + m) ∷ rest) rest (digit_read m rest small) ∙ ap (λ (k : ℕ). decimal_from k rest) same

    more : (m : ℕ) (ds : List ℕ) → 10 ≤ m → ((rest : List ℕ) → decimal_from 0 (ds ++ rest) ≡ decimal_from (m / 10) rest)
        → (rest : List ℕ) → decimal_from 0 ((ds ++ (48 + m % 10) ∷ []) ++ rest) ≡ decimal_from m rest
    more m ds le front rest =
        let same : 10 * (m / 10) + m % 10 ≡ m = omega arith in
        let low : m % 10 < 10 = omega arith in
        ap (decimal_from 0) (append_assoc ds ((48 + m % 10) ∷ []) rest) ∙ front ((48 + m % 10) ∷ rest)
        ∙ digit-step (m / 10) (m % 10) ((48 + m % 10) ∷ rest) rest (digit_read (m % 10) rest low) ∙ ap
        (λ (k : ℕ). decimal_from k rest) same

first_not_zero : (ds rest : List ℕ) → 48 < get_or ds 0 0 → starts_with_zero (ds ++ rest) ≡ false
first_not_zero [] rest lt = absurd (omega arith)
first_not_zero (c ∷ cs) rest lt = grind (arith, nat_tests)

pub number_again : (limit n : ℕ) (rest : List ℕ) → limit ≤ 1024 → is_from_to 1 limit n ≡ true → digit_at rest ≡ None
    → number_at limit (decimal n ++ rest) ≡ Some (n, rest)
number_again limit n rest le fits none =
    let (some, small) = small_number limit n le fits in
    let first = first_not_zero (decimal n) rest (first_decimal n some (omega arith)) in
    let read = from_again n (omega arith) rest ∙ digit-none n rest none in
    rw (first, read, fits) refl
