-- What is spelled in digits is read again, and what is read was spelled so.
use Rattle.std.proofs.Common.{◌≡◌, ℕ, zero, suc, ◌+◌, ◌*◌, ◌/◌, ◌%◌, ◌^◌, ◌<◌, Bool, true, false, cond, List, [], ◌∷◌}
use Rattle.std.proofs.Common.{◌++◌, length, refl, sym, ap, ap₂, ◌∙◌, arith, append_assoc, length-append}
use Rattle.std.specs.Prelude.{◌&&◌, ◌||◌, ◌==◌, Option, Some, None, All, Result, Ok, Err, ⊤}
use Rattle.std.proofs.lemmas.Bool.Decides.{nat_tests}
use Rattle.std.proofs.lemmas.Bool.{eqb-true}
use Rattle.std.proofs.lemmas.Nat.{pow-add}
use Rattle.std.proofs.lemmas.List.{append-nil}
use Rattle.std.proofs.lemmas.List.Elements.{All-append, All-cons}
use Rattle.std.proofs.Math.Nat.{div-div-eq-div-mul, div-one}
use Rattle.tl_beat.specs.declared.fault.LineFault.{LineFault}
use Rattle.tl_beat.specs.declared.fault.LineFault.TheVariants.{F3}
use Rattle.tl_beat.specs.statement.Digits.{digit_char, digits, lane_digits, lanes_text, bit_text, is_digit, digit_value}
use Rattle.tl_beat.specs.statement.Digits.{is_digits, value_from, value_of, is_pairs, lanes_before, is_dash}
use Rattle.tl_beat.specs.statement.Line.{AreLanes}
use Rattle.tl_beat.specs.code.Reading.{number_in, data_in, bit_in}

abbrev ok_if : Bool → ℕ → Result ℕ LineFault
ok_if b n = cond b (Ok n) (Err F3)

abbrev ok_bit : Bool → Bool → Result Bool LineFault
ok_bit b bit = cond b (Ok bit) (Err F3)

abbrev ok_data : Bool → Option (List ℕ) → Result (Option (List ℕ)) LineFault
ok_data b lanes = cond b (Ok lanes) (Err F3)

abbrev some_of : List ℕ → Option (List ℕ)
some_of lanes = Some lanes

-- ---- one digit

is_digit-char : (d : ℕ) → d < 16 → is_digit (digit_char d) ≡ true
is_digit-char d lt = grind (arith, nat_tests)

digit_value-char : (d : ℕ) → d < 16 → digit_value (digit_char d) ≡ d
digit_value-char d lt = grind (arith, nat_tests)

digit_char-value : (c : ℕ) → is_digit c ≡ true → digit_char (digit_value c) ≡ c
digit_char-value c e = grind (arith, nat_tests)

digit_value-small : (c : ℕ) → is_digit c ≡ true → digit_value c < 16
digit_value-small c e = grind (arith, nat_tests)

pub digit_char-no_space : (d : ℕ) → d < 16 → (digit_char d == 32) ≡ false
digit_char-no_space d lt = grind (arith, nat_tests)

next_digit : (n w : ℕ) → 16 * (n / 2 ^ (4 * suc w)) + n / 2 ^ (4 * w) % 16 ≡ n / 2 ^ (4 * w)
next_digit n w =
    let four : 4 * suc w ≡ 4 * w + 4 = omega arith in
    rw (four, pow-add 2 (4 * w) 4, ← div-div-eq-div-mul n (2 ^ (4 * w)) (2 ^ 4)) (omega arith)

-- ---- numbers

pub length-digits : (w n : ℕ) → length (digits w n) ≡ w
unfolding digits
length-digits zero n = refl
length-digits (suc w) n = ap suc (length-digits w n)

is_digits-digits : (w n : ℕ) → is_digits w (digits w n) ≡ true
unfolding is_digits digits
is_digits-digits zero n = refl
is_digits-digits (suc w) n =
    let small : n / 2 ^ (4 * w) % 16 < 16 = omega arith in
    rw (is_digit-char (n / 2 ^ (4 * w) % 16) small) (is_digits-digits w n)

-- the number so far is what stands above the digits that are left
value_from-digits : (w number n : ℕ) → number ≡ n / 2 ^ (4 * w) → value_from number (digits w n) ≡ n
unfolding digits value_from
value_from-digits zero number n e = rw (e, div-one) refl
value_from-digits (suc w) number n e =
    let small : n / 2 ^ (4 * w) % 16 < 16 = omega arith in
    let next : 16 * number + n / 2 ^ (4 * w) % 16 ≡ n / 2 ^ (4 * w) = rw e (next_digit n w) in
    ap (λ (d : ℕ). value_from (16 * number + d) (digits w n)) (digit_value-char (n / 2 ^ (4 * w) % 16) small)
    ∙ value_from-digits w (16 * number + n / 2 ^ (4 * w) % 16) n next

-- n digits that follow a number
record AreDigits (w number : ℕ) (p : List ℕ) : Type 0 where
  spelled : p ≡ digits w (value_from number p)
  above : number ≡ value_from number p / 2 ^ (4 * w)

digits-value_from : (w number : ℕ) (p : List ℕ) → is_digits w p ≡ true → AreDigits w number p
unfolding digits value_from is_digits
digits-value_from zero number [] e = record { spelled = refl; above = sym (div-one number) }
digits-value_from zero number (c ∷ cs) e = absurd cc
digits-value_from (suc w) number [] e = absurd cc
digits-value_from (suc w) number (c ∷ cs) e =
    go (is_digit c) refl e (λ f. digits-value_from w (16 * number + digit_value c) cs f)
  where
    go : (b : Bool) → is_digit c ≡ b → (b && is_digits w cs) ≡ true
        → (is_digits w cs ≡ true → AreDigits w (16 * number + digit_value c) cs) → AreDigits (suc w) number (c ∷ cs)
    go false is f more = absurd cc
    go true is f more =
        let others = more f in
        let n = value_from (16 * number + digit_value c) cs in
        let small = digit_value-small c is in
        let place = next_digit n w in
        let above : number ≡ n / 2 ^ (4 * suc w) = omega (arith, place, others.above, small) in
        let digit : n / 2 ^ (4 * w) % 16 ≡ digit_value c = omega (arith, place, others.above, small) in
        record {
          spelled = ap₂ (λ (x : ℕ) (xs : List ℕ). x ∷ xs)
              (sym (digit_char-value c is) ∙ ap digit_char (sym digit)) others.spelled;
          above = above;
        }

pub number_in-digits : (w n : ℕ) → 0 ≡ n / 2 ^ (4 * w) → number_in w (digits w n) ≡ Ok n
number_in-digits w n fits = rw (is_digits-digits w n, value_from-digits w 0 n fits) refl

-- a field of digits is that of its number
pub record Spelled (w : ℕ) (p : List ℕ) (n : ℕ) : Type 0 where
  pub spelled : p ≡ digits w n
  pub fits : 0 ≡ n / 2 ^ (4 * w)

pub number_in-ok : (w : ℕ) (p : List ℕ) (n : ℕ) → number_in w p ≡ Ok n → Spelled w p n
number_in-ok w p n e = go (is_digits w p) refl e
  where
    go : (b : Bool) → is_digits w p ≡ b → ok_if b (value_of p) ≡ Ok n → Spelled w p n
    go false is f = absurd cc
    go true is f =
        let d = digits-value_from w 0 p is in
        let same : value_of p ≡ n = cc in
        record { spelled = d.spelled ∙ ap (digits w) same; fits = d.above ∙ ap (λ (m : ℕ). m / 2 ^ (4 * w)) same }

-- ---- bits

pub bit_in-text : (b : Bool) → bit_in (bit_text b) ≡ Ok b
bit_in-text false = refl
bit_in-text true = refl

pub bit_in-ok : (p : List ℕ) (b : Bool) → bit_in p ≡ Ok b → p ≡ bit_text b
bit_in-ok [] b e = absurd cc
bit_in-ok (c ∷ []) b e = go (c == 48) refl (c == 49) refl e
  where
    go : (x : Bool) → (c == 48) ≡ x → (y : Bool) → (c == 49) ≡ y → ok_bit (x || y) y ≡ Ok b → c ∷ [] ≡ bit_text b
    go true h true k f = absurd (let p : c ≡ 48 = eqb-true c 48 h in let q : c ≡ 49 = eqb-true c 49 k in omega arith)
    go true h false k f = let p : c ≡ 48 = eqb-true c 48 h in let q : b ≡ false = cc in rw (p, q) refl
    go false h true k f = let p : c ≡ 49 = eqb-true c 49 k in let q : b ≡ true = cc in rw (p, q) refl
    go false h false k f = absurd cc
bit_in-ok (c ∷ d ∷ cs) b e = absurd cc

-- ---- lanes

pub length-lane_digits : (lanes : List ℕ) → length (lane_digits lanes) ≡ 2 * length lanes
unfolding lane_digits
length-lane_digits [] = refl
length-lane_digits (x ∷ xs) =
    omega (arith, length-lane_digits xs, length-append (lane_digits xs) (digits 2 x), length-digits 2 x)

abbrev hex : ℕ → ℕ → ℕ
hex w x = digit_char (x / 2 ^ (4 * w) % 16)

digits-two : (x : ℕ) → digits 2 x ≡ hex 1 x ∷ hex 0 x ∷ []
unfolding digits
digits-two x = refl

lane-back : (x : ℕ) → x < 256 → 16 * digit_value (hex 1 x) + digit_value (hex 0 x) ≡ x
lane-back x lt =
    let one : x / 16 % 16 < 16 = omega arith in
    let two : x / 1 % 16 < 16 = omega arith in
    rw (digit_value-char (x / 2 ^ (4 * 1) % 16) one, digit_value-char (x / 2 ^ (4 * 0) % 16) two)
    (omega (arith, div-one x))

-- each lane is a byte
abbrev AreBytes : List ℕ → Type 0
AreBytes [] = ⊤
AreBytes (x ∷ xs) = (x < 256) × AreBytes xs

bytes-of_all : (xs : List ℕ) → All (λ x. x < 2 ^ 8) xs → AreBytes xs
bytes-of_all [] all = tt
bytes-of_all (x ∷ xs) all = (all 0 0 (omega arith), bytes-of_all xs (λ k d lt. all (suc k) d (omega arith)))

lanes_before-digits : (xs lanes rest : List ℕ) → AreBytes xs
    → lanes_before lanes (lane_digits xs ++ rest) ≡ lanes_before (xs ++ lanes) rest
unfolding lane_digits lanes_before
lanes_before-digits [] lanes rest all = refl
lanes_before-digits (x ∷ xs) lanes rest all =
    ap (lanes_before lanes) (append_assoc (lane_digits xs) (digits 2 x) rest ∙ ap
    (λ (d : List ℕ). lane_digits xs ++ (d ++ rest)) (digits-two x))
    ∙ lanes_before-digits xs lanes (hex 1 x ∷ hex 0 x ∷ rest) all.1
    ∙ ap (λ (y : ℕ). lanes_before (y ∷ (xs ++ lanes)) rest) (lane-back x all.0)

is_pairs-digits : (xs rest : List ℕ) (n : ℕ) → is_pairs n rest ≡ true
    → is_pairs (length xs + n) (lane_digits xs ++ rest) ≡ true
unfolding lane_digits is_pairs
is_pairs-digits [] rest n e = let same : 0 + n ≡ n = omega arith in rw same e
is_pairs-digits (x ∷ xs) rest n e =
    let same : suc (length xs) + n ≡ length xs + suc n = omega arith in
    let one : x / 16 % 16 < 16 = omega arith in
    let two : x / 1 % 16 < 16 = omega arith in
    rw (same, append_assoc (lane_digits xs) (digits 2 x) rest, digits-two x)
    (is_pairs-digits xs (hex 1 x ∷ hex 0 x ∷ rest) (suc n)
    (rw (is_digit-char (x / 2 ^ (4 * 1) % 16) one, is_digit-char (x / 2 ^ (4 * 0) % 16) two) e))

pub pairs-no_dash : (n : ℕ) (p : List ℕ) → is_pairs n p ≡ true → is_dash p ≡ false
unfolding is_pairs
pairs-no_dash n [] e = refl
pairs-no_dash zero (c ∷ []) e = absurd cc
pairs-no_dash (suc n) (c ∷ []) e = absurd cc
pairs-no_dash n (c ∷ d ∷ cs) e = refl

pairs-none : is_pairs 0 [] ≡ true
unfolding is_pairs
pairs-none = refl

lanes_before-none : (lanes : List ℕ) → lanes_before lanes [] ≡ lanes
unfolding lanes_before
lanes_before-none lanes = refl

pub data_in-text : (w : ℕ) (lanes : Option (List ℕ)) → AreLanes w lanes → data_in w (lanes_text lanes) ≡ Ok lanes
data_in-text w None all = refl
data_in-text w (Some lanes) all =
    let count : length lanes + 0 ≡ w = omega (arith, all.0) in
    let pairs : is_pairs w (lane_digits lanes) ≡ true =
    rw (← count, ← append-nil (lane_digits lanes)) (is_pairs-digits lanes [] 0 pairs-none) in
    let back : lanes_before [] (lane_digits lanes) ≡ lanes = ap (lanes_before []) (sym (append-nil (lane_digits lanes)))
    ∙ lanes_before-digits lanes [] [] (bytes-of_all lanes all.1) ∙ lanes_before-none (lanes ++ []) ∙ append-nil lanes in
    rw (pairs-no_dash w (lane_digits lanes) pairs, pairs, back) refl

-- lanes that were read, before others
record AreRead (n : ℕ) (lanes p : List ℕ) : Type 0 where
  read : List ℕ
  before : lanes_before lanes p ≡ read ++ lanes
  spelled : p ≡ lane_digits read
  count : length read ≡ n
  all : All (λ x. x < 2 ^ 8) read

pub lane_digits-last : (xs : List ℕ) (x : ℕ) → lane_digits (xs ++ x ∷ []) ≡ digits 2 x ++ lane_digits xs
unfolding lane_digits
lane_digits-last [] x = sym (append-nil (digits 2 x))
lane_digits-last (y ∷ ys) x = rw (lane_digits-last ys x, append_assoc) refl

two_digits : (c d : ℕ) → is_digit c ≡ true → is_digit d ≡ true
    → c ∷ d ∷ [] ≡ digits 2 (16 * digit_value c + digit_value d)
two_digits c d p q =
    let k = digit_value-small c p in
    let l = digit_value-small d q in
    let x = 16 * digit_value c + digit_value d in
    let high : x / 16 % 16 ≡ digit_value c = omega arith in
    let low : x / 1 % 16 ≡ digit_value d = omega (arith, div-one x) in
    ap₂ (λ (a b : ℕ). a ∷ b ∷ []) (sym (digit_char-value c p) ∙ ap digit_char (sym high))
    (sym (digit_char-value d q) ∙ ap digit_char (sym low)) ∙ sym (digits-two x)

pairs-read : (n : ℕ) (lanes p : List ℕ) → is_pairs n p ≡ true → AreRead n lanes p
unfolding is_pairs lanes_before lane_digits
pairs-read zero lanes [] e = record {
  read = [];
  before = refl;
  spelled = refl;
  count = refl;
  all =
      λ k d lt. absurd (omega arith);
}
pairs-read zero lanes (c ∷ cs) e = absurd cc
pairs-read (suc n) lanes [] e = absurd cc
pairs-read (suc n) lanes (c ∷ []) e = absurd cc
pairs-read (suc n) lanes (c ∷ d ∷ cs) e =
    go (is_digit c) refl (is_digit d) refl e (λ f. pairs-read n ((16 * digit_value c + digit_value d) ∷ lanes) cs f)
  where
    x : ℕ
    x = 16 * digit_value c + digit_value d

    go : (a : Bool) → is_digit c ≡ a → (b : Bool) → is_digit d ≡ b → ((a && b) && is_pairs n cs) ≡ true
        → (is_pairs n cs ≡ true → AreRead n (x ∷ lanes) cs) → AreRead (suc n) lanes (c ∷ d ∷ cs)
    go false p b q f more = absurd cc
    go true p false q f more = absurd cc
    go true p true q f more =
        let r = more f in
        let k = digit_value-small c p in
        let l = digit_value-small d q in
        let small : x < 2 ^ 8 = omega arith in
        record {
          read = r.read ++ x ∷ [];
          before = r.before ∙ sym (append_assoc r.read (x ∷ []) lanes);
          spelled = ap₂ (λ (a b : List ℕ). a ++ b) (two_digits c d p q) r.spelled ∙ sym (lane_digits-last r.read x);
          count = length-append r.read (x ∷ []) ∙ omega (arith, r.count);
          all = All-append (λ y. y < 2 ^ 8) r.read (x ∷ []) r.all
              (All-cons (λ y. y < 2 ^ 8) x [] small (λ k d lt. absurd (omega arith)));
        }

-- a field of data is that of its lanes
pub record SpelledData (w : ℕ) (p : List ℕ) (lanes : Option (List ℕ)) : Type 0 where
  pub spelled : p ≡ lanes_text lanes
  pub are_lanes : AreLanes w lanes

pub is_dash-true : (p : List ℕ) → is_dash p ≡ true → p ≡ 45 ∷ []
is_dash-true [] e = absurd cc
is_dash-true (c ∷ []) e = rw (eqb-true c 45 e) refl
is_dash-true (c ∷ d ∷ cs) e = absurd cc

pub data_in-ok : (w : ℕ) (p : List ℕ) (lanes : Option (List ℕ)) → data_in w p ≡ Ok lanes → SpelledData w p lanes
data_in-ok w p lanes e = go (is_dash p) refl (is_pairs w p) refl e
  where
    none : {x : Option (List ℕ)} → x ≡ None → SpelledData w (45 ∷ []) x
    none h = rw h (record { spelled = refl; are_lanes = tt })

    some : {x : Option (List ℕ)} (r : AreRead w [] p) → x ≡ Some r.read → SpelledData w p x
    some r h = rw h (record { spelled = r.spelled; are_lanes = (r.count, r.all) })

    go : (a : Bool) → is_dash p ≡ a → (b : Bool) → is_pairs w p ≡ b
        → ok_data (a || b) (cond a None (Some (lanes_before [] p))) ≡ Ok lanes → SpelledData w p lanes
    go true h b k f = rw (is_dash-true p h) (none cc)
    go false h false k f = absurd cc
    go false h true k f =
        let r = pairs-read w [] p k in
        let same : lanes_before [] p ≡ r.read = r.before ∙ append-nil r.read in
        let given : lanes ≡ Some (lanes_before [] p) = cc in
        some r (given ∙ ap some_of same)
