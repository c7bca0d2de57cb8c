-- What a field spells is read, and what was read was spelled so.
use Rattle.tl_schedule.proofs.Imports.{Channel, digits, lane_digits, channel_named, number_in, bytes_in, size_in, front}
use Rattle.tl_schedule.proofs.Imports.{last, ◌>>=◌, some_pair}
use Rattle.std.proofs.Common.{◌≡◌, ℕ, zero, suc, ◌+◌, ◌*◌, ◌/◌, ◌^◌, ◌<◌, ◌≤◌, Bool, true, false, cond, List, [], ◌∷◌}
use Rattle.std.proofs.Common.{refl, sym, ap, ◌∙◌, arith}
use Rattle.std.{proofs.Math.Nat.div-eq_of_lt, proofs.Math.Nat.lt-div-mul-add, proofs.lemmas.Nat.pow_pos}
use Rattle.std.{proofs.lemmas.Bool.leb-true, proofs.lemmas.Bool.le-leb, proofs.lemmas.Slice.Eq.bytes_eq-Decides}
use Rattle.std.specs.Prelude.{◌&&◌, ◌||◌, nat_le, bytes_eq, Option, Some, None, option_map, Result, Ok, Err}
use Rattle.tl_beat.{specs.declared.fault.LineFault.LineFault, specs.declared.fault.LineFault.TheVariants.F3}
use Rattle.tl_beat.{specs.statement.Line.letter, proofs.OpcodeCodes.find-passes}
use Rattle.tl_beat.specs.statement.Digits.{is_digit, digit_value, is_digits, value_from, value_of, is_pairs}
use Rattle.tl_beat.specs.statement.Digits.{lanes_before, is_dash}
use Rattle.tl_beat.specs.code.Reading as beat_reading
use Rattle.tl_beat.proofs.SpelledDigits.{number_in-digits, number_in-ok, data_in-text, data_in-ok, pairs-no_dash}
use Rattle.tl_schedule.{specs.statement.EventLine.AreBytes, specs.statement.EventLine.HasRoom}
use Rattle.tl_schedule.{specs.code.NameReading.with_name, proofs.Options.bind_some}
use Rattle.tl_schedule.specs.code.FieldReading.{with_rest, byte_of, pairs_in, at_most, before_fields, at_end}
use Rattle.tl_burst.proofs.Whole.{some_is}

-- ---- numbers

number_in-is : (n w : ℕ) (p : List ℕ) → number_in n w p ≡ cond (is_digits w p) (Some (value_from n p)) None
unfolding number_in is_digits value_from
number_in-is n zero [] = refl
number_in-is n zero (c ∷ cs) = refl
number_in-is n (suc w) [] = refl
number_in-is n (suc w) (c ∷ cs) = go (is_digit c) (number_in-is (16 * n + digit_value c) w cs)
  where
    go : (b : Bool) → number_in (16 * n + digit_value c) w cs ≡ cond (is_digits w cs)
        (Some (value_from (16 * n + digit_value c) cs)) None
        → ((cond b (Some (digit_value c)) None >>= with_rest cs) >>= λ d. number_in (16 * n + d.0) w d.1) ≡ cond
        (b && is_digits w cs) (Some (value_from (16 * n + digit_value c) cs)) None
    go true h = h
    go false h = refl

below : (n m : ℕ) → 0 < m → 0 ≡ n / m → n < m
below n m pos e =
    let whole : n < n / m * m + m = lt-div-mul-add {a = n} {b = m} pos in
    let none : n / m * m ≡ 0 = ap (λ (k : ℕ). k * m) (sym e) ∙ omega arith in
    omega (arith, whole, none)

-- a number stands in its field
pub record IsNumber (w : ℕ) (p : List ℕ) (n : ℕ) : Type 0 where
  pub text : p ≡ digits w n
  pub room : HasRoom w n

pub number_taken : (w n : ℕ) (p : List ℕ) → number_in 0 w p ≡ Some n → IsNumber w p n
number_taken w n p e = go (is_digits w p) refl (sym (number_in-is 0 w p) ∙ e)
  where
    go : (b : Bool) → is_digits w p ≡ b → cond b (Some (value_from 0 p)) None ≡ Some n → IsNumber w p n
    go true is f =
        let same : value_of p ≡ n = some_is f in
        let read : beat_reading.number_in w p ≡ Ok n = rw (is, same) refl in
        let s = number_in-ok w p n read in
        record { text = s.spelled; room = below n (2 ^ (4 * w)) (pow_pos (4 * w)) s.fits }
    go false is f = absurd cc

pub number_again : (w n : ℕ) → HasRoom w n → number_in 0 w (digits w n) ≡ Some n
number_again w n room = number_in-is 0 w (digits w n) ∙ go (is_digits w (digits w n))
    (number_in-digits w n (sym (div-eq_of_lt room)))
  where
    ok_number : Bool → Result ℕ LineFault
    ok_number b = cond b (Ok (value_of (digits w n))) (Err F3)

    go : (b : Bool) → cond b (Ok (value_of (digits w n))) (Err F3) ≡ Ok n
        → cond b (Some (value_from 0 (digits w n))) None ≡ Some n
    go true e = let same : value_of (digits w n) ≡ n = cc in rw same refl
    go false e = absurd cc

pub record IsSize (limit : ℕ) (p : List ℕ) (size : ℕ) : Type 0 where
  pub text : p ≡ digits 1 size
  pub small : size ≤ limit

pub size_taken : (limit size : ℕ) (p : List ℕ) → size_in limit p ≡ Some size → IsSize limit p size
size_taken limit size p e =
    let (n, is, more) = bind_some (number_in 0 1 p) (at_most limit) size e in
    go n is (nat_le n limit) refl more
  where
    go : (n : ℕ) → number_in 0 1 p ≡ Some n → (b : Bool) → nat_le n limit ≡ b → cond b (Some n) None ≡ Some size
        → IsSize limit p size
    go n is true le f =
        let same : n ≡ size = some_is f in
        record { text = (number_taken 1 n p is).text ∙ ap (digits 1) same; small = rw (← same) (leb-true n limit le) }
    go n is false le f = absurd cc

pub size_again : (limit size : ℕ) → limit ≤ 6 → size ≤ limit → size_in limit (digits 1 size) ≡ Some size
size_again limit size few le = rw (number_again 1 size (omega arith), le-leb size limit le) refl

-- ---- bytes

pairs_in-is : (n : ℕ) (done p : List ℕ) → pairs_in done n p ≡ cond (is_pairs n p) (Some (lanes_before done p)) None
unfolding pairs_in is_pairs lanes_before
pairs_in-is zero done [] = refl
pairs_in-is zero done (c ∷ cs) = refl
pairs_in-is (suc n) done [] = refl
pairs_in-is (suc n) done (c ∷ []) = refl
pairs_in-is (suc n) done (c ∷ d ∷ cs) =
    go (is_digit c) (is_digit d) (pairs_in-is n ((16 * digit_value c + digit_value d) ∷ done) cs)
  where
    go : (a b : Bool) → pairs_in ((16 * digit_value c + digit_value d) ∷ done) n cs ≡ cond (is_pairs n cs)
        (Some (lanes_before ((16 * digit_value c + digit_value d) ∷ done) cs)) None
        → ((cond a (Some (digit_value c)) None >>= λ high. cond b (Some (digit_value d)) None >>= λ low. byte_of cs high
        low) >>= λ x. pairs_in (x.0 ∷ done) n x.1)
        ≡ cond ((a && b) && is_pairs n cs) (Some (lanes_before ((16 * digit_value c + digit_value d) ∷ done) cs)) None
    go true true h = h
    go v u h = refl

-- bytes stand in their field
pub record IsData (n : ℕ) (p bytes : List ℕ) : Type 0 where
  pub text : p ≡ lane_digits bytes
  pub are_bytes : AreBytes n bytes

pub bytes_taken : (n : ℕ) (p bytes : List ℕ) → bytes_in n p ≡ Some bytes → IsData n p bytes
bytes_taken n p bytes e = go (is_pairs n p) refl (sym (pairs_in-is n [] p) ∙ e)
  where
    go : (b : Bool) → is_pairs n p ≡ b → cond b (Some (lanes_before [] p)) None ≡ Some bytes → IsData n p bytes
    go true is f =
        let same : lanes_before [] p ≡ bytes = some_is f in
        let read : beat_reading.data_in n p ≡ Ok (Some bytes) = rw (pairs-no_dash n p is, is, same) refl in
        let s = data_in-ok n p (Some bytes) read in
        record { text = s.spelled; are_bytes = s.are_lanes }
    go false is f = absurd cc

pub bytes_again : (n : ℕ) (bytes : List ℕ) → AreBytes n bytes → bytes_in n (lane_digits bytes) ≡ Some bytes
bytes_again n bytes all =
    let p = lane_digits bytes in
    pairs_in-is n [] p ∙ go (is_dash p) (is_pairs n p) (lanes_before [] p) (data_in-text n (Some bytes) all)
  where
    go : (a b : Bool) (found : List ℕ) → cond (a || b) (Ok (cond a None (Some found))) (Err F3) ≡ Ok (Some bytes)
        → cond b (Some found) None ≡ Some bytes
    go false true found e = cc
    go v u found e = absurd cc

-- ---- names

pub name_taken : {A : Type 0} (name : A → List ℕ) (all : List A) (p : List ℕ) (x : A) → with_name name all p ≡ Some x
    → p ≡ name x
name_taken name all p x e = (bytes_eq-Decides p (name x)).0 (find-passes (λ y. bytes_eq p (name y)) all x e)

pub channel_again : (c : Channel) → channel_named (letter c) ≡ Some c
channel_again Channel.A = refl
channel_again v = refl

-- ---- fields in a row

-- the first field says this, and the others are left
pub record IsFront {A : Type 0} (read : List ℕ → Option A) (fields : List (List ℕ)) (a : A)
    (rest : List (List ℕ)) : Type 0 where
  pub field : List ℕ
  pub same : fields ≡ field ∷ rest
  pub says : read field ≡ Some a

pub front_taken : {A : Type 0} (read : List ℕ → Option A) (fields : List (List ℕ)) (a : A) (rest : List (List ℕ))
    → front read fields ≡ Some (a, rest) → IsFront read fields a rest
front_taken read [] a rest e = absurd cc
front_taken {A} read (field ∷ fields) a rest e =
    let (x, is, more) = bind_some (read field) (before_fields fields) (a, rest) e in
    let (value, left) = some_pair (x, fields) (a, rest) more in
    record {
      field = field;
      same = ap (λ (fs : List (List ℕ)). field ∷ fs) left;
      says =
          is ∙ ap (λ (y : A). Some y) value;
    }

pub end_taken : {A : Type 0} (fields : List (List ℕ)) (a b : A) → at_end fields a ≡ Some b → (fields ≡ []) × (a ≡ b)
end_taken [] a b e = (refl, some_is e)
end_taken (field ∷ fields) a b e = absurd cc

-- the only field left says this
pub record IsLast {A : Type 0} (read : List ℕ → Option A) (fields : List (List ℕ)) (a : A) : Type 0 where
  pub field : List ℕ
  pub same : fields ≡ field ∷ []
  pub says : read field ≡ Some a

pub last_taken : {A : Type 0} (read : List ℕ → Option A) (fields : List (List ℕ)) (a : A) → last read fields ≡ Some a
    → IsLast read fields a
last_taken {A} read fields a e =
    let (x, is, more) = bind_some (front read fields) _ a e in
    let first = front_taken read fields x.0 x.1 is in
    let (none, value) = end_taken x.1 x.0 a more in
    record {
      field = first.field;
      same = first.same ∙ ap (λ (fs : List (List ℕ)). first.field ∷ fs) none;
      says =
          first.says ∙ ap (λ (y : A). Some y) value;
    }

pub map_taken : {A B : Type 0} (f : A → B) (o : Option A) (y : B) → option_map f o ≡ Some y → (x : A) × (o ≡ Some x)
    × (f x ≡ y)
map_taken f None y e = absurd cc
map_taken f (Some x) y e = (x, refl, some_is e)
