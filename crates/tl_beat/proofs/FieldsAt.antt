-- Fields read from left to right are those of the pieces between spaces.
use Rattle.std.proofs.Common.{◌≡◌, ℕ, zero, suc, ◌+◌, ◌-◌, ◌*◌, ◌<◌, Bool, true, false, cond, List, [], ◌∷◌, ◌++◌}
use Rattle.std.proofs.Common.{length, get_or, take, refl, ap, ap₂, ◌∙◌, arith, length-append}
use Rattle.std.proofs.Math.ListN.{get_or-append}
use Rattle.std.proofs.Math.Seq.{get_or-append_seam, take-append_seam}
use Rattle.std.proofs.lemmas.List.{get_or-append-add}
use Rattle.std.specs.Prelude.{Result, Ok, Err, Option, Some, None, ◌==◌, ◌&&◌, ◌||◌, nat_le}
use Rattle.std.proofs.lemmas.Bool.{eqb-true, le-leb}
use Rattle.tl_beat.specs.declared.fault.LineFault.{LineFault}
use Rattle.tl_beat.specs.declared.fault.LineFault.TheVariants.{F3}
use Rattle.tl_beat.specs.declared.read.line.Head.{Head}
use Rattle.tl_beat.specs.statement.Digits.{is_digit, digit_value, is_digits, value_from, value_of, is_pairs}
use Rattle.tl_beat.specs.statement.Digits.{lanes_before, is_dash, is_data, data_of, is_bit, bit_of}
use Rattle.tl_beat.specs.code.Reading.{◌>>=◌, number_in, data_in, bit_in}
use Rattle.tl_beat.specs.code.FromLeft.{value_or_fault, digits_at, space_at, field_at, bit_of_byte, bit_field_at}
use Rattle.tl_beat.specs.code.FromLeft.{lanes_at, some_lanes, data_at, head_at, tail_at, at_end}
use Rattle.tl_beat.proofs.Pieces.{NoSpace, NoSpace-get}

abbrev with_number : ℕ → List ℕ → Result (ℕ × List ℕ) LineFault
with_number n rest = Ok (n, rest)

abbrev ok_both : Option (List ℕ) → Bool → Result (Option (List ℕ) × Bool) LineFault
ok_both lanes corrupt = Ok (lanes, corrupt)

abbrev no_bit : Result Bool LineFault
no_bit = Err F3

abbrev found : Bool → ℕ → List ℕ → Result (ℕ × List ℕ) LineFault
found b n rest = cond b (with_number n rest) (Err F3)

-- digits and a space
digits-spaced : (n number : ℕ) (p rest : List ℕ) → NoSpace p
    → (digits_at number n (p ++ 32 ∷ rest) >>= λ x. space_at x.1 >>= with_number x.0) ≡ found (is_digits n p)
    (value_from number p) rest
unfolding digits_at is_digits value_from
digits-spaced zero number [] rest none = refl
digits-spaced zero number (c ∷ cs) rest none = rw none.0 refl
digits-spaced (suc n) number [] rest none = refl
digits-spaced (suc n) number (c ∷ cs) rest none =
    go (is_digit c) (digits-spaced n (16 * number + digit_value c) cs rest none.1)
  where
    go : (b : Bool)
        → (digits_at (16 * number + digit_value c) n (cs ++ 32 ∷ rest) >>= λ x. space_at x.1 >>= with_number x.0)
        ≡ found (is_digits n cs) (value_from (16 * number + digit_value c) cs) rest
        → ((value_or_fault (cond b (Some (digit_value c)) None) (cs ++ 32 ∷ rest) >>= λ d. digits_at (16 * number + d.0)
        n d.1) >>= λ x.
        space_at x.1 >>= with_number x.0) ≡ found (b && is_digits n cs) (value_from (16 * number + digit_value c) cs)
        rest
    go true h = h
    go false h = refl

pub field_at-spaced : (n : ℕ) (p rest : List ℕ) → NoSpace p → field_at n (p ++ 32 ∷ rest) ≡ found (is_digits n p)
    (value_of p) rest
field_at-spaced n p rest none = digits-spaced n 0 p rest none

-- digits at the end
digits-end : (n number : ℕ) (p : List ℕ) → (digits_at number n p >>= at_end) ≡ cond (is_digits n p)
    (Ok (value_from number p)) (Err F3)
unfolding digits_at is_digits value_from
digits-end zero number [] = refl
digits-end zero number (c ∷ cs) = refl
digits-end (suc n) number [] = refl
digits-end (suc n) number (c ∷ cs) = go (is_digit c) (digits-end n (16 * number + digit_value c) cs)
  where
    go : (b : Bool) → (digits_at (16 * number + digit_value c) n cs >>= at_end) ≡ cond (is_digits n cs)
        (Ok (value_from (16 * number + digit_value c) cs)) (Err F3)
        → ((value_or_fault (cond b (Some (digit_value c)) None) cs >>= λ d. digits_at (16 * number + d.0) n d.1) >>=
        at_end) ≡ cond (b && is_digits n cs)
        (Ok (value_from (16 * number + digit_value c) cs)) (Err F3)
    go true h = h
    go false h = refl

pub digits_at-end : (n : ℕ) (p : List ℕ) → (digits_at 0 n p >>= at_end) ≡ number_in n p
digits_at-end n p = digits-end n 0 p

-- lanes
lanes_at-is : (n : ℕ) (lanes p : List ℕ) → lanes_at lanes n p ≡ cond (is_pairs n p) (Ok (lanes_before lanes p)) (Err F3)
unfolding lanes_at is_pairs lanes_before
lanes_at-is zero lanes [] = refl
lanes_at-is zero lanes (c ∷ cs) = refl
lanes_at-is (suc n) lanes [] = refl
lanes_at-is (suc n) lanes (c ∷ []) = refl
lanes_at-is (suc n) lanes (c ∷ d ∷ cs) =
    go (is_digit c && is_digit d) (lanes_at-is n ((16 * digit_value c + digit_value d) ∷ lanes) cs)
  where
    go : (b : Bool) → lanes_at ((16 * digit_value c + digit_value d) ∷ lanes) n cs ≡ cond (is_pairs n cs)
        (Ok (lanes_before ((16 * digit_value c + digit_value d) ∷ lanes) cs)) (Err F3)
        → (cond b (with_number (16 * digit_value c + digit_value d) cs) (Err F3) >>= λ lane. lanes_at (lane.0 ∷ lanes) n
        lane.1) ≡ cond (b && is_pairs n cs)
        (Ok (lanes_before ((16 * digit_value c + digit_value d) ∷ lanes) cs)) (Err F3)
    go true h = h
    go false h = refl

data_at-is : (w : ℕ) (p : List ℕ) → data_at w p ≡ data_in w p
data_at-is w p = go (is_dash p)
  where
    some : (b : Bool) → some_lanes (cond b (Ok (lanes_before [] p)) (Err F3)) ≡ cond b (Ok (Some (lanes_before [] p)))
        (Err F3)
    some true = refl
    some false = refl

    go : (b : Bool) → cond b (Ok None) (some_lanes (lanes_at [] w p)) ≡ cond (b || is_pairs w p)
        (Ok (cond b None (Some (lanes_before [] p)))) (Err F3)
    go true = refl
    go false = rw (lanes_at-is w [] p) (some (is_pairs w p))

-- ---- and then

-- a number, then what the rest is read as
pub then_number : {A : Type 0} (n : ℕ) (p rest : List ℕ) (more : ℕ × List ℕ → Result A LineFault) (next : ℕ
    → Result A LineFault) → NoSpace p
    → ((v : ℕ) → more (v, rest) ≡ next v) → (field_at n (p ++ 32 ∷ rest) >>= more) ≡ (number_in n p >>= next)
then_number {A} n p rest more next none same = rw (field_at-spaced n p rest none) (go (is_digits n p) (value_of p))
  where
    go : (b : Bool) (v : ℕ) → (found b v rest >>= more) ≡ (cond b (Ok v) (Err F3) >>= next)
    go true v = same v
    go false v = refl

-- the same inside a part of the line
pub then_number_in : {A B : Type 0} (n : ℕ) (p rest : List ℕ) (part : ℕ × List ℕ → Result B LineFault) (more : B
    → Result A LineFault) (next : ℕ → Result A LineFault) → NoSpace p
    → ((v : ℕ) → (part (v, rest) >>= more) ≡ next v)
    → ((field_at n (p ++ 32 ∷ rest) >>= part) >>= more) ≡ (number_in n p >>= next)
then_number_in {A} {B} n p rest part more next none same =
    rw (field_at-spaced n p rest none) (go (is_digits n p) (value_of p))
  where
    go : (b : Bool) (v : ℕ) → ((found b v rest >>= part) >>= more) ≡ (cond b (Ok v) (Err F3) >>= next)
    go true v = same v
    go false v = refl

abbrev with_bit : Bool → List ℕ → Result (Bool × List ℕ) LineFault
with_bit b rest = Ok (b, rest)

abbrev found_bit : Bool → Bool → List ℕ → Result (Bool × List ℕ) LineFault
found_bit b bit rest = cond b (with_bit bit rest) (Err F3)

bit_field_at-spaced : (p rest : List ℕ) → NoSpace p → bit_field_at (p ++ 32 ∷ rest) ≡ found_bit (is_bit p) (bit_of p)
    rest
bit_field_at-spaced [] rest none = refl
bit_field_at-spaced (c ∷ []) rest none = go (c == 48) refl (c == 49) refl
  where
    go : (a : Bool) → (c == 48) ≡ a → (b : Bool) → (c == 49) ≡ b
        → (cond a (Ok false) (cond b (Ok true) (Err F3)) >>= λ bit. with_bit bit rest) ≡ found_bit (a || b) b rest
    go true p true q = absurd (let e : c ≡ 48 = eqb-true c 48 p in let f : c ≡ 49 = eqb-true c 49 q in omega arith)
    go true p false q = refl
    go false p true q = refl
    go false p false q = refl
bit_field_at-spaced (c ∷ d ∷ cs) rest none = go (c == 48) (c == 49)
  where
    go : (a b : Bool) → (cond a (Ok false) (cond b (Ok true) (Err F3)) >>= λ bit. space_at (d ∷ (cs ++ 32 ∷ rest)) >>=
        with_bit bit) ≡ Err F3
    go true b = rw none.1.0 refl
    go false true = rw none.1.0 refl
    go false false = refl

pub then_bit : {A : Type 0} (p rest : List ℕ) (more : Bool × List ℕ → Result A LineFault) (next : Bool
    → Result A LineFault) → NoSpace p
    → ((v : Bool) → more (v, rest) ≡ next v) → (bit_field_at (p ++ 32 ∷ rest) >>= more) ≡ (bit_in p >>= next)
then_bit {A} p rest more next none same = rw (bit_field_at-spaced p rest none) (go (is_bit p) (bit_of p))
  where
    go : (b v : Bool) → (found_bit b v rest >>= more) ≡ (cond b (Ok v) (Err F3) >>= next)
    go true v = same v
    go false v = refl

-- ---- the first five fields

abbrev head_of : ℕ → ℕ → ℕ → ℕ → ℕ → List ℕ → Head × List ℕ
head_of link opcode param size source rest =
    (record { link = link; opcode = opcode; param = param; size = size; source = source }, rest)

pub then_head : {A : Type 0} (link opcode param size source : List ℕ) (letter : ℕ) (rest : List ℕ) (more : Head × List ℕ
    → Result A LineFault) (next : ℕ → ℕ → ℕ → ℕ → ℕ → Result A LineFault)
    → NoSpace link → NoSpace opcode → NoSpace param → NoSpace size → NoSpace source
    → ((l o p s t : ℕ) → more (head_of l o p s t rest) ≡ next l o p s t)
    → (head_at (link ++ 32 ∷ (letter ∷ 32 ∷ (opcode ++ 32 ∷ (param ++ 32 ∷ (size ++ 32 ∷ (source ++ 32 ∷ rest)))))) >>=
    more)
    ≡ (number_in 2 link >>= λ l. number_in 1 opcode >>= λ o. number_in 1 param >>= λ p. number_in 1 size >>= λ s.
    number_in 2 source >>= λ t. next l o p s t)
unfolding head_at
then_head link opcode param size source letter rest more next nl nc np ns nt same =
    then_number_in 2 link _ _ more _ nl (λ l. then_number_in 1 opcode _ _ more _ nc
    (λ o. then_number_in 1 param _ _ more _ np (λ p. then_number_in 1 size _ _ more _ ns
    (λ s. then_number_in 2 source _ _ more _ nt (λ t. same l o p s t)))))

-- ---- data and the corrupt bit

and_false : (a b : Bool) → b ≡ false → (a && b) ≡ false
and_false true b e = e
and_false false b e = refl

-- the last byte but one isn't a space, where nothing or more than one byte stands behind the space
not_spaced : (p q : List ℕ) → NoSpace p → NoSpace q → (length q ≡ 1 → ⊥)
    → (nat_le 2 (length (p ++ 32 ∷ q)) && (get_or (p ++ 32 ∷ q) (length (p ++ 32 ∷ q) - 2) 0 == 32)) ≡ false
not_spaced [] [] np nq many = refl
not_spaced (c ∷ cs) [] np nq many =
    let len : length ((c ∷ cs) ++ 32 ∷ []) ≡ length (c ∷ cs) + 1 = length-append (c ∷ cs) (32 ∷ []) in
    let at : length ((c ∷ cs) ++ 32 ∷ []) - 2 ≡ length cs = omega (arith, len) in
    let short : length cs < length (c ∷ cs) = omega arith in
    and_false _ _ (ap (λ (i : ℕ). get_or ((c ∷ cs) ++ 32 ∷ []) i 0 == 32) at ∙ ap (λ (b : ℕ). b == 32)
    (get_or-append (c ∷ cs) (32 ∷ []) 0 (length cs) short)
    ∙ NoSpace-get (c ∷ cs) (length cs) np short)
not_spaced p (c ∷ []) np nq many = absurd (many (omega arith))
not_spaced p (c ∷ d ∷ cs) np nq many =
    let q : List ℕ = c ∷ d ∷ cs in
    let len : length (p ++ 32 ∷ q) ≡ length p + length (32 ∷ q) = length-append p (32 ∷ q) in
    let at : length (p ++ 32 ∷ q) - 2 ≡ length p + suc (length cs) = omega (arith, len) in
    let short : length cs < length q = omega arith in
    and_false _ _ (ap (λ (i : ℕ). get_or (p ++ 32 ∷ q) i 0 == 32) at ∙ ap (λ (b : ℕ). b == 32)
    (get_or-append-add p (32 ∷ q) (suc (length cs)) 0) ∙ NoSpace-get q (length cs) nq short)

abbrev tail_if : ℕ → Bool → List ℕ → ℕ → Result (Option (List ℕ) × Bool) LineFault
tail_if w b field last = cond b (data_at w field >>= λ lanes. bit_of_byte last >>= λ corrupt. ok_both lanes corrupt)
    (Err F3)

abbrev bit_if : Bool → Bool → Result Bool LineFault
bit_if a b = cond a (Ok false) (cond b (Ok true) (Err F3))

-- a bit of one byte
bit_of_byte-is : (c : ℕ) → bit_of_byte c ≡ bit_in (c ∷ [])
bit_of_byte-is c = go (c == 48) refl (c == 49) refl
  where
    go : (a : Bool) → (c == 48) ≡ a → (b : Bool) → (c == 49) ≡ b → bit_if a b ≡ cond (a || b) (Ok b) (Err F3)
    go true p true q = absurd (let e : c ≡ 48 = eqb-true c 48 p in let f : c ≡ 49 = eqb-true c 49 q in omega arith)
    go true p false q = refl
    go false p true q = refl
    go false p false q = refl

tail_at-spaced : (w : ℕ) (p : List ℕ) (c : ℕ)
    → tail_at w (p ++ 32 ∷ c ∷ []) ≡ (data_in w p >>= λ lanes. bit_in (c ∷ []) >>= λ corrupt. ok_both lanes corrupt)
unfolding tail_at
tail_at-spaced w p c =
    let bytes : List ℕ = p ++ 32 ∷ c ∷ [] in
    let len : length bytes ≡ length p + length (32 ∷ c ∷ []) = length-append p (32 ∷ c ∷ []) in
    let at : length bytes - 2 ≡ length p = omega (arith, len) in
    let last : length bytes - 1 ≡ length p + 1 = omega (arith, len) in
    let long : nat_le 2 (length bytes) ≡ true = le-leb 2 (length bytes) (omega (arith, len)) in
    let space : (get_or bytes (length bytes - 2) 0 == 32) ≡ true =
    ap (λ (i : ℕ). get_or bytes i 0 == 32) at ∙ ap (λ (b : ℕ). b == 32) (get_or-append_seam p 32 (c ∷ []) 0) in
    let test : (nat_le 2 (length bytes) && (get_or bytes (length bytes - 2) 0 == 32)) ≡ true =
    ap₂ (λ (a b : Bool). a && b) long space in
    let field : take (length bytes - 2) bytes ≡ p = ap (λ (i : ℕ). take i bytes) at ∙ take-append_seam p (32 ∷ c ∷ [])
    in
    let byte : get_or bytes (length bytes - 1) 0 ≡ c = ap (λ (i : ℕ). get_or bytes i 0) last ∙ get_or-append-add p
    (32 ∷ c ∷ []) 1 0 in
    ap (λ (b : Bool). tail_if w b (take (length bytes - 2) bytes) (get_or bytes (length bytes - 1) 0)) test
    ∙ ap₂ (tail_if w true) field byte
    ∙ rw (data_at-is w p, bit_of_byte-is c) refl

no_tail : {A : Type 0} (w : ℕ) (p : List ℕ) (next : Option (List ℕ) → Bool → Result A LineFault)
    → Err F3 ≡ (data_in w p >>= λ d. no_bit >>= λ b. next d b)
no_tail {A} w p next = go (is_data w p)
  where
    go : (b : Bool) → Err F3 ≡ (cond b (Ok (data_of p)) (Err F3) >>= λ d. no_bit >>= λ b. next d b)
    go true = refl
    go false = refl

pub then_tail : {A : Type 0} (w : ℕ) (p q : List ℕ) (more : Option (List ℕ) × Bool → Result A LineFault)
    (next : Option (List ℕ) → Bool → Result A LineFault) → NoSpace p → NoSpace q
    → ((d : Option (List ℕ)) (b : Bool) → more (d, b) ≡ next d b)
    → (tail_at w (p ++ 32 ∷ q) >>= more) ≡ (data_in w p >>= λ d. bit_in q >>= λ b. next d b)
unfolding tail_at
then_tail w p [] more next np nq same = rw (not_spaced p [] np nq (λ (e : 0 ≡ 1). omega arith)) (no_tail w p next)
then_tail {A} w p (c ∷ []) more next np nq same =
    ap (λ (r : Result (Option (List ℕ) × Bool) LineFault). r >>= more) (tail_at-spaced w p c) ∙ go (is_data w p)
    (data_of p) (is_bit (c ∷ [])) (bit_of (c ∷ []))
  where
    go : (a : Bool) (d : Option (List ℕ)) (e f : Bool)
        → ((cond a (Ok d) (Err F3) >>= λ lanes. cond e (Ok f) (Err F3) >>= λ corrupt. ok_both lanes corrupt) >>= more)
        ≡ (cond a (Ok d) (Err F3) >>= λ d. cond e (Ok f) (Err F3) >>= λ b. next d b)
    go true d true f = same d f
    go true d false f = refl
    go false d e f = refl
then_tail w p (c ∷ d ∷ cs) more next np nq same = rw (not_spaced p (c ∷ d ∷ cs) np nq (λ e. absurd (omega arith)))
    (no_tail w p next)
