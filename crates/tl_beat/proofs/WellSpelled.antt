-- A line that is read from left to right, with its letter at its place, has the spaces of its channel.
use Rattle.std.proofs.Common.{◌≡◌, ℕ, zero, suc, ◌+◌, ◌-◌, ◌*◌, ◌/◌, ◌<◌, ◌≤◌, Bool, true, false, cond, List, [], ◌∷◌}
use Rattle.std.proofs.Common.{◌++◌, length, get_or, take, drop, refl, sym, ap, ap₂, subst, ◌∙◌, arith}
use Rattle.std.proofs.Math.Seq.{drop-cons}
use Rattle.std.proofs.lemmas.List.{take-append-drop, drop_all}
use Rattle.std.proofs.lemmas.List.Sums.{sum_by-cons}
use Rattle.std.proofs.lemmas.Bool.{eqb-true, leb-true, and_parts}
use Rattle.std.proofs.lemmas.Bool.Decides.{nat_tests}
use Rattle.std.specs.Prelude.{Result, Ok, Err, Option, Some, None, ◌==◌, ◌&&◌, nat_le, slice_index, IfOk}
use Rattle.std.specs.List.{after_first}
use Rattle.tl_beat.specs.declared.beat.Link.{Link}
use Rattle.tl_beat.specs.declared.beat.Beat.{Beat}
use Rattle.tl_beat.specs.declared.read.line.Head.{Head}
use Rattle.tl_beat.specs.declared.fault.LineFault.{LineFault}
use Rattle.tl_beat.specs.declared.fault.LineFault.TheVariants.{F3}
use Rattle.tl_beat.specs.statement.Digits.{is_digit, digit_value, is_dash}
use Rattle.tl_beat.specs.code.Reading.{◌>>=◌}
use Rattle.tl_beat.specs.code.FromLeft.{value_or_fault, digits_at, space_at, field_at, bit_of_byte, bit_field_at}
use Rattle.tl_beat.specs.code.FromLeft.{lanes_at, some_lanes, data_at, at_end, head_at}
use Rattle.tl_beat.specs.code.FromLeft.{tail_at, line_a_at, line_b_at, line_c_at, line_d_at, line_e_at, letter_in}
use Rattle.tl_beat.specs.code.FromLeft.{spaces_in, body_at}
use Rattle.tl_beat.proofs.Pieces.{NoSpace, after_first-piece}
use Rattle.tl_beat.proofs.SpelledDigits.{is_dash-true}
use Rattle.tl_beat.proofs.ReadFields.{ok_of, ok_is, ok_step}

-- ---- spaces

cons-spaces : (c : ℕ) (cs : List ℕ) → spaces_in (c ∷ cs) ≡ cond (c == 32) 1 0 + spaces_in cs
cons-spaces c cs = sum_by-cons (λ x. cond (x == 32) 1 0) c cs

pub no-spaces : (p rest : List ℕ) → NoSpace p → spaces_in (p ++ rest) ≡ spaces_in rest
no-spaces [] rest none = refl
no-spaces (c ∷ cs) rest none = cons-spaces c (cs ++ rest) ∙ rw none.0 (omega (arith, no-spaces cs rest none.1))

one-space : (cs : List ℕ) → spaces_in (32 ∷ cs) ≡ spaces_in cs + 1
one-space cs = omega (arith, cons-spaces 32 cs)

digit-no_space : (c : ℕ) → is_digit c ≡ true → (c == 32) ≡ false
digit-no_space c e = grind (arith, nat_tests)

-- ---- fields

-- n bytes without a space stand before the rest
pub record Begins (n : ℕ) (bytes rest : List ℕ) : Type 0 where
  pub piece : List ℕ
  pub none : NoSpace piece
  pub count : length piece ≡ n
  pub is : bytes ≡ piece ++ rest

pub digits-begin : (n number v : ℕ) (bytes rest : List ℕ) → digits_at number n bytes ≡ Ok (v, rest)
    → Begins n bytes rest
unfolding digits_at
digits-begin zero number v bytes rest e = record {
  piece = [];
  none = tt;
  count = refl;
  is =
      ap (λ (x : ℕ × List ℕ). x.1) (ok_is e);
}
digits-begin (suc n) number v [] rest e = absurd cc
digits-begin (suc n) number v (c ∷ cs) rest e =
    go (is_digit c) refl e (λ f. digits-begin n (16 * number + digit_value c) v cs rest f)
  where
    go : (b : Bool) → is_digit c ≡ b
        → (value_or_fault (cond b (Some (digit_value c)) None) cs >>= λ d. digits_at (16 * number + d.0) n d.1) ≡ Ok
        (v, rest)
        → (digits_at (16 * number + digit_value c) n cs ≡ Ok (v, rest) → Begins n cs rest)
        → Begins (suc n) (c ∷ cs) rest
    go true is f more =
        let t = more f in
        record {
          piece = c ∷ t.piece;
          none = (digit-no_space c is, t.none);
          count = ap suc t.count;
          is =
              ap (λ (xs : List ℕ). c ∷ xs) t.is;
        }
    go false is f more = absurd cc

space-begins : (bytes rest : List ℕ) → space_at bytes ≡ Ok rest → bytes ≡ 32 ∷ rest
space-begins [] rest e = absurd cc
space-begins (c ∷ cs) rest e = go (c == 32) refl e
  where
    go : (b : Bool) → (c == 32) ≡ b → cond b (ok_of cs) (Err F3) ≡ ok_of rest → c ∷ cs ≡ 32 ∷ rest
    go true is f = ap₂ (λ (x : ℕ) (xs : List ℕ). x ∷ xs) (eqb-true c 32 is) (ok_is f)
    go false is f = absurd cc

field-begins : (n v : ℕ) (bytes rest : List ℕ) → field_at n bytes ≡ Ok (v, rest) → Begins n bytes (32 ∷ rest)
field-begins n v bytes rest e =
    ok_step (digits_at 0 n bytes) _ (v, rest) _ e (λ x h e1.
    ok_step (space_at x.1) _ (v, rest) _ e1 (λ left k e2.
    let t = digits-begin n 0 x.0 bytes x.1 h in
    let same : left ≡ rest = ap (λ (y : ℕ × List ℕ). y.1) (ok_is e2) in
    record {
      piece = t.piece;
      none = t.none;
      count = t.count;
      is =
          t.is ∙ ap (λ (xs : List ℕ). t.piece ++ xs) (space-begins x.1 left k ∙ ap (λ (xs : List ℕ). 32 ∷ xs) same);
    }))

pub field-spaces : (n v : ℕ) (bytes rest : List ℕ) → field_at n bytes ≡ Ok (v, rest)
    → spaces_in bytes ≡ spaces_in rest + 1
field-spaces n v bytes rest e =
    let t = field-begins n v bytes rest e in
    ap spaces_in t.is ∙ no-spaces t.piece (32 ∷ rest) t.none ∙ one-space rest

bit-no_space : (c : ℕ) (b : Bool) → bit_of_byte c ≡ Ok b → (c == 32) ≡ false
bit-no_space c b e = go (c == 48) refl (c == 49) refl e
  where
    go : (x : Bool) → (c == 48) ≡ x → (y : Bool) → (c == 49) ≡ y
        → cond x (ok_of false) (cond y (ok_of true) (Err F3)) ≡ ok_of b → (c == 32) ≡ false
    go true h y k f = rw (eqb-true c 48 h) refl
    go false h true k f = rw (eqb-true c 49 k) refl
    go false h false k f = absurd cc

pub bit_field-spaces : (b : Bool) (bytes rest : List ℕ) → bit_field_at bytes ≡ Ok (b, rest)
    → spaces_in bytes ≡ spaces_in rest + 1
bit_field-spaces b [] rest e = absurd cc
bit_field-spaces b (c ∷ cs) rest e =
    ok_step (bit_of_byte c) _ (b, rest) _ e (λ x h e1.
    ok_step (space_at cs) _ (b, rest) _ e1 (λ left k e2.
    let same : left ≡ rest = ap (λ (y : Bool × List ℕ). y.1) (ok_is e2) in
    cons-spaces c cs ∙ rw (bit-no_space c x h, space-begins cs left k, same) (omega (arith, one-space rest))))

-- ---- data and the corrupt bit

abbrev paired : Bool → ℕ → List ℕ → Result (ℕ × List ℕ) LineFault
paired b lane rest = cond b (Ok (lane, rest)) (Err F3)

lanes-no_space : (lanes : List ℕ) (n : ℕ) (field read : List ℕ) → lanes_at lanes n field ≡ Ok read → NoSpace field
unfolding lanes_at
lanes-no_space lanes zero [] read e = tt
lanes-no_space lanes zero (c ∷ cs) read e = absurd cc
lanes-no_space lanes (suc n) [] read e = absurd cc
lanes-no_space lanes (suc n) (c ∷ []) read e = absurd cc
lanes-no_space lanes (suc n) (c ∷ d ∷ cs) read e =
    go (is_digit c) refl (is_digit d) refl e (λ f. lanes-no_space ((16 * digit_value c + digit_value d) ∷ lanes) n cs
    read f)
  where
    value : ℕ
    value = 16 * digit_value c + digit_value d

    go : (a : Bool) → is_digit c ≡ a → (b : Bool) → is_digit d ≡ b
        → (paired (a && b) value cs >>= λ lane. lanes_at (lane.0 ∷ lanes) n lane.1) ≡ Ok read
        → (lanes_at (value ∷ lanes) n cs ≡ Ok read → NoSpace cs) → NoSpace (c ∷ d ∷ cs)
    go true p true q f more = (digit-no_space c p, (digit-no_space d q, more f))
    go true p false q f more = absurd cc
    go false p b q f more = absurd cc

data-no_space : (w : ℕ) (field : List ℕ) (lanes : Option (List ℕ)) → data_at w field ≡ Ok lanes → NoSpace field
data-no_space w field lanes e = go (is_dash field) refl e
  where
    some : (r : Result (List ℕ) LineFault) → lanes_at [] w field ≡ r → some_lanes r ≡ Ok lanes → NoSpace field
    some (Ok read) h f = lanes-no_space [] w field read h
    some (Err fault) h f = absurd cc

    go : (b : Bool) → is_dash field ≡ b → cond b (ok_of None) (some_lanes (lanes_at [] w field)) ≡ Ok lanes
        → NoSpace field
    go true is f = rw (is_dash-true field is) (refl, tt)
    go false is f = some (lanes_at [] w field) refl f

pub tail-spaces : (w : ℕ) (bytes : List ℕ) (read : Option (List ℕ) × Bool) → tail_at w bytes ≡ Ok read
    → spaces_in bytes ≡ 1
unfolding tail_at
tail-spaces w bytes read e = go (nat_le 2 (length bytes) && (slice_index bytes (length bytes - 2) == 32)) refl e
  where
    front : List ℕ
    front = take (length bytes - 2) bytes

    last : ℕ
    last = slice_index bytes (length bytes - 1)

    go : (b : Bool) → (nat_le 2 (length bytes) && (slice_index bytes (length bytes - 2) == 32)) ≡ b
        → cond b (data_at w front >>= λ lanes. bit_of_byte last >>= λ corrupt. ok_of (lanes, corrupt)) (Err F3) ≡ ok_of
        read → spaces_in bytes ≡ 1
    go false is f = absurd cc
    go true is f =
        ok_step (data_at w front) _ read _ f (λ lanes h f1.
        ok_step (bit_of_byte last) _ read _ f1 (λ corrupt k f2.
        let parts = and_parts (nat_le 2 (length bytes)) (slice_index bytes (length bytes - 2) == 32) is in
        let long : 2 ≤ length bytes = leb-true 2 (length bytes) parts.0 in
        let space : get_or bytes (length bytes - 2) 0 ≡ 32 = eqb-true _ 32 parts.1 in
        let after : suc (length bytes - 2) ≡ length bytes - 1 = omega arith in
        let one : drop (length bytes - 1) bytes ≡ last ∷ [] = drop-cons bytes (length bytes - 1) 0 (omega arith)
        ∙ ap (λ (xs : List ℕ). last ∷ xs) (drop_all (suc (length bytes - 1)) bytes (omega arith)) in
        let two : drop (length bytes - 2) bytes ≡ 32 ∷ last ∷ [] =
        drop-cons bytes (length bytes - 2) 0 (omega arith) ∙ rw (space, after, one) refl in
        let whole : bytes ≡ front ++ 32 ∷ last ∷ [] = sym (take-append-drop (length bytes - 2) bytes) ∙ ap
        (λ (xs : List ℕ). front ++ xs) two in
        let alone : spaces_in (last ∷ []) ≡ 0 = cons-spaces last [] ∙ ap (λ (b : Bool). cond b 1 0 + 0)
        (bit-no_space last corrupt k) in
        ap spaces_in whole ∙ no-spaces front (32 ∷ last ∷ []) (data-no_space w front lanes h) ∙ one-space (last ∷ [])
        ∙ ap (λ (n : ℕ). n + 1) alone))

-- ---- the first fields

-- the letter is the second field, and this many spaces stand before the rest
pub record IsFront (c n : ℕ) (bytes rest : List ℕ) : Type 0 where
  pub named : letter_in (after_first (λ b. b == 32) bytes) ≡ Some c
  pub spaces : spaces_in bytes ≡ spaces_in rest + n

letter-behind : (c : ℕ) (p rest : List ℕ) → NoSpace p → length p ≡ 2 → 0 < c → (c == 32) ≡ false
    → slice_index (p ++ 32 ∷ rest) 3 ≡ c → slice_index (p ++ 32 ∷ rest) 4 ≡ 32
    → IsFront c 2 (p ++ 32 ∷ rest) (drop 2 rest)
letter-behind c [] rest none two some apart h3 h4 = absurd (omega arith)
letter-behind c (x ∷ []) rest none two some apart h3 h4 = absurd (omega arith)
letter-behind c (x ∷ y ∷ z ∷ zs) rest none two some apart h3 h4 = absurd (omega arith)
letter-behind c (x ∷ y ∷ []) [] none two some apart h3 h4 = absurd (omega arith)
letter-behind c (x ∷ y ∷ []) (a ∷ []) none two some apart h3 h4 = absurd (omega arith)
letter-behind c (x ∷ y ∷ []) (a ∷ b ∷ cs) none two some apart h3 h4 = record {
  named = rw (after_first-piece (x ∷ y ∷ []) (a ∷ b ∷ cs) none, h3, h4) refl;
  spaces = no-spaces (x ∷ y ∷ []) (32 ∷ a ∷ b ∷ cs) none ∙ one-space (a ∷ b ∷ cs) ∙ rw
      (cons-spaces a (b ∷ cs), cons-spaces b cs, h3, h4, apart) (omega arith);
}

pub letter-front : (c v : ℕ) (bytes rest : List ℕ) → 0 < c → (c == 32) ≡ false → slice_index bytes 3 ≡ c
    → slice_index bytes 4 ≡ 32 → field_at 2 bytes ≡ Ok (v, rest) → IsFront c 2 bytes (drop 2 rest)
letter-front c v bytes rest some apart h3 h4 e =
    let t = field-begins 2 v bytes rest e in
    subst (λ (b : List ℕ). IsFront c 2 b (drop 2 rest)) (sym t.is)
    (letter-behind c t.piece rest t.none t.count some apart (ap (λ (b : List ℕ). slice_index b 3) (sym t.is) ∙ h3)
    (ap (λ (b : List ℕ). slice_index b 4) (sym t.is) ∙ h4))

pub more-front : (c n m : ℕ) (bytes rest left : List ℕ) → IsFront c n bytes rest → spaces_in rest ≡ spaces_in left + m
    → IsFront c (m + n) bytes left
more-front c n m bytes rest left front e = record { named = front.named; spaces = omega (arith, front.spaces, e) }

head-front : (c : ℕ) (bytes rest : List ℕ) (head : Head) → 0 < c → (c == 32) ≡ false → slice_index bytes 3 ≡ c
    → slice_index bytes 4 ≡ 32 → head_at bytes ≡ Ok (head, rest) → IsFront c 6 bytes rest
unfolding head_at
head-front c bytes rest head some apart h3 h4 e =
    ok_step (field_at 2 bytes) _ (head, rest) _ e (λ link k1 e1.
    ok_step (field_at 1 (drop 2 link.1)) _ (head, rest) _ e1 (λ opcode k2 e2.
    ok_step (field_at 1 opcode.1) _ (head, rest) _ e2 (λ param k3 e3.
    ok_step (field_at 1 param.1) _ (head, rest) _ e3 (λ size k4 e4.
    ok_step (field_at 2 size.1) _ (head, rest) _ e4 (λ source k5 e5.
    let front = letter-front c link.0 bytes link.1 some apart h3 h4 k1 in
    let same : source.1 ≡ rest = ap (λ (x : Head × List ℕ). x.1) (ok_is e5) in
    let s2 = field-spaces 1 opcode.0 (drop 2 link.1) opcode.1 k2 in
    let s3 = field-spaces 1 param.0 opcode.1 param.1 k3 in
    let s4 = field-spaces 1 size.0 param.1 size.1 k4 in
    let s5 = field-spaces 2 source.0 size.1 source.1 k5 in
    let count : spaces_in (drop 2 link.1) ≡ spaces_in source.1 + 4 = omega (arith, s2, s3, s4, s5) in
    more-front c 2 4 bytes (drop 2 link.1) rest front (rw (← same) count))))))

-- ---- whole lines

-- the line has its letter and this many spaces
abbrev Has : ℕ → ℕ → List ℕ → Type 0
Has c n bytes = (letter_in (after_first (λ b. b == 32) bytes) ≡ Some c) × (spaces_in bytes ≡ n)

line_a-has : {w : ℕ} (bytes : List ℕ) (x : Link × Beat w) → slice_index bytes 3 ≡ 65 → slice_index bytes 4 ≡ 32
    → line_a_at bytes ≡ Ok x → Has 65 9 bytes
unfolding line_a_at
line_a-has {w} bytes x h3 h4 e =
    ok_step (head_at bytes) _ x _ e (λ head k1 e1.
    ok_step (field_at 8 head.1) _ x _ e1 (λ address k2 e2.
    ok_step (field_at (w / 4) address.1) _ x _ e2 (λ mask k3 e3.
    ok_step (tail_at w mask.1) _ x _ e3 (λ tail k4 e4.
    let front = head-front 65 bytes head.1 head.0 (omega arith) refl h3 h4 k1 in
    let s2 = field-spaces 8 address.0 head.1 address.1 k2 in
    let s3 = field-spaces (w / 4) mask.0 address.1 mask.1 k3 in
    let s4 = tail-spaces w mask.1 tail k4 in
    (front.named, omega (arith, front.spaces, s2, s3, s4))))))

line_b-has : {w : ℕ} (bytes : List ℕ) (x : Link × Beat w) → slice_index bytes 3 ≡ 66 → slice_index bytes 4 ≡ 32
    → line_b_at bytes ≡ Ok x → Has 66 9 bytes
unfolding line_b_at
line_b-has {w} bytes x h3 h4 e =
    ok_step (head_at bytes) _ x _ e (λ head k1 e1.
    ok_step (field_at 8 head.1) _ x _ e1 (λ address k2 e2.
    ok_step (field_at (w / 4) address.1) _ x _ e2 (λ mask k3 e3.
    ok_step (tail_at w mask.1) _ x _ e3 (λ tail k4 e4.
    let front = head-front 66 bytes head.1 head.0 (omega arith) refl h3 h4 k1 in
    let s2 = field-spaces 8 address.0 head.1 address.1 k2 in
    let s3 = field-spaces (w / 4) mask.0 address.1 mask.1 k3 in
    let s4 = tail-spaces w mask.1 tail k4 in
    (front.named, omega (arith, front.spaces, s2, s3, s4))))))

line_c-has : {w : ℕ} (bytes : List ℕ) (x : Link × Beat w) → slice_index bytes 3 ≡ 67 → slice_index bytes 4 ≡ 32
    → line_c_at bytes ≡ Ok x → Has 67 8 bytes
unfolding line_c_at
line_c-has {w} bytes x h3 h4 e =
    ok_step (head_at bytes) _ x _ e (λ head k1 e1.
    ok_step (field_at 8 head.1) _ x _ e1 (λ address k2 e2.
    ok_step (tail_at w address.1) _ x _ e2 (λ tail k3 e3.
    let front = head-front 67 bytes head.1 head.0 (omega arith) refl h3 h4 k1 in
    let s2 = field-spaces 8 address.0 head.1 address.1 k2 in
    let s3 = tail-spaces w address.1 tail k3 in
    (front.named, omega (arith, front.spaces, s2, s3)))))

line_d-has : {w : ℕ} (bytes : List ℕ) (x : Link × Beat w) → slice_index bytes 3 ≡ 68 → slice_index bytes 4 ≡ 32
    → line_d_at bytes ≡ Ok x → Has 68 9 bytes
unfolding line_d_at
line_d-has {w} bytes x h3 h4 e =
    ok_step (head_at bytes) _ x _ e (λ head k1 e1.
    ok_step (field_at 2 head.1) _ x _ e1 (λ sink k2 e2.
    ok_step (bit_field_at sink.1) _ x _ e2 (λ denied k3 e3.
    ok_step (tail_at w denied.1) _ x _ e3 (λ tail k4 e4.
    let front = head-front 68 bytes head.1 head.0 (omega arith) refl h3 h4 k1 in
    let s2 = field-spaces 2 sink.0 head.1 sink.1 k2 in
    let s3 = bit_field-spaces denied.0 sink.1 denied.1 k3 in
    let s4 = tail-spaces w denied.1 tail k4 in
    (front.named, omega (arith, front.spaces, s2, s3, s4))))))

pub end-nothing : (n : ℕ) (x : ℕ × List ℕ) → at_end x ≡ Ok n → x.1 ≡ []
end-nothing n (m, []) e = refl
end-nothing n (m, c ∷ cs) e = absurd cc

line_e-has : {w : ℕ} (bytes : List ℕ) (x : Link × Beat w) → slice_index bytes 3 ≡ 69 → slice_index bytes 4 ≡ 32
    → line_e_at bytes ≡ Ok x → Has 69 2 bytes
unfolding line_e_at
line_e-has {w} bytes x h3 h4 e =
    ok_step (field_at 2 bytes) _ x _ e (λ link k1 e1.
    ok_step (digits_at 0 2 (drop 2 link.1)) _ x _ e1 (λ sink k2 e2.
    ok_step (at_end sink) _ x _ e2 (λ last k3 e3.
    let front = letter-front 69 link.0 bytes link.1 (omega arith) refl h3 h4 k1 in
    let t = digits-begin 2 0 sink.0 (drop 2 link.1) sink.1 k2 in
    let none : spaces_in (drop 2 link.1) ≡ 0 = ap spaces_in t.is ∙ no-spaces t.piece sink.1 t.none ∙ ap spaces_in
    (end-nothing last sink k3) in
    (front.named, omega (arith, front.spaces, none)))))

-- what was read of a line that has them is what the line is read as
read-so : {w : ℕ} (bytes : List ℕ) (r line : Result (Link × Beat w) LineFault) → r ≡ line
    → ((x : Link × Beat w) → line ≡ Ok x → body_at bytes ≡ line) → IfOk r (λ read. body_at bytes ≡ Ok read)
read-so bytes (Ok x) line same body = body x (sym same) ∙ sym same
read-so bytes (Err fault) line same body = tt

pub body-a : {w : ℕ} (bytes : List ℕ) (r : Result (Link × Beat w) LineFault)
    → slice_index bytes 3 ≡ 65 → slice_index bytes 4 ≡ 32
    → r ≡ line_a_at bytes → IfOk r (λ read. body_at bytes ≡ Ok read)
body-a bytes r h3 h4 same = read-so bytes r _ same (λ x e. let has = line_a-has bytes x h3 h4 e in
    rw (has.1, has.0) refl)

pub body-b : {w : ℕ} (bytes : List ℕ) (r : Result (Link × Beat w) LineFault)
    → slice_index bytes 3 ≡ 66 → slice_index bytes 4 ≡ 32
    → r ≡ line_b_at bytes → IfOk r (λ read. body_at bytes ≡ Ok read)
body-b bytes r h3 h4 same = read-so bytes r _ same (λ x e. let has = line_b-has bytes x h3 h4 e in
    rw (has.1, has.0) refl)

pub body-c : {w : ℕ} (bytes : List ℕ) (r : Result (Link × Beat w) LineFault)
    → slice_index bytes 3 ≡ 67 → slice_index bytes 4 ≡ 32
    → r ≡ line_c_at bytes → IfOk r (λ read. body_at bytes ≡ Ok read)
body-c bytes r h3 h4 same = read-so bytes r _ same (λ x e. let has = line_c-has bytes x h3 h4 e in
    rw (has.1, has.0) refl)

pub body-d : {w : ℕ} (bytes : List ℕ) (r : Result (Link × Beat w) LineFault)
    → slice_index bytes 3 ≡ 68 → slice_index bytes 4 ≡ 32
    → r ≡ line_d_at bytes → IfOk r (λ read. body_at bytes ≡ Ok read)
body-d bytes r h3 h4 same = read-so bytes r _ same (λ x e. let has = line_d-has bytes x h3 h4 e in
    rw (has.1, has.0) refl)

pub body-e : {w : ℕ} (bytes : List ℕ) (r : Result (Link × Beat w) LineFault)
    → slice_index bytes 3 ≡ 69 → slice_index bytes 4 ≡ 32
    → r ≡ line_e_at bytes → IfOk r (λ read. body_at bytes ≡ Ok read)
body-e bytes r h3 h4 same = read-so bytes r _ same (λ x e. let has = line_e-has bytes x h3 h4 e in
    rw (has.1, has.0) refl)
