-- Fields at their places are read from left to right.
use Rattle.std.proofs.Common.{◌≡◌, ℕ, ◌<◌, Bool, true, false, cond, eqb, List, [], ◌∷◌, ◌++◌}
use Rattle.std.proofs.Common.{length, refl, sym, ap, ap₂, ◌∙◌, arith}
use Rattle.std.proofs.lemmas.Bool.{eqb-true}
use Rattle.std.proofs.lemmas.Bool.Decides.{nat_tests}
use Rattle.std.specs.Prelude.{Ok, Err, Some, None, Result, slice_index, ◌==◌, ◌||◌}
use Rattle.tl_beat.specs.declared.beat.Link.{Link}
use Rattle.tl_beat.specs.declared.beat.Beat.{Beat}
use Rattle.tl_beat.specs.declared.fault.LineFault.{LineFault}
use Rattle.tl_beat.specs.declared.fault.LineFault.TheVariants.{F3}
use Rattle.tl_beat.specs.statement.Digits.{is_digit}
use Rattle.tl_beat.specs.code.Form.{may_stand, Follow, paired, lane_value, head_in}
use Rattle.tl_beat.specs.code.FromLeft.{value_or_16, digits_at, field_at, bit_of_byte, bit_field_at, lanes_at, head_at}
use Rattle.tl_beat.specs.code.FromLeft.{tail_at}
use Rattle.tl_beat.proofs.AtPlaces.{IsDigit, field_of_one, field_of_two}
use Rattle.tl_beat.proofs.VectorDigits.{pair_value, lane_digit}

-- what may stand at a place of a line that follows a form
pub at : (form line : List ℕ) (n i : ℕ) → length form ≡ n → Follow form line → i < n
    → may_stand (slice_index form i) (slice_index line i) ≡ true
at form line n i long f lt = f i (omega arith)

value_small : (c : ℕ) → is_digit c ≡ true → value_or_16 c < 16
value_small c is = grind (arith, nat_tests)

digit : (c : ℕ) → is_digit c ≡ true → IsDigit c (value_or_16 c)
digit c is = record { is = is; value = rw is refl }

pub two : (a b : ℕ) (cs : List ℕ) → is_digit a ≡ true → is_digit b ≡ true
    → field_at 2 (a ∷ b ∷ 32 ∷ cs) ≡ Ok (paired (value_or_16 a) (value_or_16 b), cs)
two a b cs is_a is_b =
    field_of_two a b (value_or_16 a) (value_or_16 b) cs (digit a is_a) (digit b is_b)
    ∙ ap (λ (n : ℕ). Ok (n, cs)) (pair_value (value_or_16 a) (value_or_16 b) (value_small a is_a) (value_small b is_b))

-- the same by the lanes of a vector
lane_or : (c : ℕ) → is_digit c ≡ true → lane_value c ≡ value_or_16 c
lane_or c is = lane_digit c is ∙ (digit c is).value

pub two_lanes : (a b : ℕ) (cs : List ℕ) → is_digit a ≡ true → is_digit b ≡ true
    → field_at 2 (a ∷ b ∷ 32 ∷ cs) ≡ Ok (paired (lane_value a) (lane_value b), cs)
two_lanes a b cs is_a is_b =
    two a b cs is_a is_b
    ∙ ap₂ (λ (x y : ℕ). Ok (paired x y, cs)) (sym (lane_or a is_a)) (sym (lane_or b is_b))

alone : (v : ℕ) → v < 16 → v ≡ paired 0 v
alone v lt = omega arith

one_lane : (a : ℕ) (cs : List ℕ) → is_digit a ≡ true → field_at 1 (a ∷ 32 ∷ cs) ≡ Ok (paired 0 (lane_value a), cs)
one_lane a cs is =
    field_of_one a (value_or_16 a) cs (digit a is)
    ∙ ap (λ (n : ℕ). Ok (n, cs)) (alone (value_or_16 a) (value_small a is) ∙ ap (paired 0) (sym (lane_or a is)))

bit : (c : ℕ) → ((c == 48) || (c == 49)) ≡ true → bit_of_byte c ≡ Ok (c == 49)
bit c e = go (eqb c 48) refl (eqb c 49) refl e
  where
    go : (a : Bool) → eqb c 48 ≡ a → (b : Bool) → eqb c 49 ≡ b → (a || b) ≡ true
        → cond a (Ok false) (cond b (Ok true) (Err F3)) ≡ Ok b
    go true p true q f = absurd (let s : c ≡ 48 = eqb-true c 48 p in let t : c ≡ 49 = eqb-true c 49 q in omega arith)
    go true p false q f = refl
    go false p true q f = refl
    go false p false q f = absurd cc

-- the first fields, where these places have digits and these spaces
pub head : (l1 l0 c s o p z t1 t0 : ℕ) (rest : List ℕ)
    → is_digit l1 ≡ true → is_digit l0 ≡ true → is_digit o ≡ true → is_digit p ≡ true → is_digit z ≡ true
    → is_digit t1 ≡ true → is_digit t0 ≡ true
    → head_at (l1 ∷ l0 ∷ 32 ∷ c ∷ s ∷ o ∷ 32 ∷ p ∷ 32 ∷ z ∷ 32 ∷ t1 ∷ t0 ∷ 32 ∷ rest) ≡ Ok (
      head_in
          (l1 ∷ l0 ∷ 32 ∷ c ∷ s ∷ o ∷ 32 ∷ p ∷ 32 ∷ z ∷ 32 ∷ t1 ∷ t0 ∷ 32 ∷ rest),
      rest,
    )
unfolding head_at
head l1 l0 c s o p z t1 t0 rest d1 d2 d3 d4 d5 d6 d7 =
    rw (
      two_lanes l1 l0 (c ∷ s ∷ o ∷ 32 ∷ p ∷ 32 ∷ z ∷ 32 ∷ t1 ∷ t0 ∷ 32 ∷ rest) d1 d2,
      one_lane o (p ∷ 32 ∷ z ∷ 32 ∷ t1 ∷ t0 ∷ 32 ∷ rest) d3,
      one_lane p (z ∷ 32 ∷ t1 ∷ t0 ∷ 32 ∷ rest) d4,
      one_lane z (t1 ∷ t0 ∷ 32 ∷ rest) d5,
      two_lanes t1 t0 rest d6 d7,
    ) refl

-- a dash, a space and a bit at the end
pub none_ends : (w x : ℕ) → ((x == 48) || (x == 49)) ≡ true → tail_at w (45 ∷ 32 ∷ x ∷ []) ≡ Ok (None, x == 49)
unfolding tail_at
none_ends w x e = rw (bit x e) refl

-- the digits of lanes, a space and a bit at the end
pub data_ends : (w : ℕ) (digits lanes : List ℕ) (x : ℕ) → length digits ≡ 16 → lanes_at [] w digits ≡ Ok lanes
    → ((x == 48) || (x == 49)) ≡ true → tail_at w (digits ++ 32 ∷ x ∷ []) ≡ Ok (Some lanes, x == 49)
unfolding tail_at
data_ends w (x0 ∷ x1 ∷ x2 ∷ x3 ∷ x4 ∷ x5 ∷ x6 ∷ x7 ∷ x8 ∷ x9 ∷ x10 ∷ x11 ∷ x12 ∷ x13 ∷ x14 ∷ x15 ∷ []) lanes x long read
    e =
    rw (read, bit x e) refl
data_ends w digits lanes x long read e = absurd (omega arith)

pub eight : (digits rest : List ℕ) (number : ℕ) → digits_at 0 8 (digits ++ 32 ∷ rest) ≡ Ok (number, 32 ∷ rest)
    → field_at 8 (digits ++ 32 ∷ rest) ≡ Ok (number, rest)
eight digits rest number read = rw read refl

pub bit_field : (c : ℕ) (rest : List ℕ) → ((c == 48) || (c == 49)) ≡ true → bit_field_at (c ∷ 32 ∷ rest) ≡ Ok (
  c == 49,
  rest,
)
bit_field c rest e = rw (bit c e) refl

-- the line of a channel has its letter at its place, and is read so
pub record IsRead {w : ℕ} (body : List ℕ) (letter : ℕ) (line read : Result (Link × Beat w) LineFault) : Type 0 where
  pub named : slice_index body 3 ≡ letter
  pub spaced : slice_index body 4 ≡ 32
  pub same : read ≡ line
