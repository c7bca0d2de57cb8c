-- The bytes that one more beat brings.
use Rattle.std.proofs.Common.{◌≡◌, ℕ, Bool, true, false, ◌&&◌, ◌+◌, ◌-◌, ◌*◌, ◌/◌, ◌%◌, ◌<◌, ◌≤◌, List, ◌∷◌, [], length}
use Rattle.std.proofs.Common.{refl, sym, ap, ◌∙◌, arith, inl, inr}
use Rattle.std.specs.Prelude.{if◌then◌else◌, ◌==◌, Option, None, nat_le, nat_lt, slice_get}
use Rattle.std.proofs.Math.Nat.{div-lt_iff_lt-mul, le-div_iff_mul-le, mod-lt}
use Rattle.std.proofs.lemmas.Bool.{cases_eq, cases_lt, eq-eqb, le-leb, lt-leb, lt-ltb, le-ltb, ne_eqb}
use Rattle.std.{proofs.lemmas.Nat.div-add-mod', proofs.lemmas.Option.slice_get_past}
use Rattle.tl_beat.{specs.declared.beat.Beat.Beat, specs.statement.Width.IsWidth}
use Rattle.tl_rules.specs.statement.Admission.{is_spoiled, lanes_of}
use Rattle.tl_bytes.{specs.code.Carried.with_lanes, specs.declared.carried.CarriedBytes.CarriedBytes}
use Rattle.tl_bytes.{specs.statement.Bytes.carried_byte, specs.statement.Known.HasBytes}
use Rattle.tl_bytes.{specs.declared.known_bytes.KnownBytes.KnownBytes, specs.statement.KnownBytes.known_at}
use Rattle.tl_bytes.{specs.statement.Known.KnowsCarried}

-- ---- the places of a beat's lanes

pub quotient : (w p n : ℕ) → 0 < w → w * n ≤ p → p < w * n + w → p / w ≡ n
quotient w p n pos le lt =
    let least : n ≤ p / w = (le-div_iff_mul-le pos).1 (omega (arith, le)) in
    let most : p / w < n + 1 = (div-lt_iff_lt-mul pos).1 (omega (arith, lt)) in
    omega (arith, least, most)

pub in_beat : (w p n : ℕ) → p / w ≡ n → (w * n ≤ p) × (p - w * n ≡ p % w)
in_beat w p n e =
    let whole = div-add-mod' p w in
    let turned : p / w * w ≡ w * n = rw e (omega arith) in
    (omega (arith, whole, turned), omega (arith, whole, turned))

-- the place is one of the lanes of beat n, of which there are so many
abbrev pub is_lane : ℕ → ℕ → ℕ → ℕ → Bool
is_lane w n many p = (p / w == n) && nat_lt (p % w) many

pub lane-on : (w n many lane p : ℕ) → 0 < w → p ≡ w * n + lane → lane < w → lane < many
    → (is_lane w n many p ≡ true) × (p % w ≡ lane)
lane-on w n many lane p pos at in_width in_lanes =
    let here = quotient w p n pos (omega (arith, at)) (omega (arith, at, in_width)) in
    let rest : p % w ≡ lane = omega (arith, at, (in_beat w p n here).1) in
    (rw (eq-eqb (p / w) n here, rest, lt-ltb lane many in_lanes) refl, rest)

pub lane-off : (w n many p : ℕ) → 0 < w → (w * n ≤ p → p < w * n + w → ⊥) → is_lane w n many p ≡ false
lane-off w n many p pos outside = elim (cases_eq (p / w) n) [
  | inl here ↦
      let within = in_beat w p n here in
      absurd (outside within.0 (omega (arith, within.0, within.1, mod-lt p pos)))
  | inr ne ↦ rw (ne_eqb (p / w) n ne) refl
]

-- the places of its lanes are those from its first on
pub lanes-put : (w n p : ℕ) (lanes : List ℕ) (before : Option ℕ) → 0 < w → length lanes ≡ w
    → (if nat_le (w * n) p && nat_lt p (w * n + w) then slice_get lanes (p - w * n) else before)
    ≡ (if is_lane w n (length lanes) p then slice_get lanes (p % w) else before)
lanes-put w n p lanes before pos many = elim (cases_lt p (w * n)) [
  | inl below ↦ rw (
    lt-leb (w * n) p below,
    lane-off w n (length lanes) p pos (λ from to. omega (arith, below, from)),
  ) refl
  | inr from ↦ elim (cases_lt p (w * n + w)) [
    | inl inside ↦
        let in_width : p - w * n < w = omega (arith, from, inside) in
        let on = lane-on w n (length lanes) (p - w * n) p pos (omega (arith, from)) in_width
        (omega (arith, in_width, many)) in
        rw (le-leb (w * n) p from, lt-ltb p (w * n + w) inside, on.0, on.1) refl
    | inr past ↦ rw (
      le-leb (w * n) p from,
      le-ltb p (w * n + w) past,
      lane-off w n (length lanes) p pos (λ _ to. omega (arith, past, to)),
    ) refl
  ]
]

-- a block that has room for one byte of a beat has room for all
pub whole_beat : (w n p : ℕ) → IsWidth w → p < 64 → w * n ≤ p → w * n + w ≤ 64
whole_beat w n p (inl e) lt le = omega (arith, e, ap (λ k. k * n) e, lt, le)
whole_beat w n p (inr (inl e)) lt le = omega (arith, e, ap (λ k. k * n) e, lt, le)
whole_beat w n p (inr (inr e)) lt le = omega (arith, e, ap (λ k. k * n) e, lt, le)

pub width_positive : (w : ℕ) → IsWidth w → 0 < w
width_positive w (inl e) = omega (arith, e)
width_positive w (inr (inl e)) = omega (arith, e)
width_positive w (inr (inr e)) = omega (arith, e)

-- ---- what the beats of a message have brought

-- of a beat that is to come nothing
to-come : {w : ℕ} (burst : List (Beat w)) (p : ℕ) → length burst ≤ p / w → carried_byte burst p ≡ None
unfolding carried_byte
to-come [] p le = refl
to-come {w} (x ∷ burst) p le =
    rw (ne_eqb (p / w) (length burst) (λ same. omega (arith, le, same))) (to-come burst p (omega (arith, le)))

-- with a beat that brings none they are the same
pub none-brought : {w : ℕ} (carried : CarriedBytes) (x : Beat w) (burst : List (Beat w)) → KnowsCarried carried burst
    → (if is_spoiled x then [] else lanes_of x) ≡ [] → HasBytes carried.bytes (x ∷ burst)
unfolding carried_byte
none-brought {w} carried x burst k none p lt = elim (cases_eq (p / w) (length burst)) [
  | inr ne ↦ rw (ne_eqb (p / w) (length burst) ne) (k.bytes_are p lt)
  | inl here ↦ k.bytes_are p lt ∙ to-come burst p (omega (arith, here)) ∙ sym
      (rw (eq-eqb (p / w) (length burst) here) (nothing (is_spoiled x) (lanes_of x) (p % w) none))
]
  where
    nothing : (b : Bool) (lanes : List ℕ) (i : ℕ) → (if b then [] else lanes) ≡ []
        → (if b then None else slice_get lanes i) ≡ None
    nothing false (v ∷ lanes) i e = absurd cc
    nothing v u i e = refl

-- with one that isn't corrupt its lanes are put at their places
pub lanes-brought : {w : ℕ} (old : CarriedBytes) (new : KnownBytes) (x : Beat w) (burst : List (Beat w))
    (lanes : List ℕ) → KnowsCarried old burst → is_spoiled x ≡ false → lanes ≡ lanes_of x
    → ((p : ℕ) → p < 64 → known_at new p ≡ with_lanes w old.beats lanes old.bytes p)
    → HasBytes new (x ∷ burst)
unfolding carried_byte
lanes-brought {w} old new x burst lanes k sound same put p lt =
    put p lt ∙ rw (k.beats_are, same, sound) (elim (cases_eq (p / w) (length burst)) [
      | inr ne ↦ rw (ne_eqb (p / w) (length burst) ne) (k.bytes_are p lt)
      | inl here ↦ rw (eq-eqb (p / w) (length burst) here)
          (past (lanes_of x) (p % w) _ (k.bytes_are p lt ∙ to-come burst p (omega (arith, here))))
    ])
  where
    past : (lanes : List ℕ) (i : ℕ) (before : Option ℕ) → before ≡ None
        → (if nat_lt i (length lanes) then slice_get lanes i else before) ≡ slice_get lanes i
    past lanes i before none = elim (cases_lt i (length lanes)) [
      | inl less ↦ rw (lt-ltb i (length lanes) less) refl
      | inr more ↦ rw (le-ltb i (length lanes) more) (none ∙ sym (slice_get_past lanes i more))
    ]
