-- The bytes of a message, by their places and one after another.
use Rattle.tl_memory.proofs.Imports.{Beat, bit, AreWide}
use Rattle.std.proofs.Common.{◌≡◌, ℕ, suc, Bool, true, false, ◌+◌, ◌*◌, ◌/◌, ◌%◌, ◌^◌, ◌<◌, ◌≤◌, List, [], ◌∷◌, length}
use Rattle.std.proofs.Common.{refl, sym, ap, ◌∙◌, arith, inl, inr, length-append, get_or, set}
use Rattle.std.specs.Prelude.{if◌then◌else◌, ◌==◌, find, is_some, Option, Some, slice_index, unwrap_or}
use Rattle.std.proofs.Math.Nat.{div-eq_of_lt, mod-lt, pow-le-pow_right}
use Rattle.std.proofs.lemmas.Bool.{cases_eq, cases_lt, eq-eqb, ne_eqb}
use Rattle.std.{proofs.lemmas.List.get_or_append_left, proofs.lemmas.List.get_or-append_right}
use Rattle.std.{proofs.lemmas.Nat.div-add-mod', proofs.lemmas.Option.slice_get-get_or}
use Rattle.tl_rules.specs.statement.Admission.{bytes_carried, is_spoiled, lanes_of}
use Rattle.tl_bytes.{specs.statement.Bytes.carried_byte, proofs.Brought.in_beat, proofs.Brought.quotient}

pub wide-length : {w : ℕ} (burst : List (Beat w)) → AreWide burst → length (bytes_carried burst) ≡ w * length burst
unfolding bytes_carried
wide-length {w} [] wide = omega arith
wide-length {w} (x ∷ older) wide =
    let before = wide-length older wide.1 in
    let next : w * suc (length older) ≡ w * length older + w = omega arith in
    rw next (length-append (bytes_carried older) (lanes_of x) ∙ omega (arith, before, wide.0))

none_later : {X : Type 0} (here : Bool) (x : X) (o : Option X) → is_some (if here then Some x else o) ≡ false
    → (here ≡ false) × (is_some o ≡ false)
none_later true x o e = absurd cc
none_later false x o e = (refl, e)

at_place : (w p n : ℕ) → 0 < w → p < w * n + w → (p / w ≡ n → ⊥) → p < w * n
at_place w p n pos lt other =
    let whole = div-add-mod' p w in
    elim (cases_lt p (w * n)) [
      | inl less ↦ less
      | inr more ↦ absurd (other (quotient w p n pos more lt))
    ]

-- where no beat is spoiled, and each has all its lanes
pub wide-bytes : {w : ℕ} (burst : List (Beat w)) → 0 < w → AreWide burst → is_some (find is_spoiled burst) ≡ false
    → (p : ℕ) → p < length (bytes_carried burst) → carried_byte burst p ≡ Some (slice_index (bytes_carried burst) p)
unfolding bytes_carried carried_byte
wide-bytes [] pos wide sound p lt = absurd (omega arith)
wide-bytes {w} (x ∷ older) pos wide sound p lt =
    let each = none_later (is_spoiled x) x (find is_spoiled older) sound in
    let long = wide-length older wide.1 in
    elim (cases_eq (p / w) (length older)) [
      | inl here ↦
          let place = in_beat w p (length older) here in
          rw (eq-eqb (p / w) (length older) here, each.0)
          (slice_get-get_or (lanes_of x) (p % w) 0 (omega (arith, mod-lt p pos, wide.0))
          ∙ ap Some (ap (λ i. get_or (lanes_of x) i 0) (sym place.1)
          ∙ sym (get_or-append_right (bytes_carried older) (lanes_of x) (w * length older) p 0 long place.0)))
      | inr other ↦
          let total = length-append (bytes_carried older) (lanes_of x) in
          let less : p < w * length older =
          at_place w p (length older) pos (omega (arith, lt, total, long, wide.0)) other in
          rw (ne_eqb (p / w) (length older) other)
          (wide-bytes older pos wide.1 each.1 p (omega (arith, less, long))
          ∙ ap Some (sym (get_or_append_left (bytes_carried older) (lanes_of x) 0 p (omega (arith, less, long)))))
    ]

-- a bit that is set is below what bounds its number
pub bit_below : (m n p : ℕ) → m < 2 ^ n → bit m p ≡ true → p < n
bit_below m n p lt set = elim (cases_lt p n) [
  | inl less ↦ less
  | inr more ↦
      let far : 2 ^ n ≤ 2 ^ p = pow-le-pow_right {n = 2} (omega arith) {i = n} {j = p} more in
      let none : m / 2 ^ p ≡ 0 = div-eq_of_lt (omega (arith, lt, far)) in
      absurd (unset (m / 2 ^ p) none set)
]
  where
    unset : (k : ℕ) → k ≡ 0 → (k % 2 == 1) ≡ true → ⊥
    unset k e set = absurd (grind (arith, e, set))

pub known : (o : Option ℕ) (v : ℕ) → o ≡ Some v → unwrap_or o 0 ≡ v
known o v e = rw e refl
