-- The masks of the beats of a message that has at least a beat's bytes.
use Rattle.tl_manager.proofs.Imports.{IsWidth, OpA}
use Rattle.std.proofs.Common.{◌≡◌, ℕ, ◌-◌, ◌*◌, ◌/◌, ◌%◌, ◌^◌, ◌<◌, ◌≤◌, true, nat_eq, bit_and, refl, sym, ◌∙◌, ap}
use Rattle.std.proofs.Common.{arith, inl, inr}
use Rattle.std.{proofs.lemmas.Bool.eqb-true, specs.Bool.OnTrue}
use Rattle.tl_burst.specs.statement.Burst.{bit}
use Rattle.tl_rules.specs.statement.Legality.{a_has_mask, is_full_mask, is_lane}
use Rattle.tl_rules.{proofs.Lanes.all_lanes, proofs.Masks.part_of_mask, proofs.Masks.same_mask, proofs.Takeable.if_true}
use Rattle.tl_rules.{proofs.Widths.width-bounds}

-- the word whose bits are the lanes of a beat
abbrev lanes_of : ℕ → ℕ
lanes_of w = 65535 / 2 ^ (16 - w)

lanes_small : (w : ℕ) → IsWidth w → (lanes_of w < 2 ^ 16) × (lanes_of w < 2 ^ w)
    × (lanes_of w * 2 ^ 0 % 65536 ≡ lanes_of w)
lanes_small w is = elim is [
  | inl e ↦ rw e (omega arith, omega arith, refl)
  | inr more ↦ elim more
      [ inl e ↦ rw e (omega arith, omega arith, refl) | inr e ↦ rw e (omega arith, omega arith, refl) ]
]

-- each lane carries a byte
lanes-carry : (w size : ℕ) → IsWidth w → size ≤ 6 → w ≤ 1 * 2 ^ size % 2 ^ 64 → (address i : ℕ) → i < 16
    → bit (lanes_of w) i ≡ is_lane w size address i
lanes-carry w size width small wide address i lt =
    ap (λ n. bit n i) (sym (lanes_small w width).2)
    ∙ all_lanes w size address i (0, w) refl (width-bounds w width).1 small wide lt

pub part-of_lanes : (w size mask : ℕ) → IsWidth w → size ≤ 6 → w ≤ 1 * 2 ^ size % 2 ^ 64 → mask < 2 ^ 16
    → OnTrue (nat_eq (bit_and mask (65535 - lanes_of w)) 0)
    ((address : ℕ) → a_has_mask w OpA.PutPartialData size address mask ≡ true)
part-of_lanes w size mask width small wide fits =
    let fit : nat_eq (bit_and mask (65535 - lanes_of w)) 0 ≡ true
    → (address : ℕ) → a_has_mask w OpA.PutPartialData size address mask ≡ true = λ e address.
    sym (part_of_mask mask (lanes_of w) (is_lane w size address) fits (lanes_small w width).0
    (lanes-carry w size width small wide address)) ∙ e in
    if_true _ _ refl fit

full_for : (w : ℕ) (opcode : OpA) (size address mask : ℕ) → (opcode ≡ OpA.PutPartialData → ⊥)
    → is_full_mask w size address mask ≡ true → a_has_mask w opcode size address mask ≡ true
full_for w OpA.PutPartialData size address mask other full = absurd (other refl)
full_for w v size address mask other full = full

pub all-lanes : (w : ℕ) (opcode : OpA) (size mask : ℕ) → IsWidth w → size ≤ 6 → w ≤ 1 * 2 ^ size % 2 ^ 64
    → mask < 2 ^ 16 → (opcode ≡ OpA.PutPartialData → ⊥)
    → OnTrue (nat_eq mask (lanes_of w)) ((address : ℕ) → a_has_mask w opcode size address mask ≡ true)
all-lanes w opcode size mask width small wide fits other =
    let fit : nat_eq mask (lanes_of w) ≡ true → (address : ℕ) → a_has_mask w opcode size address mask ≡ true =
    λ e address. full_for w opcode size address mask other (sym (same_mask mask (lanes_of w) (is_lane w size address)
    fits (lanes_small w width).0 (lanes-carry w size width small wide address)) ∙ e) in
    if_true _ _ refl fit

pub all-narrow : (w mask : ℕ) → IsWidth w → OnTrue (nat_eq mask (lanes_of w)) (mask < 2 ^ w)
all-narrow w mask width =
    let narrow : nat_eq mask (lanes_of w) ≡ true → mask < 2 ^ w = λ e.
    rw (eqb-true mask (lanes_of w) e) (lanes_small w width).1 in
    if_true _ _ refl narrow
