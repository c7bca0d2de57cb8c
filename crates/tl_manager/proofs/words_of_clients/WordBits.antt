-- Bits of words of 16 bits.
use Rattle.std.proofs.Common.{◌≡◌, ◌≢◌, ℕ, zero, suc, ◌-◌, ◌*◌, ◌%◌, ◌^◌, ◌<◌, Bool, true, false, not, ◌&&◌, cond, refl}
use Rattle.std.proofs.Common.{sym, ap, ◌∙◌, arith, inl, inr}
use Rattle.std.specs.Prelude.{bit_and, bit_or, min, max, ◌==◌}
use Rattle.std.specs.Int.{w16, bit_at}
use Rattle.std.proofs.lemmas.Bool.{cases_lt, cases_eq, eq-eqb, ne_eqb}
use Rattle.std.proofs.lemmas.Nat.Bits.{bit_at_clear_other, bit_at_above, bit_at_and, bit_at_or, bit_at-zero, bit_at-lt}
use Rattle.std.proofs.lemmas.Nat.Bits.{same_from_bits}
use Rattle.tl_params.specs.declared.perm.Perm.{Perm}
use Rattle.tl_params.specs.declared.perm.Perm.TheVariants.{None, Branch, Trunk}
use Rattle.tl_manager.{specs.code.Bit.bit_if, specs.code.Bits.perm_in}
use Rattle.tl_manager.specs.code.Word.{trunk_bit, branch_bit, copy_bit}

and_below : (n m i : ℕ) → bit_at n i ≡ 0 → bit_at (bit_and n m) i ≡ bit_at n i
and_below n m i none =
    let least : min (bit_at n i) (bit_at m i) ≡ bit_at n i = omega (arith, none) in
    bit_at_and n m i ∙ least

-- the bits that clearing one bit leaves
pub clear_other : (n k i : ℕ) → n < 2 ^ 16 → k < 16 → i ≢ k → bit_at (bit_and n (65535 - 1 * 2 ^ k % 65536)) i ≡ bit_at
    n i
clear_other n k i small within other = elim (cases_lt i 16) [
  | inl lt ↦ bit_at_clear_other w16 n k within i lt other
  | inr past ↦ and_below n (65535 - 1 * 2 ^ k % 65536) i (bit_at_above n 16 i small past)
]

-- words with no bit in common have at most one of a place's bits
pub one_of : (owners sharers i : ℕ) → bit_and owners sharers ≡ 0 → min (bit_at owners i) (bit_at sharers i) ≡ 0
one_of owners sharers i apart = sym (bit_at_and owners sharers i) ∙ rw apart (bit_at-zero i)

pub apart_from : (owners sharers : ℕ) → ((i : ℕ) → min (bit_at owners i) (bit_at sharers i) ≡ 0)
    → bit_and owners sharers ≡ 0
apart_from owners sharers none =
    same_from_bits (bit_and owners sharers) 0 (λ i. bit_at_and owners sharers i ∙ none i ∙ sym (bit_at-zero i))

bits-of : (o s : ℕ) → o < 2 → s < 2 → min o s ≡ 0 → (o ≡ trunk_bit (cond (o == 1) Trunk (cond (s == 1) Branch None)))
    × (max o s ≡ copy_bit (cond (o == 1) Trunk (cond (s == 1) Branch None)))
bits-of zero zero a b e = (refl, refl)
bits-of zero (suc zero) a b e = (refl, refl)
bits-of (suc zero) zero a b e = (refl, refl)
bits-of (suc zero) (suc zero) a b e = absurd (omega (arith, e))
bits-of v u a b e = absurd (omega arith)

pub holders-bit : (owners sharers i : ℕ) → bit_and owners sharers ≡ 0
    → bit_at (bit_or owners sharers) i ≡ copy_bit (perm_in owners sharers i)
holders-bit owners sharers i apart =
    bit_at_or owners sharers i ∙ (bits-of (bit_at owners i) (bit_at sharers i) (bit_at-lt owners i)
    (bit_at-lt sharers i) (one_of owners sharers i apart)).1

pub min-bits : (p : Perm) → min (trunk_bit p) (branch_bit p) ≡ 0
min-bits None = refl
min-bits v = refl

-- words stay apart when a client's permission is recorded
pub apart_with : (owners sharers owners' sharers' client : ℕ) (p : Perm) → bit_and owners sharers ≡ 0
    → bit_at owners' client ≡ trunk_bit p → bit_at sharers' client ≡ branch_bit p
    → ((i : ℕ) → i ≢ client → bit_at owners' i ≡ bit_at owners i)
    → ((i : ℕ) → i ≢ client → bit_at sharers' i ≡ bit_at sharers i) → bit_and owners' sharers' ≡ 0
apart_with owners sharers owners' sharers' client p apart o s os ss =
    apart_from owners' sharers' (λ i. elim (cases_eq i client) [
      | inl same ↦ rw (same, o, s) (min-bits p)
      | inr other ↦ rw (os i other, ss i other) (one_of owners sharers i apart)
    ])

pub no_bits : (i : ℕ) → perm_in 0 0 i ≡ None
no_bits i = rw (bit_at-zero i) refl

-- ---- bits as tests

bit_of-small : (b : ℕ) → b < 2 → b ≡ bit_if (b == 1)
bit_of-small b lt = elim (cases_eq b 0) [
  | inl none ↦ rw none refl
  | inr some ↦ let one : b ≡ 1 = omega arith in rw one refl
]

pub bit-is : (n i : ℕ) → bit_at n i ≡ bit_if (bit_at n i == 1)
bit-is n i = bit_of-small (bit_at n i) (bit_at-lt n i)

-- where one bit is cleared and the others are as they were, the word is that without the bit
pub without-bit : (word result client : ℕ) → bit_at result client ≡ 0
    → ((k : ℕ) → k ≢ client → bit_at result k ≡ bit_at word k)
    → (i : ℕ) → bit_at result i ≡ bit_if (bit_at word i == 1 && not (client == i))
without-bit word result client cleared others i = elim (cases_eq i client) [
  | inl same ↦ rw (same, eq-eqb client client refl) (cleared ∙ never (bit_at word client == 1))
  | inr other ↦
      let away : (client == i) ≡ false = ne_eqb client i (λ e. other (sym e)) in
      rw away (others i other ∙ bit-is word i ∙ ap bit_if (sym (always (bit_at word i == 1))))
]
  where
    never : (b : Bool) → 0 ≡ bit_if (b && false)
    never true = refl
    never false = refl

    always : (b : Bool) → (b && true) ≡ b
    always true = refl
    always false = refl
