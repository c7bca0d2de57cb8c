-- What an access writes in its block, by the mask of the places.
use Rattle.tl_memory.proofs.Imports.{Beat, BeatA, OpA, IsWidth, MessageA, bit, reaches, base_of, Access, asked_by, writes}
use Rattle.tl_memory.proofs.Imports.{AreWide}
use Rattle.std.proofs.Common.{◌≡◌, ℕ, Bool, true, false, ◌&&◌, ◌+◌, ◌-◌, ◌*◌, ◌/◌, ◌%◌, ◌^◌, ◌<◌, ◌≤◌, List, [], ◌∷◌, ◌⊎◌, length}
use Rattle.std.proofs.Common.{refl, sym, ap, ◌∙◌, arith, inl, inr}
use Rattle.std.specs.Prelude.{find, if◌then◌else◌, is_some, nat_le, nat_lt, None, Some, slice_index, ◌==◌}
use Rattle.std.proofs.lemmas.Bool.{cases_lt, le-leb, le-ltb, lt-leb, lt-ltb}
use Rattle.std.proofs.lemmas.Nat.{pow_pos, shl_whole}
use Rattle.std.proofs.lemmas.Nat.Bits.{bit_at-zero, bit_at_cat_high, bit_at_cat_low, bit_at_ones, bit_at_ones_above}
use Rattle.tl_burst.specs.declared.message.Message.{Message}
use Rattle.tl_rules.specs.statement.{Admission.is_spoiled, Effect.effect}
use Rattle.tl_bytes.specs.statement.Bytes.{access_writes, carried_byte, found_memory, is_put, pending_value, value_written}
use Rattle.tl_memory.specs.statement.Known.{is_atomic}
use Rattle.tl_memory.proofs.{values.Payloads.wide-bytes, values.Puts.put-leaves, values.Writing.put_pending}
use Rattle.tl_memory.proofs.values.Writing.{sound_value, spoiled_value}

-- ---- what an atomic reaches

no_bit : (p : ℕ) → bit 0 p ≡ false
no_bit p = ap (λ n. n == 1) (bit_at-zero p)

-- n ones behind a zeros
ones-bit : (a n p : ℕ) → a + n ≤ 64 → bit ((2 ^ n - 1) * 2 ^ a % 2 ^ 64) p ≡ (nat_le a p && nat_lt p (a + n))
ones-bit a n p room = ap (λ m. bit m p) (shl_whole (2 ^ n - 1) n a 64 few (omega (arith, room)) ∙ whole)
    ∙ elim (cases_lt p a) [
      | inl below ↦ ap (λ m. m == 1) (bit_at_cat_low (2 ^ n - 1) a 0 p below ∙ bit_at-zero p)
          ∙ rw (lt-leb a p below) refl
      | inr from ↦ ap (λ m. m == 1) (bit_at_cat_high (2 ^ n - 1) a 0 p (pow_pos a) from) ∙ rw (le-leb a p from) (one from)
    ]
  where
    few : 2 ^ n - 1 < 2 ^ n
    few = omega (arith, pow_pos n)

    whole : (2 ^ n - 1) * 2 ^ a ≡ (2 ^ n - 1) * 2 ^ a + 0
    whole = omega arith

    one : a ≤ p → bit (2 ^ n - 1) (p - a) ≡ nat_lt p (a + n)
    one from = elim (cases_lt p (a + n)) [
      | inl within ↦ ap (λ m. m == 1) (bit_at_ones n (p - a) (omega (arith, from, within)))
          ∙ sym (lt-ltb p (a + n) within)
      | inr past ↦ ap (λ m. m == 1) (bit_at_ones_above n (p - a) (omega (arith, from, past)))
          ∙ sym (le-ltb p (a + n) past)
    ]

reach-bit : (size address p : ℕ) → (size ≡ 2) ⊎ (size ≡ 3) → address % 64 + 2 ^ size ≤ 64
    → bit ((if size == 2 then 15 else 255) * 2 ^ (address % 64) % 2 ^ 64) p
    ≡ (nat_le (address % 64) p && nat_lt p (address % 64 + 2 ^ size))
reach-bit size address p (inl two) room = rw two (ones-bit (address % 64) 4 p (rw two at room))
reach-bit size address p (inr three) room = rw three (ones-bit (address % 64) 8 p (rw three at room))

pub in-place : (address n p : ℕ) → (nat_le (address % 64) p && nat_lt p (address % 64 + n))
    ≡ (nat_le address (64 * (address / 64) + p) && nat_lt (64 * (address / 64) + p) (address + n))
in-place address n p = elim (cases_lt p (address % 64)) [
  | inl below ↦ rw (
    lt-leb (address % 64) p below,
    lt-leb address (64 * (address / 64) + p) (omega (arith, below)),
  ) refl
  | inr from ↦ rw (
    le-leb (address % 64) p from,
    le-leb address (64 * (address / 64) + p) (omega (arith, from)),
  ) (elim (cases_lt p (address % 64 + n)) [
    | inl within ↦ rw (
      lt-ltb p (address % 64 + n) within,
      lt-ltb (64 * (address / 64) + p) (address + n) (omega (arith, within)),
    ) refl
    | inr past ↦ rw (
      le-ltb p (address % 64 + n) past,
      le-ltb (64 * (address / 64) + p) (address + n) (omega (arith, past)),
    ) refl
  ])
]

-- it writes the places of its mask's bits, and one that is neither it nor a Put none
pub reach-places : {w : ℕ} (op : OpA) (m : MessageA w) (mask p : ℕ) → is_put op ≡ false
    → (is_atomic op ≡ true → ((m.size ≡ 2) ⊎ (m.size ≡ 3)) × (m.address % 64 + 2 ^ m.size ≤ 64))
    → mask ≡ (if is_atomic op then (if m.size == 2 then 15 else 255) * 2 ^ (m.address % 64) % 2 ^ 64 else 0) → p < 64
    → (nat_le 0 p && (nat_lt (p - 0) 64 && bit mask (p - 0))) ≡ writes op m (64 * (m.address / 64) + p)
reach-places {w} op m mask p other lawful mask_is lt =
    rw (le-leb 0 p (omega arith), same, lt-ltb p 64 lt) (ap (λ n. bit n p) mask_is ∙ go op other lawful)
  where
    same : p - 0 ≡ p
    same = omega arith

    atomic : ((m.size ≡ 2) ⊎ (m.size ≡ 3)) × (m.address % 64 + 2 ^ m.size ≤ 64)
        → bit ((if m.size == 2 then 15 else 255) * 2 ^ (m.address % 64) % 2 ^ 64) p
        ≡ reaches m.address m.size (64 * (m.address / 64) + p)
    atomic fits = reach-bit m.size m.address p fits.0 fits.1 ∙ in-place m.address (2 ^ m.size) p

    go : (op : OpA) → is_put op ≡ false
        → (is_atomic op ≡ true → ((m.size ≡ 2) ⊎ (m.size ≡ 3)) × (m.address % 64 + 2 ^ m.size ≤ 64))
        → bit (if is_atomic op then (if m.size == 2 then 15 else 255) * 2 ^ (m.address % 64) % 2 ^ 64 else 0) p
        ≡ writes op m (64 * (m.address / 64) + p)
    go OpA.PutFullData other lawful = absurd cc
    go OpA.PutPartialData other lawful = absurd cc
    go OpA.ArithmeticData other lawful = atomic (lawful refl)
    go OpA.LogicalData other lawful = atomic (lawful refl)
    go v other lawful = no_bit p

-- ---- what a Put writes

-- at a place that it writes it has the byte that came, where no beat was corrupt
pub put-values : {w : ℕ} (link : ℕ) (x : BeatA w) (older : List (Beat w)) (moment base p : ℕ) → IsWidth w
    → is_put x.opcode ≡ true → AreWide (Beat.A x ∷ older) → base ≡ base_of w x.address
    → access_writes (64 * (x.address / 64) + p) (asked_by link x (Beat.A x ∷ older) moment) ≡ true → 0 < w
    → (if is_some (find is_spoiled (Beat.A x ∷ older)) then None else carried_byte (Beat.A x ∷ older) (p - base))
    ≡ pending_value x.opcode (asked_by link x (Beat.A x ∷ older) moment) (64 * (x.address / 64) + p)
put-values {w} link x older moment base p is put wide base_is written some =
    go (is_some (find is_spoiled burst)) refl ∙ put_pending x.opcode access (64 * (x.address / 64) + p) put
  where
    burst : List (Beat w)
    burst = Beat.A x ∷ older

    access : Access w
    access = asked_by link x burst moment

    leaves : (p - base < length access.request.payload)
        × ((effect (Message.A access.request) (found_memory access.request [])).0 (64 * (x.address / 64) + p)
        ≡ slice_index access.request.payload (p - base))
    leaves = put-leaves access base p (found_memory access.request []) is put base_is written

    go : (b : Bool) → is_some (find is_spoiled burst) ≡ b → (if b then None else carried_byte burst (p - base))
        ≡ value_written access [] (64 * (x.address / 64) + p)
    go true e = sym (spoiled_value _ _ (rw e refl))
    go false e = wide-bytes burst some wide e (p - base) leaves.0 ∙ ap Some (sym leaves.1)
        ∙ sym (sound_value _ _ (rw e refl))
