-- The mask of a beat has no bit past the beat's lanes.
use Rattle.std.proofs.Common.{◌≡◌, ℕ, zero, suc, ◌+◌, ◌%◌, ◌^◌, ◌<◌, ◌≤◌, Bool, true, false, not, ◌&&◌, ◌||◌, leb, ltb}
use Rattle.std.proofs.Common.{refl, sym, ◌∙◌, arith, inl, inr}
use Rattle.std.specs.Bool.{OnTrue, beq}
use Rattle.std.specs.Int.{bit_at}
use Rattle.std.proofs.lemmas.Bool.{cases_lt, lt-leb, le-leb, ltb-true, eqb-true, and_parts}
use Rattle.std.proofs.lemmas.Nat.{pow_pos, mod_below}
use Rattle.std.proofs.lemmas.Nat.Bits.{bit_at-lt, bit_at_above, same_from_bits_below}
use Rattle.tl_beat.specs.statement.Width.{IsWidth}
use Rattle.tl_burst.specs.statement.Burst.{bit}
use Rattle.tl_rules.specs.statement.Legality.{each_below, is_aligned, is_lane, is_full_mask, is_part_mask}
use Rattle.tl_rules.proofs.Masks.{bit_at_mod}

-- an aligned message that is shorter than a beat lies within one
room_in_beat : (w size address : ℕ) → IsWidth w → 2 ^ size < w → size ≤ 6 → address % 2 ^ size ≡ 0
    → address % w + 2 ^ size ≤ w
room_in_beat w zero address is short le e =
    elim is [
      | inl w_is ↦ rw w_is (omega arith)
      | inr more ↦ elim more [
        | inl w_is ↦ rw w_is (omega arith)
        | inr w_is ↦ rw
            w_is (omega arith)
      ]
    ]
room_in_beat w (suc zero) address is short le e =
    elim is [
      | inl w_is ↦ rw w_is (omega arith)
      | inr more ↦ elim more [
        | inl w_is ↦ rw w_is (omega arith)
        | inr w_is ↦ rw
            w_is (omega arith)
      ]
    ]
room_in_beat w (suc (suc zero)) address is short le e =
    elim is [
      | inl w_is ↦ rw w_is (omega arith)
      | inr more ↦ elim more [
        | inl w_is ↦ rw w_is (omega arith)
        | inr w_is ↦ rw
            w_is (omega arith)
      ]
    ]
room_in_beat w (suc (suc (suc zero))) address is short le e =
    elim is [
      | inl w_is ↦ rw w_is (omega arith)
      | inr more ↦ elim more [
        | inl w_is ↦ rw w_is (omega arith)
        | inr w_is ↦ rw
            w_is (omega arith)
      ]
    ]
room_in_beat w (suc (suc (suc (suc zero)))) address is short le e =
    elim is [
      | inl w_is ↦ rw w_is (omega arith)
      | inr more ↦ elim more [
        | inl w_is ↦ rw w_is (omega arith)
        | inr w_is ↦ rw
            w_is (omega arith)
      ]
    ]
room_in_beat w (suc (suc (suc (suc (suc zero))))) address is short le e =
    elim is [
      | inl w_is ↦ rw w_is (omega arith)
      | inr more ↦ elim more [
        | inl w_is ↦ rw w_is (omega arith)
        | inr w_is ↦ rw
            w_is (omega arith)
      ]
    ]
room_in_beat w (suc (suc (suc (suc (suc (suc zero)))))) address is short le e =
    elim is [
      | inl w_is ↦ rw w_is (omega arith)
      | inr more ↦ elim more [
        | inl w_is ↦ rw w_is (omega arith)
        | inr w_is ↦ rw
            w_is (omega arith)
      ]
    ]
room_in_beat w (suc (suc (suc (suc (suc (suc (suc n))))))) address is short le e = absurd (omega arith)

lane_in_beat : (w size address lane : ℕ) → IsWidth w → size ≤ 6 → is_aligned address size ≡ true
    → is_lane w size address lane ≡ true → lane < w
lane_in_beat w size address lane is le aligned e = elim (cases_lt (2 ^ size) w) [
  | inl short ↦
      let part : (leb (address % w) lane && ltb lane (address % w + 2 ^ size)) ≡ true =
      rw (lt-leb w (2 ^ size) short) at e in
      let upper : lane < address % w + 2 ^ size =
      ltb-true lane (address % w + 2 ^ size) (and_parts (leb (address % w) lane) _ part).1 in
      let room : address % w + 2 ^ size ≤ w =
      room_in_beat w size address is short le (eqb-true (address % 2 ^ size) 0 aligned) in
      omega arith
  | inr long ↦
      let all : ltb lane w ≡ true = rw (le-leb w (2 ^ size) long) at e in
      ltb-true lane w all
]

each_at : (test : ℕ → Bool) (n k : ℕ) → each_below n test ≡ true → k < n → test k ≡ true
unfolding each_below
each_at test zero k e lt = absurd (omega arith)
each_at test (suc n) k e lt =
    let both = and_parts (test n) (each_below n test) e in
    elim (cases_lt k n) [
      | inl below ↦ each_at test n k both.1 below
      | inr last ↦ let k_is : k ≡ n = omega arith in rw k_is both.0
    ]

no_bit : (mask i : ℕ) → bit mask i ≡ false → bit_at mask i ≡ 0
no_bit mask i e = elim (cases_lt (bit_at mask i) 1) [
  | inl none ↦ omega arith
  | inr some ↦
      let p : bit_at mask i < 2 = bit_at-lt mask i in
      let one : bit_at mask i ≡ 1 = omega arith in
      absurd (let no : true ≡ false = rw one at e in cc)
]

not_true : (b : Bool) → (b ≡ true → ⊥) → b ≡ false
not_true true never = absurd (never refl)
not_true false never = refl

-- a mask of 16 bits whose bits are all below w
narrow : (w mask : ℕ) → mask < 2 ^ 16 → ((i : ℕ) → i < 16 → bit mask i ≡ true → i < w) → mask < 2 ^ w
narrow w mask small within =
    let low : mask % 2 ^ w < 2 ^ w = mod_below mask (2 ^ w) (pow_pos w) in
    let below : mask % 2 ^ w < 2 ^ 16 = omega arith in
    let same : mask ≡ mask % 2 ^ w = same_from_bits_below 16 mask (mask % 2 ^ w) small below
    (λ i lt. elim (cases_lt i w) [
      | inl inside ↦ sym (bit_at_mod mask w i inside)
      | inr outside ↦ no_bit mask i (not_true (bit mask i) (λ e. let inside : i < w = within i lt e in omega arith))
          ∙ sym (bit_at_above (mask % 2 ^ w) w i low outside)
    ]) in
    omega arith

full_bit : (b lane : Bool) → beq b lane ≡ true → b ≡ true → lane ≡ true
full_bit true true same e = refl
full_bit true false same e = absurd cc
full_bit false lane same e = absurd cc

pub part_bit : (b lane : Bool) → (not b || lane) ≡ true → b ≡ true → lane ≡ true
part_bit true lane part e = part
part_bit false lane part e = absurd cc

pub full_mask-narrow : (w size address mask : ℕ) → IsWidth w → size ≤ 6 → mask < 2 ^ 16 → is_aligned address size ≡ true
    → is_full_mask w size address mask ≡ true → mask < 2 ^ w
full_mask-narrow w size address mask is le small aligned full =
    narrow w mask small (λ i lt e. lane_in_beat w size address i is le aligned
    (full_bit (bit mask i) _ (each_at (λ lane. beq (bit mask lane) (is_lane w size address lane)) 16 i full lt) e))

pub part_mask-narrow : (w size address mask : ℕ) → IsWidth w → size ≤ 6 → mask < 2 ^ 16 → is_aligned address size ≡ true
    → is_part_mask w size address mask ≡ true → mask < 2 ^ w
part_mask-narrow w size address mask is le small aligned part =
    narrow w mask small (λ i lt e. lane_in_beat w size address i is le aligned
    (part_bit (bit mask i) _ (each_at (λ lane. not (bit mask lane) || is_lane w size address lane) 16 i part lt) e))

pub if_true : (b c : Bool) {P : Type 0} → b ≡ c → (c ≡ true → P) → OnTrue b P
if_true b true e then = rw e (then refl)
if_true b false e then = rw e tt
