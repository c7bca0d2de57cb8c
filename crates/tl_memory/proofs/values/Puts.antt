-- What a Put leaves in its block.
use Rattle.tl_memory.proofs.Imports.{OpA, a_carries_data, IsWidth, MessageA, bit, base_of, base_in_memory, Access}
use Rattle.tl_memory.proofs.Imports.{access_writes, writes}
use Rattle.tl_bytes.specs.statement.Bytes.{is_put}
use Rattle.std.proofs.Common.{◌≡◌, ℕ, Bool, true, false, ◌&&◌, ◌+◌, ◌-◌, ◌*◌, ◌/◌, ◌<◌, ◌≤◌, List, length, refl, sym, ap, ◌∙◌}
use Rattle.std.proofs.Common.{arith, inl, inr}
use Rattle.std.specs.Prelude.{if◌then◌else◌, is_some, None, Option, Some, nat_le, nat_lt, slice_get, slice_index, unwrap_or}
use Rattle.std.proofs.lemmas.Bool.{cases_lt, le-leb, lt-leb, lt-ltb}
use Rattle.std.proofs.lemmas.Option.{slice_get-get_or, slice_get_within}
use Rattle.tl_burst.specs.declared.message.Message.{Message}
use Rattle.tl_burst.specs.statement.Burst.{byte_at, byte_if, place_of}
use Rattle.tl_rules.specs.statement.Effect.{Memory, after, effect}

-- the byte that a message has at an address, where it has one
pub record HasByte (payload : List ℕ) (o : Option ℕ) (found : Option ℕ) : Type 0 where
  pub place : ℕ
  pub is_there : o ≡ Some place
  pub inside : place < length payload
  pub value : found ≡ Some (slice_index payload place)

some_of : (payload : List ℕ) (q : ℕ) (o : Option ℕ) → o ≡ slice_get payload q → is_some o ≡ true
    → HasByte payload (Some q) o
some_of payload q None e some = absurd cc
some_of payload q (Some v) e some =
    let lt = slice_get_within payload q v (sym e) in
    record { place = q; is_there = refl; inside = lt; value = e ∙ slice_get-get_or payload q 0 lt }

pub has_byte : (carries : Bool) (counts : ℕ → Bool) (payload : List ℕ) (o : Option ℕ)
    → is_some (if carries then byte_if counts payload o else None) ≡ true
    → HasByte payload o (if carries then byte_if counts payload o else None)
has_byte false counts payload o some = absurd cc
has_byte true counts payload None some = absurd cc
has_byte true counts payload (Some q) some = go (counts q) some
  where
    go : (b : Bool) → is_some (if b then slice_get payload q else None) ≡ true
        → HasByte payload (Some q) (if b then slice_get payload q else None)
    go true e = some_of payload q (slice_get payload q) refl e
    go false e = absurd cc

pub placed : (base x q : ℕ) → (if nat_le base x then Some (x - base) else None) ≡ Some q → (base ≤ x) × (q ≡ x - base)
placed base x q e = elim (cases_lt x base) [
  | inl below ↦ absurd (none_some (sym (rw (lt-leb base x below) refl) ∙ e))
  | inr from ↦ (from, same (nat_le base x) e)
]
  where
    none_some : None ≡ Some q → ⊥
    none_some e = cc

    same : (b : Bool) → (if b then Some (x - base) else None) ≡ Some q → q ≡ x - base
    same true e = cc
    same false e = absurd cc

pub put_is : {w : ℕ} (op : OpA) (m : MessageA w) (memory : Memory) (x : ℕ) → is_put op ≡ true → writes op m x ≡ true
    → (is_some (byte_at 0 (Message.A m) x) ≡ true)
    × (after op m memory x ≡ unwrap_or (byte_at 0 (Message.A m) x) (memory x))
put_is OpA.PutFullData m memory x e written = (written, refl)
put_is OpA.PutPartialData m memory x e written = (written, refl)
put_is v m memory x e written = absurd cc

-- what a Put writes at a place of its block is the byte of its payload, behind the place of that
pub put-leaves : {w : ℕ} (access : Access w) (base p : ℕ) (memory : Memory) → IsWidth w
    → is_put access.request.opcode ≡ true → base ≡ base_of w access.request.address
    → access_writes (64 * (access.request.address / 64) + p) access ≡ true
    → (p - base < length access.request.payload)
    × ((effect (Message.A access.request) memory).0 (64 * (access.request.address / 64) + p)
    ≡ slice_index access.request.payload (p - base))
unfolding effect
put-leaves {w} access base p memory is put base_is written =
    let m = access.request in
    let x = 64 * (m.address / 64) + p in
    let start : w * (m.address / w) ≡ 64 * (m.address / 64) + base =
    base_in_memory w m.address is ∙ ap (λ n. 64 * (m.address / 64) + n) (sym base_is) in
    let is_put_of = put_is m.opcode m memory x put written in
    let has = has_byte (a_carries_data m.opcode) (λ q. bit m.mask q) m.payload (place_of w m.address x) is_put_of.0 in
    let at = placed (w * (m.address / w)) x has.place has.is_there in
    let place : p - base ≡ has.place = omega (arith, start, at.0, at.1) in (
      omega (arith, place, has.inside),
      is_put_of.1 ∙ ap (λ o. unwrap_or o (memory x)) has.value ∙ ap (slice_index m.payload) (sym place),
    )

pub put-carries : (op : OpA) → is_put op ≡ true → a_carries_data op ≡ true
put-carries OpA.PutFullData e = refl
put-carries OpA.PutPartialData e = refl
put-carries v e = absurd cc

put-writes : {w : ℕ} (op : OpA) (m : MessageA w) (x : ℕ) → is_put op ≡ true
    → writes op m x ≡ is_some (byte_at 0 (Message.A m) x)
put-writes OpA.PutFullData m x e = refl
put-writes OpA.PutPartialData m x e = refl
put-writes v m x e = absurd cc

-- it writes the places of its mask's bits
pub put-places : {w : ℕ} (m : MessageA w) (base p : ℕ) → IsWidth w → is_put m.opcode ≡ true
    → base ≡ base_of w m.address → ((q : ℕ) → bit m.mask q ≡ true → q < length m.payload) → p < 64
    → (nat_le base p && (nat_lt (p - base) 64 && bit m.mask (p - base)))
    ≡ writes m.opcode m (64 * (m.address / 64) + p)
put-places {w} m base p is put base_is masked lt =
    sym (put-writes m.opcode m (64 * (m.address / 64) + p) put ∙ rw (put-carries m.opcode put) (elim (cases_lt p base) [
      | inl below ↦
          let before : 64 * (m.address / 64) + p < w * (m.address / w) = omega (arith, below, start) in
          rw (lt-leb (w * (m.address / w)) (64 * (m.address / 64) + p) before, lt-leb base p below) refl
      | inr from ↦
          let after : w * (m.address / w) ≤ 64 * (m.address / 64) + p = omega (arith, from, start) in
          let same : 64 * (m.address / 64) + p - w * (m.address / w) ≡ p - base = omega (arith, from, start) in
          rw (
            le-leb (w * (m.address / w)) (64 * (m.address / 64) + p) after,
            le-leb base p from,
            same,
            lt-ltb (p - base) 64 (omega (arith, lt)),
          ) (set (bit m.mask (p - base)) refl)
    ]))
  where
    start : w * (m.address / w) ≡ 64 * (m.address / 64) + base
    start = base_in_memory w m.address is ∙ ap (λ n. 64 * (m.address / 64) + n) (sym base_is)

    set : (b : Bool) → bit m.mask (p - base) ≡ b → is_some (if b then slice_get m.payload (p - base) else None) ≡ b
    set false e = refl
    set true e = rw (slice_get-get_or m.payload (p - base) 0 (masked (p - base) e)) refl
