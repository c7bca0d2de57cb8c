-- What is known of an access that is asked for, where no beat of its link broke a rule.
use Rattle.tl_memory.proofs.Imports.{Beat, BeatA, OpA, a_carries_data, IsWidth, MessageA, bit, data_beats}
use Rattle.tl_memory.proofs.Imports.{reaches, History, burst_length, unfinished, Level, base_of}
use Rattle.tl_memory.proofs.Imports.{AreTyped, all_liberties, broken_after_under, is_legal_under, block_at, ends, a_has_size}
use Rattle.tl_memory.proofs.Imports.{a_of_level, base_in_memory, asked_by, is_access, writes, AreWide, WritesInside}
use Rattle.tl_bytes.specs.statement.Bytes.{asks, is_put}
use Rattle.std.proofs.Common.{◌≡◌, ℕ, zero, suc, Bool, true, false, ◌||◌, ◌+◌, ◌*◌, ◌/◌, ◌%◌, ◌^◌, ◌<◌, ◌≤◌, List, ◌∷◌}
use Rattle.std.proofs.Common.{length, None, refl, ap, ◌∙◌, arith, inl, inr}
use Rattle.std.specs.Prelude.{min, if◌then◌else◌, nat_le, nat_lt}
use Rattle.std.proofs.lemmas.Bool.{eqb-true, le-leb, ltb-true, and_parts, leb-true}
use Rattle.std.proofs.Math.Nat.{mul-suc}
use Rattle.tl_beat.specs.declared.channel.Channel.{Channel}
use Rattle.tl_burst.{specs.statement.Burst.place_of, proofs.Bits.earlier_place}
use Rattle.tl_rules.{specs.statement.Admission.bytes_carried, specs.statement.Legality.is_aligned}
use Rattle.tl_rules.{proofs.Rooms.room_in_block}
use Rattle.tl_memory.{specs.statement.Known.IsLawful, specs.statement.Known.IsPerformable, specs.statement.Known.is_atomic}
use Rattle.tl_memory.proofs.{values.Atomics.atomic-writes, values.Atomics.atomic_carries}
use Rattle.tl_memory.proofs.{values.Payloads.wide-length, lawful.Unfinished.are-begun, lawful.Unfinished.are-wide}
use Rattle.tl_memory.proofs.{lawful.Unfinished.fewer-before}
use Rattle.tl_memory.proofs.lawful.Lawful.{IsRequest, by_itself, goes_on, is-request}
use Rattle.tl_memory.proofs.values.Puts.{has_byte, placed, put-carries, put_is}

-- ---- it breaks no rule at TL-UH

access_of_uh : (opcode : OpA) → is_access opcode ≡ true → a_of_level Level.UH opcode ≡ true
access_of_uh OpA.Intent e = absurd cc
access_of_uh OpA.AcquireBlock e = absurd cc
access_of_uh OpA.AcquirePerm e = absurd cc
access_of_uh v e = refl

size_of_uh : (w : ℕ) (l : Level) (opcode : OpA) (size : ℕ) → a_has_size w l opcode size ≡ true → size ≤ 6
    → a_has_size w Level.UH opcode size ≡ true
size_of_uh w l OpA.PutFullData size e le = le-leb size 6 le
size_of_uh w l OpA.PutPartialData size e le = le-leb size 6 le
size_of_uh w l OpA.Get size e le = le-leb size 6 le
size_of_uh w l OpA.Intent size e le = le-leb size 6 le
size_of_uh w l v size e le = e

performable : (w : ℕ) (l : Level) (opcode : OpA) (param size address mask : ℕ) → is_access opcode ≡ true
    → IsRequest w l opcode param size address mask → IsPerformable w opcode param size address
performable w l opcode param size address mask access r = record {
  of_level = access_of_uh opcode access;
  has_param = r.has_param;
  has_size = size_of_uh w l opcode size r.has_size r.small;
  aligned = r.aligned;
}

-- an atomic is asked for with its last beat
atomic_ends : (opcode : OpA) (last : Bool) → is_atomic opcode ≡ true → (is_put opcode || last) ≡ true → last ≡ true
atomic_ends OpA.ArithmeticData last atomic e = e
atomic_ends OpA.LogicalData last atomic e = e
atomic_ends v last atomic e = absurd cc

-- ---- where its bytes lie

-- all that an aligned request reaches is in the beats that carry it
reach_carried : (w size address : ℕ) → IsWidth w → size ≤ 6 → address % 2 ^ size ≡ 0
    → address % w + 2 ^ size ≤ w * data_beats w size
reach_carried w zero address is le e = elim is [
  | inl i ↦ rw i (omega arith)
  | inr more ↦ elim more [ inl i ↦ rw i (omega arith) | inr i ↦ rw i (omega arith) ]
]
reach_carried w (suc zero) address is le e = elim is [
  | inl i ↦ rw i (omega arith)
  | inr more ↦ elim more [ inl i ↦ rw i (omega arith) | inr i ↦ rw i (omega arith) ]
]
reach_carried w (suc (suc zero)) address is le e = elim is [
  | inl i ↦ rw i (omega arith)
  | inr more ↦ elim more [ inl i ↦ rw i (omega arith) | inr i ↦ rw i (omega arith) ]
]
reach_carried w (suc (suc (suc zero))) address is le e = elim is [
  | inl i ↦ rw i (omega arith)
  | inr more ↦ elim more [ inl i ↦ rw i (omega arith) | inr i ↦ rw i (omega arith) ]
]
reach_carried w (suc (suc (suc (suc zero)))) address is le e = elim is [
  | inl i ↦ rw i (omega arith)
  | inr more ↦ elim more [ inl i ↦ rw i (omega arith) | inr i ↦ rw i (omega arith) ]
]
reach_carried w (suc (suc (suc (suc (suc zero))))) address is le e = elim is [
  | inl i ↦ rw i (omega arith)
  | inr more ↦ elim more [ inl i ↦ rw i (omega arith) | inr i ↦ rw i (omega arith) ]
]
reach_carried w (suc (suc (suc (suc (suc (suc zero)))))) address is le e = elim is [
  | inl i ↦ rw i (omega arith)
  | inr more ↦ elim more [ inl i ↦ rw i (omega arith) | inr i ↦ rw i (omega arith) ]
]
reach_carried w (suc (suc (suc (suc (suc (suc (suc n))))))) address is le e = absurd (omega arith)

-- and these lie in its block
pub carried_inside : (w size address : ℕ) → IsWidth w → size ≤ 6 → address % 2 ^ size ≡ 0
    → base_of w address + w * data_beats w size ≤ 64
carried_inside w zero address is le e = elim is [
  | inl i ↦ rw i (omega arith)
  | inr more ↦ elim more [ inl i ↦ rw i (omega arith) | inr i ↦ rw i (omega arith) ]
]
carried_inside w (suc zero) address is le e = elim is [
  | inl i ↦ rw i (omega arith)
  | inr more ↦ elim more [ inl i ↦ rw i (omega arith) | inr i ↦ rw i (omega arith) ]
]
carried_inside w (suc (suc zero)) address is le e = elim is [
  | inl i ↦ rw i (omega arith)
  | inr more ↦ elim more [ inl i ↦ rw i (omega arith) | inr i ↦ rw i (omega arith) ]
]
carried_inside w (suc (suc (suc zero))) address is le e = elim is [
  | inl i ↦ rw i (omega arith)
  | inr more ↦ elim more [ inl i ↦ rw i (omega arith) | inr i ↦ rw i (omega arith) ]
]
carried_inside w (suc (suc (suc (suc zero)))) address is le e = elim is [
  | inl i ↦ rw i (omega arith)
  | inr more ↦ elim more [ inl i ↦ rw i (omega arith) | inr i ↦ rw i (omega arith) ]
]
carried_inside w (suc (suc (suc (suc (suc zero))))) address is le e = elim is [
  | inl i ↦ rw i (omega arith)
  | inr more ↦ elim more [ inl i ↦ rw i (omega arith) | inr i ↦ rw i (omega arith) ]
]
carried_inside w (suc (suc (suc (suc (suc (suc zero)))))) address is le e = elim is [
  | inl i ↦ rw i (omega arith)
  | inr more ↦ elim more [ inl i ↦ rw i (omega arith) | inr i ↦ rw i (omega arith) ]
]
carried_inside w (suc (suc (suc (suc (suc (suc (suc n))))))) address is le e = absurd (omega arith)

-- ---- what it writes

put_inside : {w : ℕ} (m : MessageA w) (x : ℕ) → IsWidth w → is_put m.opcode ≡ true → writes m.opcode m x ≡ true
    → base_of w m.address + length m.payload ≤ 64 → block_at x ≡ block_at m.address
put_inside {w} m x is put written room =
    let has = has_byte (a_carries_data m.opcode) (λ q. bit m.mask q) m.payload (place_of w m.address x)
    (put_is m.opcode m (λ y. 0) x put written).0 in
    let at = placed (w * (m.address / w)) x has.place has.is_there in
    let start = base_in_memory w m.address is in
    let inside = has.inside in
    in_same_block m.address x (base_of w m.address) has.place (omega (arith, at.0, at.1, start))
    (omega (arith, room, inside))
  where
    in_same_block : (address x base place : ℕ) → x ≡ 64 * (address / 64) + base + place → base + place < 64
        → x / 64 ≡ address / 64
    in_same_block address x base place e lt = omega (arith, e, lt)

pub reached_inside : (address size x : ℕ) → size ≤ 6 → is_aligned address size ≡ true → reaches address size x ≡ true
    → x / 64 ≡ address / 64
reached_inside address size x le aligned reached =
    let both = and_parts (nat_le address x) (nat_lt x (address + 2 ^ size)) reached in
    let room = room_in_block size address le (eqb-true (address % 2 ^ size) 0 aligned) in
    let from = leb-true address x both.0 in
    let to = ltb-true x (address + 2 ^ size) both.1 in
    omega (arith, room, from, to)

-- ---- an access that is asked for

module _ {w : ℕ} (l : Level) (link : ℕ) (x : BeatA w) (t : History w) (moment : ℕ) (is : IsWidth w)
    (typed : AreTyped (Beat.A x ∷ unfinished Channel.A t)) (legal : is_legal_under all_liberties l t ≡ true)
    (fine : broken_after_under all_liberties l (Beat.A x) t ≡ None) where
  abbrev burst : List (Beat w)
  burst = Beat.A x ∷ unfinished Channel.A t

  request : IsRequest w l x.opcode x.param x.size x.address x.mask
  request = is-request l x is (by_itself l (Beat.A x) t fine)

  pub wide-burst : a_carries_data x.opcode ≡ true → AreWide burst
  wide-burst carries = are-wide l x (unfinished Channel.A t) typed (goes_on l (Beat.A x) t fine)
      (are-begun l Channel.A t is legal) carries

  whole : (b : Bool) → b ≡ true → (if b then data_beats w x.size else 1) ≡ data_beats w x.size
  whole b e = rw e refl

  -- the beats have brought no more bytes than a request has
  short : a_carries_data x.opcode ≡ true → length (bytes_carried burst) ≤ w * data_beats w x.size
  short carries =
      let fewer = fewer-before l (Beat.A x) t is legal fine in
      let one = whole (a_carries_data x.opcode) carries in
      let place = earlier_place w (data_beats w x.size) (length (unfinished Channel.A t)) (omega (arith, fewer, one)) in
      let bytes = wide-length burst (wide-burst carries) ∙ mul-suc w (length (unfinished Channel.A t)) in
      omega (arith, bytes, place)

  -- where they are complete they have brought all
  long : a_carries_data x.opcode ≡ true → ends (Beat.A x) t ≡ true
      → length (bytes_carried burst) ≡ w * data_beats w x.size
  long carries last =
      wide-length burst (wide-burst carries) ∙ ap (λ n. w * n) (count ∙ whole (a_carries_data x.opcode) carries)
    where
      count : suc (length (unfinished Channel.A t)) ≡ burst_length (Beat.A x)
      count =
          let e = eqb-true (length (unfinished Channel.A t) + 1) (burst_length (Beat.A x)) last in omega (arith, e)

  same_size : min x.size 6 ≡ x.size
  same_size = let le = request.small in omega (arith, le)

  aligned : x.address % 2 ^ x.size ≡ 0
  aligned = eqb-true (x.address % 2 ^ x.size) 0 request.aligned

  pub lawful-asked : asks x t ≡ true → IsLawful (asked_by link x burst moment)
  lawful-asked asked =
      let both = and_parts (is_access x.opcode) (is_put x.opcode || ends (Beat.A x) t) asked in (
        rw same_size (performable w l x.opcode x.param x.size x.address x.mask both.0 request),
        λ atomic.
            let reach = reach_carried w x.size x.address is request.small aligned in
            rw (same_size, long (atomic_carries x.opcode atomic) (atomic_ends x.opcode (ends (Beat.A x) t) atomic both.1))
            reach,
      )

  pub writes-inside : WritesInside (asked_by link x burst moment)
  writes-inside y written = go (is_put x.opcode) refl
    where
      m : MessageA w
      m = (asked_by link x burst moment).request

      go : (b : Bool) → is_put x.opcode ≡ b → block_at y ≡ block_at x.address
      go true put =
          let inside = carried_inside w x.size x.address is request.small aligned in
          let few = short (put-carries x.opcode put) in
          put_inside m y is put written (omega (arith, inside, few))
      go false other =
          let atomic = atomic-writes x.opcode m y other written in
          reached_inside x.address x.size y request.small request.aligned (rw same_size at atomic.1)
