-- The bytes of an answer to an access are those that it found.
use Rattle.tl_true_bytes.proofs.Imports.{IsWidth, begun, data_beats, reaches, length-begun, Memory, bytes_from}
use Rattle.tl_true_bytes.proofs.Imports.{carried_byte}
use Rattle.std.proofs.Common.{◌≡◌, ℕ, zero, suc, ◌+◌, ◌-◌, ◌*◌, ◌/◌, ◌%◌, ◌^◌, ◌<◌, ◌≤◌, true, false, List, [], ◌∷◌}
use Rattle.std.proofs.Common.{◌++◌, drop, length, refl, sym, ap, ◌∙◌, arith, inl, inr}
use Rattle.std.specs.Prelude.{nat_le, nat_lt, Some, replicate, slice_get, slice_index}
use Rattle.std.{proofs.Math.Nat.div-lt_iff_lt-mul, proofs.Math.Nat.mod-lt, proofs.lemmas.Nat.div-add-mod'}
use Rattle.std.{proofs.lemmas.Option.slice_get-get_or}
use Rattle.std.proofs.lemmas.Bool.{and_parts, cases_eq, eq-eqb, leb-true, ltb-true, ne_eqb}
use Rattle.std.proofs.lemmas.List.{get_or_append_left, get_or-append_right, length-append, length-replicate}
use Rattle.tl_beat.specs.statement.Opcode.{d_carries_data}
use Rattle.tl_burst.{specs.declared.message.Message.Message, specs.declared.message.MessageD.MessageD}
use Rattle.tl_rules.{specs.statement.Effect.as_payload, proofs.Rooms.room_in_payload}
use Rattle.tl_manager.{proofs.messages.Filled.length-bytes, proofs.messages.Lawful.no_bit}
use Rattle.tl_coherence.proofs.{manager.Memories.byte_in, protocol.Room.positive}
use Rattle.tl_true_bytes.proofs.Like.{get-taken}

-- ---- the bytes of a payload

get-dropped : (a : ℕ) (xs : List ℕ) (i : ℕ) → slice_get (drop a xs) i ≡ slice_get xs (a + i)
get-dropped zero xs i = let e : 0 + i ≡ i = omega arith in rw e refl
get-dropped (suc a) [] i = refl
get-dropped (suc a) (x ∷ xs) i = let e : suc a + i ≡ suc (a + i) = omega arith in rw e (get-dropped a xs i)

-- what the first beats of a response bring at a place
carried-place : {w : ℕ} (m : MessageD w) (n p : ℕ) → 0 < w → d_carries_data m.opcode ≡ true → m.corrupt ≡ 0
    → m.denied ≡ false → p < length m.payload → p / w < n
    → carried_byte (begun (Message.D m) n) p ≡ Some (slice_index m.payload p)
unfolding carried_byte
carried-place m zero p pos carries clean granted lt few = absurd (omega (arith, few))
carried-place {w} m (suc n) p pos carries clean granted lt few = elim (cases_eq (p / w) n) [
  | inl here ↦
      let whole : w * n + p % w ≡ p = omega (arith, div-add-mod' p w, ap (λ k. k * w) here) in
      let wide : w * n + w - w * n ≡ w = omega arith in
      rw (length-begun (Message.D m) n, eq-eqb (p / w) n here, carries, clean, no_bit n, granted, wide)
      (get-taken w (drop (w * n) m.payload) (p % w) (mod-lt p pos) ∙ get-dropped (w * n) m.payload (p % w) ∙ ap
      (slice_get m.payload) whole ∙ slice_get-get_or m.payload p 0 lt)
  | inr other ↦ rw (length-begun (Message.D m) n, ne_eqb (p / w) n other)
      (carried-place m n p pos carries clean granted lt (omega (arith, few, other)))
]

-- ---- the payload of an answer

payload-long : (first : ℕ) (bytes : List ℕ) → first + length bytes ≤ 64 → length (as_payload first bytes) ≡ 64
payload-long first bytes room =
    let none : ℕ = 0 in
    let zeros = length-replicate first none in
    let rest = length-replicate (64 - first - length bytes) none in
    let some : length (replicate first none ++ bytes) ≡ first + length bytes =
    length-append (replicate first none) bytes ∙ ap (λ k. k + length bytes) zeros in
    length-append (replicate first none ++ bytes) (replicate (64 - first - length bytes) none)
    ∙ omega (arith, some, rest, room)

payload-byte : (first : ℕ) (bytes : List ℕ) (i : ℕ) → i < length bytes
    → slice_index (as_payload first bytes) (first + i) ≡ slice_index bytes i
payload-byte first bytes i lt =
    let none : ℕ = 0 in
    let back : first + i - first ≡ i = omega arith in
    let zeros = length-replicate first none in
    let some : length (replicate first none ++ bytes) ≡ first + length bytes =
    length-append (replicate first none) bytes ∙ ap (λ k. k + length bytes) zeros in
    get_or_append_left (replicate first none ++ bytes) (replicate (64 - first - length bytes) none) 0 (first + i)
    (omega (arith, some, lt))
    ∙ get_or-append_right (replicate first none) bytes first (first + i) 0 zeros (omega arith)
    ∙ ap (λ k. slice_index bytes k) back

-- ---- the places that an aligned access reaches

covers-4 : (size address : ℕ) → size ≤ 6 → address % 2 ^ size ≡ 0 → address % 4 + 2 ^ size ≤ 4 * data_beats 4 size
covers-4 zero address le e = omega arith
covers-4 (suc zero) address le e = omega (arith, e)
covers-4 (suc (suc zero)) address le e = omega (arith, e)
covers-4 (suc (suc (suc zero))) address le e = omega (arith, e)
covers-4 (suc (suc (suc (suc zero)))) address le e = omega (arith, e)
covers-4 (suc (suc (suc (suc (suc zero))))) address le e = omega (arith, e)
covers-4 (suc (suc (suc (suc (suc (suc zero)))))) address le e = omega (arith, e)
covers-4 (suc (suc (suc (suc (suc (suc (suc n))))))) address le e = absurd (omega (arith, le))

covers-8 : (size address : ℕ) → size ≤ 6 → address % 2 ^ size ≡ 0 → address % 8 + 2 ^ size ≤ 8 * data_beats 8 size
covers-8 zero address le e = omega arith
covers-8 (suc zero) address le e = omega (arith, e)
covers-8 (suc (suc zero)) address le e = omega (arith, e)
covers-8 (suc (suc (suc zero))) address le e = omega (arith, e)
covers-8 (suc (suc (suc (suc zero)))) address le e = omega (arith, e)
covers-8 (suc (suc (suc (suc (suc zero))))) address le e = omega (arith, e)
covers-8 (suc (suc (suc (suc (suc (suc zero)))))) address le e = omega (arith, e)
covers-8 (suc (suc (suc (suc (suc (suc (suc n))))))) address le e = absurd (omega (arith, le))

covers-16 : (size address : ℕ) → size ≤ 6 → address % 2 ^ size ≡ 0 → address % 16 + 2 ^ size ≤ 16 * data_beats 16 size
covers-16 zero address le e = omega arith
covers-16 (suc zero) address le e = omega (arith, e)
covers-16 (suc (suc zero)) address le e = omega (arith, e)
covers-16 (suc (suc (suc zero))) address le e = omega (arith, e)
covers-16 (suc (suc (suc (suc zero)))) address le e = omega (arith, e)
covers-16 (suc (suc (suc (suc (suc zero))))) address le e = omega (arith, e)
covers-16 (suc (suc (suc (suc (suc (suc zero)))))) address le e = omega (arith, e)
covers-16 (suc (suc (suc (suc (suc (suc (suc n))))))) address le e = absurd (omega (arith, le))

covers : (w size address : ℕ) → IsWidth w → size ≤ 6 → address % 2 ^ size ≡ 0
    → address % w + 2 ^ size ≤ w * data_beats w size
covers w size address (inl is) le e = rw is (covers-4 size address le e)
covers w size address (inr (inl is)) le e = rw is (covers-8 size address le e)
covers w size address (inr (inr is)) le e = rw is (covers-16 size address le e)

-- an address that is reached, by its distance from the first
record IsReached (w base size x : ℕ) : Type 0 where
  far : ℕ
  inside : far < 2 ^ size
  address_is : base + far ≡ x
  place_is : base % w + far ≡ x - w * (base / w)

reached : (w base size x : ℕ) → reaches base size x ≡ true → IsReached w base size x
reached w base size x e =
    let both = and_parts (nat_le base x) (nat_lt x (base + 2 ^ size)) e in
    let from = leb-true base x both.0 in
    let to = ltb-true x (base + 2 ^ size) both.1 in
    let whole = div-add-mod' base w in
    let turned : base / w * w ≡ w * (base / w) = omega arith in
    record {
      far = x - base;
      inside = omega (arith, from, to);
      address_is = omega (arith, from);
      place_is = omega (arith, from, whole, turned);
    }

-- its beat is one of those that carry the answer
pub within : (w size base x : ℕ) → IsWidth w → size ≤ 6 → base % 2 ^ size ≡ 0 → reaches base size x ≡ true
    → (x - w * (base / w)) / w < data_beats w size
within w size base x width small aligned e =
    let at = reached w base size x e in
    let room = covers w size base width small aligned in
    let turned : w * data_beats w size ≡ data_beats w size * w = omega arith in
    (div-lt_iff_lt-mul (positive w width)).1 (omega (arith, room, turned, at.inside, at.place_is))

-- and brings what was found there
pub brought : {w : ℕ} (base size : ℕ) (f : Memory) (m : MessageD w) (n x : ℕ) → IsWidth w → size ≤ 6
    → base % 2 ^ size ≡ 0 → d_carries_data m.opcode ≡ true → m.corrupt ≡ 0 → m.denied ≡ false
    → m.payload ≡ as_payload (base % w) (bytes_from f base (2 ^ size)) → reaches base size x ≡ true
    → (x - w * (base / w)) / w < n → carried_byte (begun (Message.D m) n) (x - w * (base / w)) ≡ Some (f x)
brought {w} base size f m n x width small aligned carries clean granted payload e few =
    carried-place m n (x - w * (base / w)) (positive w width) carries clean granted inside few
    ∙ ap Some (ap (λ (l : List ℕ). slice_index l (x - w * (base / w))) payload ∙ ap
    (λ k. slice_index (as_payload (base % w) bytes) k) (sym at.place_is) ∙ payload-byte (base % w) bytes at.far
    (omega (arith, long, at.inside)) ∙ byte_in f base (2 ^ size) at.far at.inside ∙ ap f at.address_is)
  where
    at : IsReached w base size x
    at = reached w base size x e

    bytes : List ℕ
    bytes = bytes_from f base (2 ^ size)

    long : length bytes ≡ 2 ^ size
    long = length-bytes f base (2 ^ size)

    room : base % w + 2 ^ size ≤ 64
    room = room_in_payload w size base width small aligned

    inside : x - w * (base / w) < length m.payload
    inside = omega (
      arith,
      at.place_is,
      at.inside,
      room,
      ap (λ (l : List ℕ). length l) payload,
      long,
      payload-long (base % w) bytes (omega (arith, long, room)),
    )
