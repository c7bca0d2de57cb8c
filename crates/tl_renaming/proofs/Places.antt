-- Where an address lies in the payload of a message, and among the bytes that it reaches, under a renaming of blocks.
use Rattle.tl_renaming.proofs.Imports.{IsOneToOne, block_at}
use Rattle.tl_renaming.proofs.Addresses.{block-of, low-bits, moved}
use Rattle.std.proofs.Common.{◌≡◌, ℕ, Bool, true, false, ◌&&◌, ◌+◌, ◌-◌, ◌*◌, ◌/◌, ◌%◌, ◌^◌, ◌≤◌, ◌<◌, List, length, refl, sym}
use Rattle.std.proofs.Common.{ap, ◌∙◌, arith, inl, inr}
use Rattle.std.specs.Prelude.{if◌then◌else◌, nat_le, nat_lt, Option, Some, None, is_some}
use Rattle.std.proofs.lemmas.Bool.{and_right, cases_eq, cases_lt, le-leb, le-ltb, lt-leb, lt-ltb}
use Rattle.std.proofs.lemmas.Option.{slice_get_past}
use Rattle.tl_beat.specs.statement.Width.{IsWidth}
use Rattle.tl_burst.specs.statement.Burst.{byte_if, place_of, reaches}
use Rattle.tl_rules.specs.code.Place.{base_of}
use Rattle.tl_rules.proofs.Rooms.{base_in_memory}

-- ---- numbers that lie in the same distance

-- a from b on as c from d on
shifted-le : (a b c d : ℕ) → a + d ≡ c + b → nat_le d c ≡ nat_le b a
shifted-le a b c d e = elim (cases_lt a b) [
  | inl lt ↦ rw (lt-leb b a lt, lt-leb d c (let less : c < d = omega (arith, e) in less)) refl
  | inr le ↦ rw (le-leb b a le, le-leb d c (let more : d ≤ c = omega (arith, e) in more)) refl
]

shifted-lt : (a b c d : ℕ) → a + d ≡ c + b → nat_lt c d ≡ nat_lt a b
shifted-lt a b c d e = elim (cases_lt a b) [
  | inl lt ↦ rw (lt-ltb a b lt, lt-ltb c d (let less : c < d = omega (arith, e) in less)) refl
  | inr le ↦ rw (le-ltb a b le, le-ltb c d (let more : d ≤ c = omega (arith, e) in more)) refl
]

shifted-place : (a b c d : ℕ) → a + d ≡ c + b
    → (if nat_le d c then Some (c - d) else None) ≡ (if nat_le b a then Some (a - b) else None)
shifted-place a b c d e = elim (cases_lt a b) [
  | inl lt ↦ rw (lt-leb b a lt, lt-leb d c (let less : c < d = omega (arith, e) in less)) refl
  | inr le ↦
      let same : c - d ≡ a - b = omega (arith, e) in
      rw (le-leb b a le, le-leb d c (let more : d ≤ c = omega (arith, e) in more), same) refl
]

no-choice : (b : Bool) (o : Option ℕ) → (if b then o else o) ≡ o
no-choice true o = refl
no-choice false o = refl

-- ---- without a renaming: what lies in another block

module _ (w : ℕ) (width : IsWidth w) where
  -- a payload that ends in the block has no byte elsewhere
  pub elsewhere : (base address : ℕ) (counts : ℕ → Bool) (payload : List ℕ) → base_of w base + length payload ≤ 64
      → (block_at address ≡ block_at base → ⊥) → byte_if counts payload (place_of w base address) ≡ None
  elsewhere base address counts payload room other = elim (cases_lt address (w * (base / w))) [
    | inl lt ↦ rw (lt-leb (w * (base / w)) address lt) refl
    | inr le ↦
        let start = base_in_memory w base width in
        let past : length payload ≤ address - w * (base / w) = omega (arith, start, room, other, le) in
        rw (le-leb (w * (base / w)) address le, slice_get_past payload (address - w * (base / w)) past)
        (no-choice (counts (address - w * (base / w))) None)
  ]

-- so has a message that ends in it
pub unreached : (base count address : ℕ) → base % 64 + count ≤ 64 → (block_at address ≡ block_at base → ⊥)
    → (nat_le base address && nat_lt address (base + count)) ≡ false
unreached base count address room other = elim (cases_lt address base) [
  | inl lt ↦ rw (lt-leb base address lt) refl
  | inr le ↦
      and_right (nat_le base address) (nat_lt address (base + count))
      (le-ltb address (base + count) (let past : base + count ≤ address = omega (arith, room, other, le) in past))
]

-- ---- under a renaming

module _ (f : ℕ → ℕ) (apart : IsOneToOne f) where
  -- addresses of one block move together
  together : (base address : ℕ) → block_at address ≡ block_at base → address + moved f base ≡ moved f address + base
  together base address same =
      let block : f (block_at address) ≡ f (block_at base) = ap f same in
      omega (arith, same, block)

  pub still-apart : (base address : ℕ) → (block_at address ≡ block_at base → ⊥)
      → block_at (moved f address) ≡ block_at (moved f base) → ⊥
  still-apart base address other e =
      other (apart (block_at address) (block_at base) (sym (block-of f address) ∙ e ∙ block-of f base))

  pub same-distance : (base address : ℕ) → block_at address ≡ block_at base
      → moved f address - moved f base ≡ address - base
  same-distance base address same = let e = together base address same in omega (arith, e)

  pub reaches-kept : (base size address : ℕ) → base % 64 + 2 ^ size ≤ 64
      → reaches (moved f base) size (moved f address) ≡ reaches base size address
  reaches-kept base size address room = elim (cases_eq (block_at address) (block_at base)) [
    | inl same ↦
        let e = together base address same in
        let far : address + (moved f base + 2 ^ size) ≡ moved f address + (base + 2 ^ size) = omega (arith, e) in
        rw (
          shifted-le address base (moved f address) (moved f base) e,
          shifted-lt address (base + 2 ^ size) (moved f address) (moved f base + 2 ^ size) far,
        ) refl
    | inr other ↦
        unreached (moved f base) (2 ^ size) (moved f address) (rw (low-bits f base) room)
        (still-apart base address other)
        ∙ sym (unreached base (2 ^ size) address room other)
  ]

  pub reached-block : (base size address : ℕ) → base % 64 + 2 ^ size ≤ 64 → reaches base size address ≡ true
      → block_at address ≡ block_at base
  reached-block base size address room e = elim (cases_eq (block_at address) (block_at base)) [
    | inl same ↦ same
    | inr other ↦ absurd (let no : true ≡ false = sym e ∙ unreached base (2 ^ size) address room other in cc)
  ]

  module _ (w : ℕ) (width : IsWidth w) where
    -- where the payload of a message begins
    pub start-moved : (base : ℕ) → w * (moved f base / w) ≡ 64 * f (block_at base) + base_of w base
    start-moved base = base_in_memory w (moved f base) width ∙ rw (block-of f base, low-bits f base) refl

    from-start : (base address : ℕ) → block_at address ≡ block_at base
        → address + w * (moved f base / w) ≡ moved f address + w * (base / w)
    from-start base address same =
        let old = base_in_memory w base width in
        let new = start-moved base in
        let block : f (block_at address) ≡ f (block_at base) = ap f same in
        omega (arith, old, new, same, block)

    -- what is i bytes behind the address of a message is in the same place of its payload
    pub same-offset : (base i : ℕ) → moved f base + i - w * (moved f base / w) ≡ base + i - w * (base / w)
    same-offset base i = let e = from-start base base refl in omega (arith, e)

    pub place-kept : (base address : ℕ) → block_at address ≡ block_at base
        → place_of w (moved f base) (moved f address) ≡ place_of w base address
    place-kept base address same = shifted-place address (w * (base / w)) (moved f address) (w * (moved f base / w))
        (from-start base address same)

    pub byte-kept : (base address : ℕ) (counts : ℕ → Bool) (payload : List ℕ) → base_of w base + length payload ≤ 64
        → byte_if counts payload (place_of w (moved f base) (moved f address))
        ≡ byte_if counts payload (place_of w base address)
    byte-kept base address counts payload room = elim (cases_eq (block_at address) (block_at base)) [
      | inl same ↦ ap (byte_if counts payload) (place-kept base address same)
      | inr other ↦
          elsewhere w width (moved f base) (moved f address) counts payload (rw (low-bits f base) room)
          (still-apart base address other)
          ∙ sym (elsewhere w width base address counts payload room other)
    ]

    pub found-block : (base address : ℕ) (counts : ℕ → Bool) (payload : List ℕ)
        → base_of w base + length payload ≤ 64
        → is_some (byte_if counts payload (place_of w base address)) ≡ true → block_at address ≡ block_at base
    found-block base address counts payload room e = elim (cases_eq (block_at address) (block_at base)) [
      | inl same ↦ same
      | inr other ↦
          absurd (let no : true ≡ false = sym e ∙ ap is_some (elsewhere w width base address counts payload room other) in
          cc)
    ]
