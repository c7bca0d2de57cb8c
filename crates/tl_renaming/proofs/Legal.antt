-- The rules that a beat breaks by itself, of a renamed beat.
use Rattle.tl_renaming.proofs.Imports.{Beat, A, B, C, D, E, Channel, IsFaithful, Liberties, Renaming, renamed}
use Rattle.tl_renaming.proofs.Imports.{renamed_address}
use Rattle.tl_renaming.{proofs.Addresses.kept-modulo, proofs.Messages.sink-test, proofs.Messages.source-test}
use Rattle.std.proofs.Common.{◌≡◌, ◌≤◌, ◌%◌, ◌^◌, ◌+◌, ℕ, Bool, true, false, not, ◌&&◌, ◌||◌, refl, sym, ap, ◌∙◌, arith, inl, inr, [], ◌∷◌}
use Rattle.std.specs.Prelude.{if◌then◌else◌, nat_le, nat_lt, Option, ◌==◌}
use Rattle.std.specs.Bool.{beq}
use Rattle.std.proofs.lemmas.Bool.{eqb-true, not-false}
use Rattle.std.proofs.lemmas.Bool.Decides.{nat_tests}
use Rattle.tl_beat.{specs.declared.opcode.OpA.OpA, specs.declared.opcode.OpC.OpC, specs.declared.opcode.OpD.OpD}
use Rattle.tl_beat.{specs.statement.First.first_if, specs.statement.Width.IsWidth}
use Rattle.tl_burst.specs.statement.Burst.{bit}
use Rattle.tl_params.specs.declared.level.Level.{Level}
use Rattle.tl_params.specs.declared.rule.Rule.{Rule}
use Rattle.tl_params.specs.declared.rule.Rule.TheVariants.{L1, L2, L3, L7}
use Rattle.tl_rules.proofs.Sizes.{access-small}
use Rattle.tl_rules.specs.statement.Legality.{a_has_mask, a_has_size, breaks_l1, breaks_l3, breaks_l4, breaks_l5}
use Rattle.tl_rules.specs.statement.Legality.{breaks_l7, c_has_source, d_has_sink, each_below, is_aligned, is_full_mask}
use Rattle.tl_rules.specs.statement.Legality.{is_one_of, is_part_mask}
use Rattle.tl_rules.specs.statement.Liberties.{breaks_l2_under, breaks_l6_under, illegal_under}

-- a test that need not hold
either-kept : (free : Bool) (a b : Bool) → (free ≡ false → a ≡ b) → (free || a) ≡ (free || b)
either-kept true a b e = refl
either-kept false a b e = e refl

-- a lane of a message, by the place of its address in a beat of w bytes
abbrev lane_from : ℕ → ℕ → ℕ → ℕ → Bool
lane_from w size place lane =
    if nat_le w (2 ^ size) then nat_lt lane w else nat_le place lane && nat_lt lane (place + 2 ^ size)

one-of-two : (size : ℕ) → is_one_of size (2 ∷ 3 ∷ []) ≡ true → size ≤ 6
one-of-two size e = grind (arith, nat_tests)

block-small : (size : ℕ) → not (size == 6) ≡ false → size ≤ 6
block-small size e = let six = eqb-true size 6 (not-false (size == 6) e) in omega (arith, six)

module _ (l : Liberties) (r : Renaming) (faithful : IsFaithful l r) where
  zero-source : l.ids ≡ false → (s : ℕ) → (r.source s == 0) ≡ (s == 0)
  zero-source fixed s = ap (λ z. r.source s == z) (sym (faithful.zero_source fixed)) ∙ source-test l r faithful s 0

  zero-sink : l.sinks ≡ false → (s : ℕ) → (r.sink s == 0) ≡ (s == 0)
  zero-sink fixed s = ap (λ z. r.sink s == z) (sym (faithful.zero_sink fixed)) ∙ sink-test l r faithful s 0

  c-source-kept : (opcode : OpC) (s : ℕ) → l.ids ≡ false → c_has_source opcode (r.source s) ≡ c_has_source opcode s
  c-source-kept OpC.ProbeAck s fixed = zero-source fixed s
  c-source-kept OpC.ProbeAckData s fixed = zero-source fixed s
  c-source-kept _ s fixed = refl

  d-sink-kept : (opcode : OpD) (s : ℕ) → l.sinks ≡ false → d_has_sink opcode (r.sink s) ≡ d_has_sink opcode s
  d-sink-kept OpD.Grant s fixed = refl
  d-sink-kept OpD.GrantData s fixed = refl
  d-sink-kept OpD.AccessAck s fixed = zero-sink fixed s
  d-sink-kept OpD.AccessAckData s fixed = zero-sink fixed s
  d-sink-kept OpD.HintAck s fixed = zero-sink fixed s
  d-sink-kept OpD.ReleaseAck s fixed = zero-sink fixed s

  aligned-kept : (address size : ℕ) → size ≤ 6 → is_aligned (renamed_address r address) size ≡ is_aligned address size
  aligned-kept address size le = ap (λ m. m == 0) (kept-modulo r.block address size le)

module _ {w : ℕ} (l : Liberties) (r : Renaming) (faithful : IsFaithful l r) where
  l1-kept : (level : Level) (ch : Channel) (x : Beat w) → breaks_l1 level ch (renamed r x) ≡ breaks_l1 level ch x
  l1-kept level Channel.A (A x) = refl
  l1-kept level Channel.B (B x) = refl
  l1-kept level Channel.C (C x) = refl
  l1-kept level Channel.D (D x) = refl
  l1-kept level Channel.E (E x) = refl
  l1-kept level _ _ = refl

  l7-kept : (x : Beat w) → breaks_l7 (renamed r x) ≡ breaks_l7 x
  l7-kept (A x) = refl
  l7-kept (B x) = refl
  l7-kept (C x) = refl
  l7-kept (D x) = refl
  l7-kept (E x) = refl

  -- ---- L2

  l2-kept : (x : Beat w) → breaks_l2_under l (renamed r x) ≡ breaks_l2_under l x
  l2-kept (A x) = refl
  l2-kept (B x) = rw (either-kept l.ids (r.source x.source == 0) (x.source == 0) (λ fixed. zero-source l r faithful fixed x.source))
      refl
  l2-kept (C x) = rw (either-kept l.ids (c_has_source x.opcode (r.source x.source)) (c_has_source x.opcode x.source)
      (c-source-kept l r faithful x.opcode x.source)) refl
  l2-kept (D x) = rw (either-kept l.sinks (d_has_sink x.opcode (r.sink x.sink)) (d_has_sink x.opcode x.sink)
      (d-sink-kept l r faithful x.opcode x.sink)) refl
  l2-kept (E x) = refl

  l3-kept : (level : Level) (x : Beat w) → breaks_l3 level (renamed r x) ≡ breaks_l3 level x
  l3-kept level (A x) = refl
  l3-kept level (B x) = refl
  l3-kept level (C x) = refl
  l3-kept level (D x) = refl
  l3-kept level (E x) = refl

  l6-kept : (x : Beat w) → breaks_l6_under l (renamed r x) ≡ breaks_l6_under l x
  l6-kept (A x) = refl
  l6-kept (B x) = refl
  l6-kept (C x) = refl
  l6-kept (D x) = refl
  l6-kept (E x) = refl

  -- ---- L4: where L3 isn't broken, the size is that of a block at most

  a-small : IsWidth w → (level : Level) (opcode : OpA) (size : ℕ) → a_has_size w level opcode size ≡ true → size ≤ 6
  a-small width level OpA.ArithmeticData size e = one-of-two size e
  a-small width level OpA.LogicalData size e = one-of-two size e
  a-small width level OpA.AcquireBlock size e = let six = eqb-true size 6 e in omega (arith, six)
  a-small width level OpA.AcquirePerm size e = let six = eqb-true size 6 e in omega (arith, six)
  a-small width level OpA.PutFullData size e = access-small w size level width e
  a-small width level OpA.PutPartialData size e = access-small w size level width e
  a-small width level OpA.Get size e = access-small w size level width e
  a-small width level OpA.Intent size e = access-small w size level width e

  l4-kept : IsWidth w → (level : Level) (x : Beat w) → breaks_l3 level x ≡ false
      → breaks_l4 (renamed r x) ≡ breaks_l4 x
  l4-kept width level (A x) e = ap not (aligned-kept l r faithful x.address x.size
      (a-small width level x.opcode x.size (not-false (a_has_size w level x.opcode x.size) e)))
  l4-kept width level (B x) e = ap not (aligned-kept l r faithful x.address x.size (block-small x.size e))
  l4-kept width level (C x) e = ap not (aligned-kept l r faithful x.address x.size (block-small x.size e))
  l4-kept width level (D x) e = refl
  l4-kept width level (E x) e = refl

  -- ---- L5: an address has the same place in a beat

  same-place : IsWidth w → (address : ℕ) → renamed_address r address % w ≡ address % w
  same-place width address = elim width [
    | inl e ↦ rw e (kept-modulo r.block address 2 (omega arith))
    | inr more ↦ elim more [
      | inl e ↦ rw e (kept-modulo r.block address 3 (omega arith))
      | inr e ↦ rw e (kept-modulo r.block address 4 (omega arith))
    ]
  ]

  full-mask-kept : IsWidth w → (size address mask : ℕ)
      → is_full_mask w size (renamed_address r address) mask ≡ is_full_mask w size address mask
  full-mask-kept width size address mask =
      ap (λ place. each_below 16 (λ lane. beq (bit mask lane) (lane_from w size place lane))) (same-place width address)

  part-mask-kept : IsWidth w → (size address mask : ℕ)
      → is_part_mask w size (renamed_address r address) mask ≡ is_part_mask w size address mask
  part-mask-kept width size address mask =
      ap (λ place. each_below 16 (λ lane. not (bit mask lane) || lane_from w size place lane)) (same-place width address)

  a-mask-kept : IsWidth w → (opcode : OpA) (size address mask : ℕ)
      → a_has_mask w opcode size (renamed_address r address) mask ≡ a_has_mask w opcode size address mask
  a-mask-kept width OpA.PutPartialData size address mask = part-mask-kept width size address mask
  a-mask-kept width _ size address mask = full-mask-kept width size address mask

  l5-kept : IsWidth w → (x : Beat w) → breaks_l5 (renamed r x) ≡ breaks_l5 x
  l5-kept width (A x) = ap not (a-mask-kept width x.opcode x.size x.address x.mask)
  l5-kept width (B x) = ap not (full-mask-kept width x.size x.address x.mask)
  l5-kept width (C x) = refl
  l5-kept width (D x) = refl
  l5-kept width (E x) = refl

  -- ---- all

  pub legal-kept : IsWidth w → (level : Level) (ch : Channel) (x : Beat w)
      → illegal_under l level ch (renamed r x) ≡ illegal_under l level ch x
  unfolding illegal_under
  legal-kept width level ch x =
      rw (l1-kept level ch x, l7-kept x, l2-kept x, l3-kept level x, l5-kept width x, l6-kept x)
      (same (breaks_l1 level ch x) L1 _ _ (λ one. same (breaks_l7 x) L7 _ _ (λ seven. same (breaks_l2_under l x) L2 _ _
      (λ two. same (breaks_l3 level x) L3 _ _ (λ three. rw (l4-kept width level x three) refl)))))
    where
      same : (b : Bool) (rule : Rule) (rest others : Option Rule) → (b ≡ false → rest ≡ others)
          → first_if b rule rest ≡ first_if b rule others
      same true rule rest others f = refl
      same false rule rest others f = f refl
