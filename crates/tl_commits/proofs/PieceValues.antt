-- The values of a block after a store or a load.
use Rattle.std.proofs.Common.{◌≡◌, ◌<◌, ◌≤◌, ◌+◌, ◌-◌, ◌*◌, ◌/◌, ◌%◌, ◌^◌, ◌&&◌, ◌||◌, ℕ, zero, suc, Bool, true, false, not}
use Rattle.std.proofs.Common.{List, [], ◌∷◌, length, refl, sym, ap, ap₂, ◌∙◌, arith, inl, inr}
use Rattle.std.specs.Prelude.{nat_le, nat_lt, ◌==◌, Option, Some, None, is_some}
use Rattle.std.proofs.lemmas.Bool.{and_parts, cases_Bool, eqb-false, eqb-true, leb-true, ltb-true}
use Rattle.tl_beat.specs.declared.beat.Link.{Link}
use Rattle.tl_burst.specs.statement.Burst.{reaches}
use Rattle.tl_rules.specs.statement.History.{block_at}
use Rattle.tl_bytes.specs.code.Tellings.{is_written}
use Rattle.tl_bytes.specs.declared.write.Write.{Write}
use Rattle.tl_commits.specs.code.BlockValues.{IsLoaded, IsPieceWrite, IsStored, KnowsValues, says_piece}
use Rattle.tl_commits.specs.code.Tellings.{is_in, with_set}
use Rattle.tl_commits.specs.code.ValueTable.{has_own, IsChanged, IsNext, KnowsKept, KnowsTable, Table, values_in}
use Rattle.tl_commits.specs.declared.block_values.BlockValues.{BlockValues}
use Rattle.tl_events.specs.declared.commit.Commit.TheVariants as commit
use Rattle.tl_events.specs.declared.commit.Event.TheVariants as event
use Rattle.tl_events.specs.declared.commit.Event.{Event}
use Rattle.tl_events.specs.declared.commit.Piece.{Piece}
use Rattle.tl_events.specs.statement.CommitLine.{IsPiece}
use Rattle.tl_commits.specs.statement.Completeness.{Completeness}
use Rattle.tl_commits.specs.statement.Copies.{brought, is_known, link_beats}
use Rattle.tl_commits.specs.statement.Events.{Events, is_loading}
unfoldable use Rattle.tl_commits.specs.statement.Events.{beats_of}
use Rattle.tl_commits.specs.statement.Seen.{says_byte, Seen, told_now}
unfoldable use Rattle.tl_commits.specs.statement.Seen.{memory_may, seen}
use Rattle.tl_commits.proofs.Pieces.{most-bytes}
use Rattle.tl_commits.proofs.TableJudged.{kept-known, own-kept, next-put}
use Rattle.tl_commits.proofs.ValuesJudged.{block-of}
unfoldable use Rattle.tl_bytes.specs.statement.Known.{tellings_at}

-- ---- the block of a piece

-- a small piece lies in one block
inside : (size address x : ℕ) → size ≤ 3 → address % 2 ^ size ≡ 0 → address ≤ x → x < address + 2 ^ size
    → x / 64 ≡ address / 64
inside zero address x le even from to = omega (arith, even, from, to)
inside (suc zero) address x le even from to = omega (arith, even, from, to)
inside (suc (suc zero)) address x le even from to = omega (arith, even, from, to)
inside (suc (suc (suc zero))) address x le even from to = omega (arith, even, from, to)
inside (suc (suc (suc (suc n)))) address x le even from to = absurd (omega (arith, le))

pub piece-inside : (piece : Piece) (x : ℕ) → IsPiece piece → reaches piece.address piece.size x ≡ true
    → block_at x ≡ block_at piece.address
piece-inside piece x is on =
    let both = and_parts (nat_le piece.address x) (nat_lt x (piece.address + 2 ^ piece.size)) on in
    inside piece.size piece.address x is.small (eqb-true (piece.address % 2 ^ piece.size) 0 is.aligned)
    (leb-true piece.address x both.0) (ltb-true x (piece.address + 2 ^ piece.size) both.1)

-- the place of one of its bytes, from its first on
pub piece-place : (piece : Piece) (place first : ℕ) → IsPiece piece → first ≡ piece.address % 64
    → reaches piece.address piece.size (64 * block_at piece.address + place) ≡ true
    → (place - first ≡ 64 * block_at piece.address + place - piece.address) × (place - first < 8)
piece-place piece place first is first_is on =
    let x = 64 * block_at piece.address + place in
    let both = and_parts (nat_le piece.address x) (nat_lt x (piece.address + 2 ^ piece.size)) on in
    let from = leb-true piece.address x both.0 in
    let to = ltb-true x (piece.address + 2 ^ piece.size) both.1 in
    let few = most-bytes piece.size is.small in
    (omega (arith, first_is, from), omega (arith, first_is, from, to, few))

-- its bytes lie within a block
pub piece-room : (piece : Piece) (i : ℕ) → IsPiece piece → i < 2 ^ piece.size → piece.address % 64 + i < 64
piece-room piece i is few = go piece.size is.small (eqb-true (piece.address % 2 ^ piece.size) 0 is.aligned) few
  where
    go : (size : ℕ) → size ≤ 3 → piece.address % 2 ^ size ≡ 0 → i < 2 ^ size → piece.address % 64 + i < 64
    go zero le even lt = omega (arith, even, lt)
    go (suc zero) le even lt = omega (arith, even, lt)
    go (suc (suc zero)) le even lt = omega (arith, even, lt)
    go (suc (suc (suc zero))) le even lt = omega (arith, even, lt)
    go (suc (suc (suc (suc m)))) le even lt = absurd (omega (arith, le))

-- it reaches no byte of another block
pub piece-apart : (piece : Piece) (block p : ℕ) → IsPiece piece → p < 64 → (block == block_at piece.address) ≡ false
    → reaches piece.address piece.size (64 * block + p) ≡ false
piece-apart piece block p is lt apart =
    elim (cases_Bool (reaches piece.address piece.size (64 * block + p))) [
      | inr off ↦ off
      | inl on ↦ absurd (eqb-false block (block_at piece.address) apart
          (sym (block-of block p lt) ∙ piece-inside piece (64 * block + p) is on))
    ]

-- ---- a store

module _ {w : ℕ} (complete : Completeness) (n : ℕ) (link : Link) (piece : Piece) (value : ℕ) (e : Events w) where
  abbrev pub stores : Link × Event w
  stores = (link, event.Commit (commit.Store piece value))

  seen-stored : (address : ℕ) → reaches piece.address piece.size address ≡ true
      → seen complete n address (stores ∷ e)
      ≡ record { values = told_now piece value address (length (beats_of e)); stored = true }
  unfolding seen
  seen-stored address on = rw on refl

  seen-unstored : (address : ℕ) → reaches piece.address piece.size address ≡ false
      → seen complete n address (stores ∷ e) ≡ seen complete n address e
  unfolding seen
  seen-unstored address off = rw off refl

  pub values-stored : (old new : BlockValues) (write : Write) (moment : ℕ) → IsPieceWrite write piece value
      → IsStored old new write moment → moment ≡ length (beats_of e)
      → KnowsValues old complete n (block_at piece.address) e
      → KnowsValues new complete n (block_at piece.address) (stores ∷ e)
  unfolding beats_of
  values-stored old new write moment writes is now k = record {
    seen_is = λ p lt. is.seen_is p lt ∙ told p lt (is_written write p) refl;
    stored_is = λ p lt. is.stored_is p lt ∙ there p lt (is_written write p) refl;
    memory_is = λ p lt. ap (tellings_at p) is.memory_is ∙ k.memory_is p lt;
  }
    where
      here : ℕ → ℕ
      here p = 64 * block_at piece.address + p

      told : (p : ℕ) → p < 64 → (b : Bool) → is_written write p ≡ b
          → with_set b write moment p (tellings_at p old.seen.items) ≡ (seen complete n (here p) (stores ∷ e)).values
      told p lt true on =
          ap₂ (λ v m. record { value = v; moment = m } ∷ []) ((writes p lt).1 on) now
          ∙ ap (λ (s : Seen). s.values) (sym (seen-stored (here p) (sym (writes p lt).0 ∙ on)))
      told p lt false off =
          k.seen_is p lt ∙ ap (λ (s : Seen). s.values) (sym (seen-unstored (here p) (sym (writes p lt).0 ∙ off)))

      there : (p : ℕ) → p < 64 → (b : Bool) → is_written write p ≡ b
          → (is_in old.stored p || is_written write p) ≡ (seen complete n (here p) (stores ∷ e)).stored
      there p lt true on =
          ap (λ b. is_in old.stored p || b) on ∙ or-true (is_in old.stored p)
          ∙ ap (λ (s : Seen). s.stored) (sym (seen-stored (here p) (sym (writes p lt).0 ∙ on)))
        where
          or-true : (b : Bool) → (b || true) ≡ true
          or-true true = refl
          or-true false = refl
      there p lt false off =
          ap (λ b. is_in old.stored p || b) off ∙ or-false (is_in old.stored p) ∙ k.stored_is p lt
          ∙ ap (λ (s : Seen). s.stored) (sym (seen-unstored (here p) (sym (writes p lt).0 ∙ off)))
        where
          or-false : (b : Bool) → (b || false) ≡ b
          or-false true = refl
          or-false false = refl

  -- the bytes of another block stay
  kept-stored : (o : Option BlockValues) (block : ℕ) → IsPiece piece → (block == block_at piece.address) ≡ false
      → KnowsKept o complete n block e → KnowsKept o complete n block (stores ∷ e)
  unfolding beats_of
  kept-stored None block is apart k = λ p lt. (
    seen-unstored (64 * block + p) (piece-apart piece block p is lt apart) ∙ (k p lt).0,
    (k p lt).1,
  )
  kept-stored (Some v) block is apart k = record {
    seen_is = λ p lt. k.seen_is p lt ∙ ap (λ (s : Seen). s.values) (sym (same p lt));
    stored_is = λ p lt. k.stored_is p lt ∙ ap (λ (s : Seen). s.stored) (sym (same p lt));
    memory_is = k.memory_is;
  }
    where
      same : (p : ℕ) → p < 64
          → seen complete n (64 * block + p) (stores ∷ e) ≡ seen complete n (64 * block + p) e
      same p lt = seen-unstored (64 * block + p) (piece-apart piece block p is lt apart)

  pub next-stored : (table : Table) (v : BlockValues) → IsPiece piece
      → KnowsTable table complete n e → has_own table (block_at piece.address) ≡ true
      → KnowsValues v complete n (block_at piece.address) (stores ∷ e)
      → IsNext (Some (block_at piece.address, v)) table complete n stores e
  next-stored table v is k there known = (
    there,
    known,
    λ block apart. kept-stored (values_in table block) block is apart (k block),
  )

  -- the values of its block change so
  pub table-stored : (old new : Table) (write : Write) (moment : ℕ) → IsPiece piece
      → KnowsTable old complete n e → IsPieceWrite write piece value → moment ≡ length (beats_of e)
      → IsChanged (λ v v'. IsStored v v' write moment) (block_at piece.address) old new
      → KnowsTable new complete n (stores ∷ e)
  table-stored old new write moment is k writes now change =
      let block = block_at piece.address in
      let kept = kept-known old complete n block change.was e k (own-kept old block change.was change.there) in
      next-put old new complete n block change.now stores e
      (next-stored old change.now is k (rw change.there refl)
      (values-stored change.was change.now write moment writes change.changes now kept)) change.others

-- ---- a load

module _ {w : ℕ} (complete : Completeness) (n : ℕ) (link : Link) (piece : Piece) (value : ℕ) (e : Events w) where
  abbrev pub loads : Link × Event w
  loads = (link, event.Commit (commit.Load piece value))

  abbrev says : ℕ → Bool
  says address = reaches piece.address piece.size address && says_byte complete link.0 piece address e

  seen-said : (address : ℕ) → says address ≡ true → seen complete n address (loads ∷ e) ≡ record {
    values = told_now piece value address (length (beats_of e));
    stored = (seen complete n address e).stored;
  }
  unfolding seen
  seen-said address on = rw on refl

  seen-unsaid : (address : ℕ) → says address ≡ false
      → seen complete n address (loads ∷ e) ≡ seen complete n address e
  unfolding seen
  seen-unsaid address off = rw off refl

  -- what is kept of a block of which it says nothing
  kept-unsaid : (o : Option BlockValues) (block : ℕ) → ((p : ℕ) → p < 64 → says (64 * block + p) ≡ false)
      → KnowsKept o complete n block e → KnowsKept o complete n block (loads ∷ e)
  unfolding beats_of
  kept-unsaid None block off k = λ p lt. (seen-unsaid (64 * block + p) (off p lt) ∙ (k p lt).0, (k p lt).1)
  kept-unsaid (Some v) block off k = record {
    seen_is = λ p lt. k.seen_is p lt ∙ ap (λ (s : Seen). s.values) (sym (seen-unsaid (64 * block + p) (off p lt)));
    stored_is = λ p lt. k.stored_is p lt ∙ ap (λ (s : Seen). s.stored) (sym (seen-unsaid (64 * block + p) (off p lt)));
    memory_is = k.memory_is;
  }

  -- one that says nothing changes nothing
  pub table-unsaid : (table : Table) → says_piece complete link.0 piece e ≡ false → IsPiece piece
      → KnowsTable table complete n e → KnowsTable table complete n (loads ∷ e)
  table-unsaid table off is k block = kept-unsaid (values_in table block) block silent (k block)
    where
      none : (r l b y : Bool) → (l && y) ≡ false → (r && (l && (b && y))) ≡ false
      none true true true y f = f
      none true true false y f = refl
      none true false b y f = refl
      none false l b y f = refl

      silent : (p : ℕ) → p < 64 → says (64 * block + p) ≡ false
      silent p lt = elim (cases_Bool (reaches piece.address piece.size (64 * block + p))) [
        | inr other ↦ rw other refl
        | inl on ↦ none _ _ (not (is_some (brought (64 * block + p) (link_beats link.0 e)))) _
            (rw (piece-inside piece (64 * block + p) is on) off)
      ]

  -- one that says bytes sets them
  module _ (old new : BlockValues) (places : List Bool) (write : Write) (moment : ℕ)
      (on : says_piece complete link.0 piece e ≡ true) (writes : IsPieceWrite write piece value)
      (there : (p : ℕ) → p < 64 → is_in places p ≡ (is_written write p
      && not (is_some (brought (64 * block_at piece.address + p) (link_beats link.0 e))))) where
    abbrev here : ℕ → ℕ
    here p = 64 * block_at piece.address + p

    -- these are the bytes that it says
    says-place : (p : ℕ) → p < 64 → is_in places p ≡ says (here p)
    says-place p lt =
        let past = link_beats link.0 e in
        let r = reaches piece.address piece.size (here p) in
        let l = not (is_loading link.0 piece e) in
        let b = not (is_some (brought (here p) past)) in
        there p lt ∙ ap (λ v. v && b) (writes p lt).0
        ∙ go r l b (is_known complete link.0 (block_at piece.address) past) on
        ∙ ap (λ k. r && (l && (b && is_known complete link.0 k past))) (sym (block-of (block_at piece.address) p lt))
      where
        go : (r l b y : Bool) → (l && y) ≡ true → (r && b) ≡ (r && (l && (b && y)))
        go true true true true f = refl
        go true true false true f = refl
        go false true b true f = refl
        go r true b false f = absurd cc
        go r false b y f = absurd cc

    pub values-loaded : IsLoaded old new places write moment → moment ≡ length (beats_of e)
        → KnowsValues old complete n (block_at piece.address) e
        → KnowsValues new complete n (block_at piece.address) (loads ∷ e)
    unfolding beats_of seen
    values-loaded is now k = record {
      seen_is = λ p lt. is.seen_is p lt ∙ told p lt (is_in places p) refl;
      stored_is = λ p lt. ap (λ l. is_in l p) is.stored_is ∙ k.stored_is p lt ∙ stays p lt (is_in places p) refl;
      memory_is = λ p lt. ap (tellings_at p) is.memory_is ∙ k.memory_is p lt;
    }
      where
        told : (p : ℕ) → p < 64 → (b : Bool) → is_in places p ≡ b
            → with_set b write moment p (tellings_at p old.seen.items) ≡ (seen complete n (here p) (loads ∷ e)).values
        told p lt true set =
            ap₂ (λ v m. record { value = v; moment = m } ∷ [])
            ((writes p lt).1 ((and_parts (is_written write p) _ (sym (there p lt) ∙ set)).0)) now
            ∙ ap (λ (s : Seen). s.values) (sym (seen-said (here p) (sym (says-place p lt) ∙ set)))
        told p lt false set =
            k.seen_is p lt ∙ ap (λ (s : Seen). s.values) (sym (seen-unsaid (here p) (sym (says-place p lt) ∙ set)))

        stays : (p : ℕ) → p < 64 → (b : Bool) → is_in places p ≡ b
            → (seen complete n (here p) e).stored ≡ (seen complete n (here p) (loads ∷ e)).stored
        stays p lt true set = ap (λ (s : Seen). s.stored) (sym (seen-said (here p) (sym (says-place p lt) ∙ set)))
        stays p lt false set = ap (λ (s : Seen). s.stored) (sym (seen-unsaid (here p) (sym (says-place p lt) ∙ set)))

  pub next-loaded : (table : Table) (v : BlockValues) → IsPiece piece
      → KnowsTable table complete n e → has_own table (block_at piece.address) ≡ true
      → KnowsValues v complete n (block_at piece.address) (loads ∷ e)
      → IsNext (Some (block_at piece.address, v)) table complete n loads e
  next-loaded table v is k there known = (
    there,
    known,
    λ block apart. kept-unsaid (values_in table block) block
        (λ p lt. rw (piece-apart piece block p is lt apart) refl) (k block),
  )

  pub table-loaded : (old new : Table) (places : List Bool) (write : Write) (moment : ℕ) → IsPiece piece
      → says_piece complete link.0 piece e ≡ true → KnowsTable old complete n e → IsPieceWrite write piece value
      → ((p : ℕ) → p < 64 → is_in places p ≡ (is_written write p
      && not (is_some (brought (64 * block_at piece.address + p) (link_beats link.0 e)))))
      → moment ≡ length (beats_of e)
      → IsChanged (λ v v'. IsLoaded v v' places write moment) (block_at piece.address) old new
      → KnowsTable new complete n (loads ∷ e)
  table-loaded old new places write moment is on k writes there now change =
      let block = block_at piece.address in
      let kept = kept-known old complete n block change.was e k (own-kept old block change.was change.there) in
      next-put old new complete n block change.now loads e
      (next-loaded old change.now is k (rw change.there refl)
      (values-loaded change.was change.now places write moment on writes there change.changes now kept)) change.others
