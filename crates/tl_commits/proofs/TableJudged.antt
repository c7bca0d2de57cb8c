-- The values of all blocks, with one more event.
use Rattle.std.proofs.Common.{◌≡◌, ◌<◌, ◌+◌, ◌*◌, ◌&&◌, ℕ, Bool, true, false, ◌∷◌, refl, sym, ap, subst, ◌∙◌, inl, inr}
use Rattle.std.specs.Prelude.{if◌then◌else◌, ◌==◌, Option, Some, None, is_some}
use Rattle.std.proofs.lemmas.Bool.{cases_Bool, eq-eqb, eqb-true}
use Rattle.tl_beat.specs.declared.beat.Beat.{Beat}
use Rattle.tl_beat.specs.declared.beat.BeatC.{BeatC}
use Rattle.tl_beat.specs.declared.beat.Link.{Link}
use Rattle.tl_burst.specs.statement.Messages.{History}
use Rattle.tl_rules.specs.statement.History.{block_at}
use Rattle.tl_memory.specs.code.Elsewhere.{block_borne}
use Rattle.tl_memory.specs.declared.byte_change.ByteChange.{ByteChange}
use Rattle.tl_memory.specs.statement.ByteChanges.{AreByteChanges, IsByteChange}
use Rattle.tl_commits.specs.code.BlockValues.{KnowsValues}
use Rattle.tl_commits.specs.code.GivingUp.{answers_nothing, leaves_trunk}
use Rattle.tl_commits.specs.code.ValueTable.{AreFirstKept, has_own, IsFirstTable, IsFresh, IsNext, KnowsKept}
use Rattle.tl_commits.specs.code.ValueTable.{KnowsTable, or_first, own_in}
use Rattle.tl_commits.specs.code.ValueTable.{Table, values_in}
use Rattle.tl_commits.specs.declared.block_values.BlockValues.{BlockValues}
use Rattle.tl_events.specs.declared.commit.Commit.TheVariants as commit
use Rattle.tl_events.specs.declared.commit.Piece.{Piece}
use Rattle.tl_events.specs.declared.commit.Event.{Event}
use Rattle.tl_events.specs.declared.commit.Event.TheVariants as event
use Rattle.tl_commits.specs.statement.Completeness.{Completeness}
use Rattle.tl_commits.specs.statement.Copies.{link_beats}
use Rattle.tl_commits.specs.statement.Events.{Events}
unfoldable use Rattle.tl_commits.specs.statement.Events.{beats_of}
use Rattle.tl_commits.specs.statement.Seen.{asks_nothing, first_values, is_plain_ack, loses_stores, Seen, unseen}
use Rattle.tl_bytes.specs.statement.Known.{tellings_at}
use Rattle.tl_commits.specs.code.Tellings.{is_in}
unfoldable use Rattle.tl_commits.specs.statement.Seen.{memory_may, seen}
use Rattle.tl_rules.specs.statement.OpenMessages.{open_probe}
use Rattle.tl_commits.proofs.ValuesJudged.{and-none, memory-kept, seen-kept, values-kept}
use Rattle.std.proofs.Common.{[], arith, zero, suc}
use Rattle.tl_rules.specs.statement.Legality.{each_below}
use Rattle.tl_bytes.specs.statement.Bytes.{told_as}
use Rattle.tl_commits.specs.statement.Seen.{values_seen}
use Rattle.tl_commits.specs.code.Judging.{HasPut}
use Rattle.tl_commits.specs.code.ValueTable.{IsUntouched}
use Rattle.tl_commits.specs.statement.Commits.{is_clean, is_kept}

same-some : {X : Type 0} {a b : X} → Some a ≡ Some b → a ≡ b
same-some e = cc

no : {X : Type 0} → true ≡ false → X
no e = absurd cc

-- ---- stores that a beat loses

-- they are of the block that it concerns
pub loses-apart : {w : ℕ} (own block : ℕ) (x : Beat w) (past : History w) → block_borne x past ≡ Some own
    → (block == own) ≡ false → loses_stores block x past ≡ false
loses-apart own block (Beat.C y) past borne apart = elim (cases_Bool (block_at y.address == block)) [
  | inl here ↦ no (sym (eq-eqb block own (sym (eqb-true (block_at y.address) block here) ∙ same-some borne)) ∙ apart)
  | inr other ↦ rw other (none _ _)
]
  where
    none : (a b : Bool) → ((a && false) && b) ≡ false
    none true b = refl
    none false b = refl
loses-apart own block (Beat.A y) past borne apart = refl
loses-apart own block (Beat.B y) past borne apart = refl
loses-apart own block (Beat.D y) past borne apart = refl
loses-apart own block (Beat.E y) past borne apart = refl

-- if it concerns none, there are none
pub loses-none : {w : ℕ} (block : ℕ) (x : Beat w) (past : History w) → block_borne x past ≡ None
    → loses_stores block x past ≡ false
loses-none block (Beat.C y) past borne = absurd cc
loses-none block (Beat.A y) past borne = refl
loses-none block (Beat.B y) past borne = refl
loses-none block (Beat.D y) past borne = refl
loses-none block (Beat.E y) past borne = refl

pub loses-own : {w : ℕ} (own : ℕ) (y : BeatC w) (past : History w) (lost : Bool)
    → lost ≡ (answers_nothing y past && leaves_trunk y past) → Some (block_at y.address) ≡ Some own
    → lost ≡ loses_stores own (Beat.C y) past
loses-own own y past lost is here =
    is ∙ rw (← same-some here, eq-eqb (block_at y.address) (block_at y.address) refl) (go (is_plain_ack y.opcode)
    (asks_nothing (open_probe (block_at y.address) past)) (leaves_trunk y past))
  where
    go : (a b c : Bool) → ((a && b) && c) ≡ ((a && true) && (b && c))
    go true true c = refl
    go true false c = refl
    go false b c = refl

-- ---- the values of a block that a beat doesn't change

pub kept-apart : {w : ℕ} (o : Option BlockValues) (complete : Completeness) (n block : ℕ) (x : Link × Beat w)
    (e : Events w)
    → KnowsKept o complete n block e → IsByteChange ByteChange.Same n block x (beats_of e)
    → loses_stores block x.1 (link_beats x.0.0 e) ≡ false
    → KnowsKept o complete n block ((x.0, event.Beat x.1) ∷ e)
kept-apart None complete n block x e k is keeps = λ p lt. (
  seen-kept complete n block p x e lt is.0 (and-none (seen complete n (64 * block + p) e).stored _ keeps)
      ∙ ap (λ v. record { values = v; stored = (seen complete n (64 * block + p) e).stored })
      (is.1 p lt (seen complete n (64 * block + p) e).values) ∙ (k p lt).0,
  memory-kept complete n block p x e lt (rw is.0 refl) ∙ is.1 p lt (memory_may complete.zero n (64 * block + p) (beats_of e))
      ∙ (k p lt).1,
)
kept-apart (Some v) complete n block x e k is keeps =
    values-kept v v complete n block 0 x e k ByteChange.Same is keeps (λ p lt. refl) refl (λ p lt. refl)

-- ---- the values of all blocks

-- a beat that concerns none
pub next-none : {w : ℕ} (table : Table) (complete : Completeness) (n : ℕ) (x : Link × Beat w)
    (e : Events w) → KnowsTable table complete n e → AreByteChanges None n x (beats_of e)
    → KnowsTable table complete n ((x.0, event.Beat x.1) ∷ e)
next-none table complete n x e k is block =
    kept-apart (values_in table block) complete n block x e (k block) (is.1 block)
    (loses-none block x.1 (link_beats x.0.0 e) is.0)

-- or one whose bytes it doesn't change
pub next-same : {w : ℕ} (table : Table) (complete : Completeness) (n own : ℕ) (change : ByteChange)
    (x : Link × Beat w) (e : Events w) → KnowsTable table complete n e → change ≡ ByteChange.Same
    → AreByteChanges (Some (own, change)) n x (beats_of e) → loses_stores own x.1 (link_beats x.0.0 e) ≡ false
    → KnowsTable table complete n ((x.0, event.Beat x.1) ∷ e)
next-same table complete n own change x e k same is keeps block = elim (cases_Bool (block == own)) [
  | inl here ↦ subst (λ b. KnowsKept (values_in table b) complete n b ((x.0, event.Beat x.1) ∷ e))
      (sym (eqb-true block own here))
      (kept-apart (values_in table own) complete n own x e (k own)
      (subst (λ c. IsByteChange c n own x (beats_of e)) same is.1) keeps)
  | inr apart ↦ kept-apart (values_in table block) complete n block x e (k block) (is.2 block apart)
      (loses-apart own block x.1 (link_beats x.0.0 e) is.0 apart)
]

-- or one whose bytes it changes
pub next-some : {w : ℕ} (table : Table) (complete : Completeness) (n own : ℕ) (change : ByteChange)
    (v : BlockValues) (x : Link × Beat w) (e : Events w) → KnowsTable table complete n e
    → has_own table own ≡ true
    → AreByteChanges (Some (own, change)) n x (beats_of e)
    → KnowsValues v complete n own ((x.0, event.Beat x.1) ∷ e)
    → IsNext (Some (own, v)) table complete n (x.0, event.Beat x.1) e
next-some table complete n own change v x e k there is known = (
  there,
  known,
  λ block apart. kept-apart (values_in table block) complete n block x e (k block) (is.2 block apart)
      (loses-apart own block x.1 (link_beats x.0.0 e) is.0 apart),
)

-- the values that are kept of a block are known
pub kept-known : {w : ℕ} (table : Table) (complete : Completeness) (n block : ℕ) (v : BlockValues)
    (e : Events w) → KnowsTable table complete n e → Some v ≡ values_in table block
    → KnowsValues v complete n block e
kept-known table complete n block v e k there = go (values_in table block) there (k block)
  where
    go : (o : Option BlockValues) → Some v ≡ o → KnowsKept o complete n block e → KnowsValues v complete n block e
    go None e known = absurd cc
    go (Some u) e known = rw (same-some e) known

-- values of a block's own are its values
pub own-kept : (table : Table) (block : ℕ) (v : BlockValues) → own_in table block ≡ Some v
    → Some v ≡ values_in table block
own-kept table block v there = sym (ap (λ o. or_first o table.first) there)

-- a block gets values of its own that say what those before it say
pub fresh-known : {w : ℕ} (first : Option BlockValues) (v : BlockValues) (complete : Completeness) (n block : ℕ)
    (e : Events w) → IsFresh first v → KnowsKept first complete n block e → KnowsValues v complete n block e
fresh-known None v complete n block e fresh k = record {
  seen_is = λ p lt. (fresh p lt).0 ∙ ap (λ (s : Seen). s.values) (sym (k p lt).0);
  stored_is = λ p lt. (fresh p lt).1 ∙ ap (λ (s : Seen). s.stored) (sym (k p lt).0);
  memory_is = λ p lt. (fresh p lt).2 ∙ sym (k p lt).1;
}
fresh-known (Some first) v complete n block e same k = record {
  seen_is = λ p lt. ap (tellings_at p) same.seen_is ∙ k.seen_is p lt;
  stored_is = λ p lt. ap (λ l. is_in l p) same.stored_is ∙ k.stored_is p lt;
  memory_is = λ p lt. ap (tellings_at p) same.memory_is ∙ k.memory_is p lt;
}

pub table-fresh : {w : ℕ} (old new : Table) (complete : Completeness) (n block : ℕ) (v : BlockValues) (e : Events w)
    → KnowsTable old complete n e → own_in old block ≡ None → IsFresh old.first v → new.first ≡ old.first
    → ((k : ℕ) → own_in new k ≡ (if k == block then Some v else own_in old k)) → KnowsTable new complete n e
table-fresh old new complete n block v e k none fresh same own key = elim (cases_Bool (key == block)) [
  | inl here ↦
      let at = eqb-true key block here in
      rw (own key, here) (rw at (fresh-known old.first v complete n block e fresh
      (subst (λ o. KnowsKept (or_first o old.first) complete n block e) none (k block))))
  | inr apart ↦ rw (own key, apart, same) (k key)
]

-- no block gets any
pub table-same : {w : ℕ} (old new : Table) (complete : Completeness) (n : ℕ) (e : Events w)
    → KnowsTable old complete n e → new.first ≡ old.first → ((k : ℕ) → own_in new k ≡ own_in old k)
    → KnowsTable new complete n e
table-same old new complete n e k same own key = rw (own key, same) (k key)

-- if there are some
pub kept-there : {X : Type 0} (o : Option BlockValues) → is_some o ≡ true → None ≡ o → X
kept-there None some none = no (sym some)
kept-there (Some v) some none = absurd cc

-- the values of one block are replaced
pub next-put : {w : ℕ} (old new : Table) (complete : Completeness) (n own : ℕ) (v : BlockValues)
    (x : Link × Event w) (e : Events w) → IsNext (Some (own, v)) old complete n x e
    → ((k : ℕ) → values_in new k ≡ (if k == own then Some v else values_in old k)) → KnowsTable new complete n (x ∷ e)
next-put old new complete n own v x e is put block = elim (cases_Bool (block == own)) [
  | inl here ↦
      let same = eqb-true block own here in
      rw (put block, here) (rw same is.1)
  | inr apart ↦ rw (put block, apart) (is.2 block apart)
]

-- ---- stored bytes that memory may have

-- none of a block without values was stored
each-passes : (count : ℕ) (test : ℕ → Bool) → ((i : ℕ) → i < count → test i ≡ true) → each_below count test ≡ true
unfolding each_below
each-passes zero test passes = refl
each-passes (suc count) test passes =
    rw (passes count (omega arith), each-passes count test (λ i lt. passes i (omega (arith, lt)))) refl

pub untouched-clean : {w : ℕ} (complete : Completeness) (n block : ℕ) (e : Events w) → IsUntouched complete n block e
    → true ≡ is_clean complete n block e
untouched-clean complete n block e k =
    sym (each-passes 64 (λ place. is_kept complete n (64 * block + place) e) (λ p lt. rw ((k p lt).0) refl))

-- before the trace no block has values of its own
pub table-first : (w : ℕ) (table : Table) (complete : Completeness) (n : ℕ) → IsFirstTable table complete.zero
    → KnowsTable {w = w} table complete n []
unfolding seen memory_may beats_of
table-first w table complete n is block = rw is.none (go table.first is.first_are)
  where
    go : (o : Option BlockValues) → AreFirstKept o complete.zero → KnowsKept {w = w} o complete n block []
    go None none = λ p lt. (ap unseen none, ap first_values none)
    go (Some v) first = record {
      seen_is = λ p lt. (first p lt).0;
      stored_is = λ p lt. (first p lt).1;
      memory_is = λ p lt. (first p lt).2;
    }

-- with the values of one block, or of none
pub table-recorded : {w : ℕ} (old new : Table) (complete : Completeness) (n : ℕ)
    (next : Option (ℕ × BlockValues)) (x : Link × Event w) (e : Events w) → HasPut old new next
    → IsNext next old complete n x e → KnowsTable new complete n (x ∷ e)
table-recorded old new complete n None x e put is = rw put is
table-recorded old new complete n (Some (own, v)) x e put is = next-put old new complete n own v x e is (put is.0)

-- the beginning of a load changes none
pub table-begun : {w : ℕ} (table : Table) (complete : Completeness) (n : ℕ) (link : Link)
    (piece : Piece) (e : Events w) → KnowsTable table complete n e
    → KnowsTable table complete n ((link, event.Commit (commit.Begin piece)) ∷ e)
unfolding seen beats_of
table-begun table complete n link piece e k block = go (values_in table block) (k block)
  where
    go : (o : Option BlockValues) → KnowsKept o complete n block e
        → KnowsKept o complete n block ((link, event.Commit (commit.Begin piece)) ∷ e)
    go None known = λ p lt. ((known p lt).0, (known p lt).1)
    go (Some v) known = record { seen_is = known.seen_is; stored_is = known.stored_is; memory_is = known.memory_is }

-- a byte of a block without values may be any
pub untouched-seen : {w : ℕ} (complete : Completeness) (n block p v : ℕ) (e : Events w) → IsUntouched complete n block e
    → p < 64 → true ≡ told_as v (values_seen complete n (64 * block + p) e)
untouched-seen complete n block p v e k lt = ap (λ (s : Seen). told_as v s.values) (sym (k p lt).0)
