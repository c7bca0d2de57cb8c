-- The values that are kept of a block, with one more event.
use Rattle.std.proofs.Common.{◌≡◌, ◌<◌, ◌+◌, ◌*◌, ◌/◌, ◌%◌, ◌&&◌, ℕ, Bool, true, false, not, List, [], ◌∷◌, length}
use Rattle.std.proofs.Common.{refl, sym, ap, ◌∙◌, arith}
use Rattle.std.specs.Prelude.{if◌then◌else◌}
use Rattle.tl_beat.specs.declared.beat.Beat.{Beat}
use Rattle.tl_beat.specs.declared.beat.Link.{Link}
use Rattle.tl_rules.specs.statement.Conformance.{Trace, on_link}
use Rattle.tl_bytes.specs.declared.known_bytes.KnownBytes.{KnownBytes}
use Rattle.tl_bytes.specs.declared.telling.Telling.{Telling}
use Rattle.tl_bytes.specs.statement.Bytes.{tells}
use Rattle.tl_bytes.specs.statement.KnownBytes.{known_at}
unfoldable use Rattle.tl_bytes.specs.statement.Known.{tellings_at}
use Rattle.tl_memory.specs.declared.byte_change.ByteChange.{ByteChange}
use Rattle.tl_memory.specs.statement.ByteChanges.{after_values, grants_unread, IsByteChange}
use Rattle.tl_commits.specs.code.BlockValues.{changed, KnowsValues, memory_told}
use Rattle.tl_commits.specs.code.Tellings.{is_in}
use Rattle.tl_commits.specs.declared.block_values.BlockValues.{BlockValues}
use Rattle.tl_events.specs.declared.commit.Event.TheVariants as event
use Rattle.tl_commits.specs.statement.Completeness.{Completeness}
use Rattle.tl_commits.specs.statement.Copies.{link_beats}
use Rattle.tl_commits.specs.statement.Events.{Events}
unfoldable use Rattle.tl_commits.specs.statement.Events.{beats_of}
use Rattle.tl_commits.specs.statement.Seen.{loses_stores, Seen, told_by}
unfoldable use Rattle.tl_commits.specs.statement.Seen.{memory_may, seen}

pub block-of : (block p : ℕ) → p < 64 → (64 * block + p) / 64 ≡ block
block-of block p lt = omega (arith, lt)

pub place-of : (block p : ℕ) → p < 64 → (64 * block + p) % 64 ≡ p
place-of block p lt = omega (arith, lt)

module _ {w : ℕ} (complete : Completeness) (n block p : ℕ) (x : Link × Beat w) (e : Events w) (lt : p < 64) where
  abbrev pub address : ℕ
  address = 64 * block + p

  abbrev pub before : Seen
  before = seen complete n address e

  abbrev pub more : Events w
  more = (x.0, event.Beat x.1) ∷ e

  -- a message sets it
  pub seen-told : tells block x.1 (link_beats x.0.0 e) ≡ true
      → seen complete n address more ≡ record {
        values = told_by address x.1 (link_beats x.0.0 e) (length (beats_of e));
        stored = false;
      }
  unfolding seen
  seen-told on = rw (block-of block p lt, on) refl

  -- what was stored is lost
  pub seen-lost : tells block x.1 (link_beats x.0.0 e) ≡ false → before.stored ≡ true
      → loses_stores block x.1 (link_beats x.0.0 e) ≡ true
      → seen complete n address more ≡ record {
        values = memory_may complete.zero n address
            (beats_of e);
        stored = false;
      }
  unfolding seen
  seen-lost quiet stored loses = rw (block-of block p lt, quiet, stored, loses) refl

  -- or it stays, or an access may write it
  pub seen-kept : tells block x.1 (link_beats x.0.0 e) ≡ false
      → (before.stored && loses_stores block x.1 (link_beats x.0.0 e)) ≡ false
      → seen complete n address more
      ≡ record { values = after_values n address x (beats_of e) before.values; stored = before.stored }
  unfolding seen
  seen-kept quiet kept = rw (block-of block p lt, quiet, kept) refl

  pub memory-told : tells block x.1 (link_beats x.0.0 e) ≡ true → grants_unread x.1 (link_beats x.0.0 e) ≡ false
      → memory_may complete.zero n address (beats_of more) ≡ told_by address x.1 (link_beats x.0.0 e)
      (length (beats_of e))
  unfolding memory_may beats_of
  memory-told on known = rw (block-of block p lt, on, known) refl

  pub memory-kept : (tells block x.1 (link_beats x.0.0 e) && not (grants_unread x.1 (link_beats x.0.0 e))) ≡ false
      → memory_may complete.zero n address (beats_of more) ≡ after_values n address x (beats_of e)
      (memory_may complete.zero n address (beats_of e))
  unfolding memory_may beats_of
  memory-kept kept = rw (block-of block p lt, kept) refl

pub and-none : (a b : Bool) → b ≡ false → (a && b) ≡ false
and-none true b e = e
and-none false b e = refl

-- a beat that sets no bytes
abbrev pub IsPlain : {w : ℕ} → ByteChange → ℕ → ℕ → ℕ → Link × Beat w → Trace w → Type 0
IsPlain change n block moment x t = (tells block x.1 (on_link x.0.0 t) ≡ false)
    × ((p : ℕ) → p < 64 → (before : List Telling) → after_values n (64 * block + p) x t before
    ≡ changed change moment p before)

pub plain-change : {w : ℕ} (change : ByteChange) (n block moment : ℕ) (x : Link × Beat w) (t : Trace w)
    → ((values : KnownBytes) (unread : Bool) → change ≡ ByteChange.Told values unread → ⊥)
    → moment ≡ length t → IsByteChange change n block x t → IsPlain change n block moment x t
plain-change ByteChange.Same n block moment x t other now is = is
plain-change (ByteChange.Written write standing) n block moment x t other now is = (is.0, λ p lt before. rw now (is.1 p lt before))
plain-change (ByteChange.Told values unread) n block moment x t other now is = absurd (other values unread refl)

module _ {w : ℕ} (old new : BlockValues) (complete : Completeness) (n block moment : ℕ) (x : Link × Beat w)
    (e : Events w)
    (k : KnowsValues old complete n block e) where
  -- a message sets the bytes
  pub values-told : (values : KnownBytes) (unread : Bool) → moment ≡ length (beats_of e)
      → IsByteChange (ByteChange.Told values unread) n block x (beats_of e)
      → ((p : ℕ) → p < 64
      → tellings_at p new.seen.items ≡ record { value = known_at values p; moment = moment } ∷ [])
      → ((p : ℕ) → p < 64 → is_in new.stored p ≡ false)
      → ((p : ℕ) → p < 64 → tellings_at p new.memory.items
      ≡ memory_told values unread moment p (tellings_at p old.memory.items))
      → KnowsValues new complete n block ((x.0, event.Beat x.1) ∷ e)
  values-told values unread now is seen_new stored_new memory_new = record {
    seen_is = λ p lt. seen_new p lt ∙ rw (seen-told complete n block p x e lt is.0) (value p lt);
    stored_is = λ p lt. stored_new p lt ∙ rw (seen-told complete n block p x e lt is.0) refl;
    memory_is = λ p lt. memory_new p lt ∙ memory p lt unread is.2;
  }
    where
      value : (p : ℕ) → p < 64 → ◌≡◌ {A = List Telling} (record { value = known_at values p; moment = moment } ∷ [])
          (told_by (64 * block + p) x.1 (link_beats x.0.0 e) (length (beats_of e)))
      value p lt = rw (now, place-of block p lt, is.1 p lt) refl

      memory : (p : ℕ) → p < 64 → (u : Bool) → u ≡ grants_unread x.1 (link_beats x.0.0 e)
          → memory_told values u moment p (tellings_at p old.memory.items)
          ≡ memory_may complete.zero n (64 * block + p) (beats_of ((x.0, event.Beat x.1) ∷ e))
      memory p lt true known =
          rw (memory-kept complete n block p x e lt (rw (is.0, ← known) refl))
          (k.memory_is p lt ∙ sym (is.3 p lt (memory_may complete.zero n (64 * block + p) (beats_of e))))
      memory p lt false known =
          rw (memory-told complete n block p x e lt is.0 (sym known)) (value p lt)

  module _ (change : ByteChange) (plain : IsPlain change n block moment x (beats_of e)) where
    memory-plain : ((p : ℕ) → p < 64
        → tellings_at p new.memory.items ≡ changed change moment p (tellings_at p old.memory.items))
        → (p : ℕ) → p < 64 → tellings_at p new.memory.items
        ≡ memory_may complete.zero n (64 * block + p) (beats_of ((x.0, event.Beat x.1) ∷ e))
    memory-plain memory_new p lt =
        memory_new p lt ∙ ap (changed change moment p) (k.memory_is p lt)
        ∙ sym (plain.1 p lt (memory_may complete.zero n (64 * block + p) (beats_of e)))
        ∙ sym (memory-kept complete n block p x e lt (rw plain.0 refl))

    -- none is set, and none that was stored is lost
    pub values-kept : loses_stores block x.1 (link_beats x.0.0 e) ≡ false
        → ((p : ℕ) → p < 64
        → tellings_at p new.seen.items ≡ changed change moment p (tellings_at p old.seen.items))
        → new.stored ≡ old.stored
        → ((p : ℕ) → p < 64
        → tellings_at p new.memory.items ≡ changed change moment p (tellings_at p old.memory.items))
        → KnowsValues new complete n block ((x.0, event.Beat x.1) ∷ e)
    values-kept keeps seen_new stored_new memory_new = record {
      seen_is = λ p lt. seen_new p lt ∙ ap (changed change moment p) (k.seen_is p lt)
          ∙ sym (plain.1 p lt (seen complete n (64 * block + p) e).values)
          ∙ ap (λ (s : Seen). s.values) (sym (stays p lt));
      stored_is = λ p lt. ap (λ l. is_in l p) stored_new ∙ k.stored_is p lt ∙ ap (λ (s : Seen). s.stored) (sym (stays p lt));
      memory_is = memory-plain memory_new;
    }
      where
        stays : (p : ℕ) → p < 64 → seen complete n (64 * block + p) ((x.0, event.Beat x.1) ∷ e) ≡ record {
          values = after_values n (64 * block + p) x (beats_of e) (seen complete n (64 * block + p) e).values;
          stored = (seen complete n (64 * block + p) e).stored;
        }
        stays p lt = seen-kept complete n block p x e lt plain.0
            (and-none (seen complete n (64 * block + p) e).stored _ keeps)

    -- those that were stored are lost
    pub values-lost : (mid : (p : ℕ) → List Telling) → loses_stores block x.1 (link_beats x.0.0 e) ≡ true
        → ((p : ℕ) → p < 64 → mid p ≡ changed change moment p (tellings_at p old.seen.items))
        → ((p : ℕ) → p < 64 → tellings_at p new.seen.items
        ≡ (if is_in old.stored p then tellings_at p old.memory.items else mid p))
        → ((p : ℕ) → p < 64 → is_in new.stored p ≡ false)
        → ((p : ℕ) → p < 64
        → tellings_at p new.memory.items ≡ changed change moment p (tellings_at p old.memory.items))
        → KnowsValues new complete n block ((x.0, event.Beat x.1) ∷ e)
    values-lost mid loses mid_is seen_new stored_new memory_new = record {
      seen_is = λ p lt. seen_new p lt ∙ ap (λ b. if b then tellings_at p old.memory.items else mid p) (k.stored_is p lt)
          ∙ values p lt (seen complete n (64 * block + p) e).stored refl;
      stored_is = λ p lt. stored_new p lt ∙ none p lt (seen complete n (64 * block + p) e).stored refl;
      memory_is = memory-plain memory_new;
    }
      where
        more : Events w
        more = (x.0, event.Beat x.1) ∷ e

        values : (p : ℕ) → p < 64 → (b : Bool) → (seen complete n (64 * block + p) e).stored ≡ b
            → (if b then tellings_at p old.memory.items else mid p) ≡ (seen complete n (64 * block + p) more).values
        values p lt true was =
            k.memory_is p lt ∙ ap (λ (s : Seen). s.values) (sym (seen-lost complete n block p x e lt plain.0 was loses))
        values p lt false was =
            mid_is p lt ∙ ap (changed change moment p) (k.seen_is p lt)
            ∙ sym (plain.1 p lt (seen complete n (64 * block + p) e).values)
            ∙ ap (λ (s : Seen). s.values) (sym (seen-kept complete n block p x e lt plain.0 (rw was refl)))

        none : (p : ℕ) → p < 64 → (b : Bool) → (seen complete n (64 * block + p) e).stored ≡ b
            → false ≡ (seen complete n (64 * block + p) more).stored
        none p lt true was =
            ap (λ (s : Seen). s.stored) (sym (seen-lost complete n block p x e lt plain.0 was loses))
        none p lt false was =
            sym was ∙ ap (λ (s : Seen). s.stored) (sym (seen-kept complete n block p x e lt plain.0 (rw was refl)))
