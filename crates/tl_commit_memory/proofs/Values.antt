-- After each run with commits a byte may be what memory has, by the values that beats and commits set, if no client has
-- stored to its copy since the byte was told.
use Rattle.tl_commit_memory.proofs.Imports.{Beat, CommitRun, Committed, Events, Happened, IsClean, IsCommitRun}
use Rattle.tl_commit_memory.proofs.Imports.{Leaves, Link, Memory, Performs, Run, Stores, Takes, Telling, Trace}
use Rattle.tl_commit_memory.proofs.Imports.{beats_of, could_be}
use Rattle.tl_commit_memory.proofs.Imports.{block_at, carried_byte, events_in, memory_in, on_link, reaches}
use Rattle.tl_commit_memory.proofs.Imports.{IsRun, run_in, seen, trace_in}
use Rattle.std.proofs.Common.{◌≡◌, ℕ, Bool, true, false, not, ◌%◌, ◌&&◌, List, [], ◌∷◌, inl, inr, refl, sym, ap, ◌∙◌}
use Rattle.std.proofs.Common.{length, subst}
use Rattle.std.specs.Prelude.{if◌then◌else◌, is_some, None, Option, Some}
use Rattle.std.proofs.lemmas.Bool.{and_parts, eq-eqb, eqb-true, not-true}
use Rattle.tl_bytes.specs.statement.Bytes.{after_beat, after_settling, tells}
use Rattle.tl_bytes.specs.statement.Early.{telling_beats}
use Rattle.tl_events.specs.declared.commit.Commit.TheVariants as commit
use Rattle.tl_events.specs.declared.commit.Event.{Event}
use Rattle.tl_events.specs.declared.commit.Event.TheVariants as event
use Rattle.tl_events.specs.declared.commit.Piece.{Piece}
use Rattle.tl_commits.specs.statement.Completeness.{Completeness, first_value}
use Rattle.tl_commits.specs.statement.Copies.{brought, is_known, link_beats}
use Rattle.tl_commits.specs.statement.Events.{is_loading}
use Rattle.tl_commits.specs.statement.Seen.{Seen, byte_in, loses_stores, memory_may, says_byte, told_now}
use Rattle.tl_one_memory.proofs.Known.{Answers, IsDone}
use Rattle.tl_commit_memory.specs.statement.CommitRun.{HasBrought, IsLoaded, StartsAs, stores_to}
use Rattle.tl_commit_memory.proofs.Covered.{told-now}
use Rattle.tl_commit_memory.proofs.Known.{IsKnownBy, IsRightBy, known-first, known-left, known-performed, known-stored}
use Rattle.tl_commit_memory.proofs.Known.{known-taken, with_beat}
use Rattle.tl_commit_memory.proofs.Orderly.{clean-before}
use Rattle.tl_commit_memory.proofs.Traces.{beats-are, is-run}

-- ---- a beat

-- a byte with one more beat, by the beats before it
abbrev pub with_seen_beat : {w : ℕ} → Bool → ℕ → ℕ → Link → Beat w → Trace w → Seen → Seen
with_seen_beat zero n address link x t before =
    if tells (block_at address) x (on_link link.0 t)
    then record {
      values = record {
        value = carried_byte (telling_beats x (on_link link.0 t)) (address % 64);
        moment = length t;
      } ∷ [];
      stored = false;
    }
    else if before.stored && loses_stores (block_at address) x (on_link link.0 t)
    then record { values = memory_may zero n address t; stored = false }
    else record {
      values = after_settling address (link, x) t (after_beat n address link.0 x t before.values);
      stored = before.stored;
    }

module _ {w : ℕ} (zero : Bool) (n address : ℕ) (link : Link) (x : Beat w) (t : Trace w) (before : Seen)
    (old : tells (block_at address) x (on_link link.0 t) ≡ false → before.stored ≡ false) where
  beat-unstored : (with_seen_beat zero n address link x t before).stored ≡ false
  beat-unstored = go (tells (block_at address) x (on_link link.0 t)) refl
    where
      go : (b : Bool) → tells (block_at address) x (on_link link.0 t) ≡ b
          → (with_seen_beat zero n address link x t before).stored ≡ false
      go true e = rw e refl
      go false e = rw (e, old e) refl

  beat-values : (with_seen_beat zero n address link x t before).values ≡ with_beat n address link x t before.values
  beat-values = go (tells (block_at address) x (on_link link.0 t)) refl
    where
      go : (b : Bool) → tells (block_at address) x (on_link link.0 t) ≡ b
          → (with_seen_beat zero n address link x t before).values ≡ with_beat n address link x t before.values
      go true e = rw e refl
      go false e = rw (e, old e) refl

-- ---- a store and a load

-- a client has stored to its copy
stored-unclean : {w : ℕ} (n : ℕ) (first : Memory) (address : ℕ) (run : Run w)
    → stores_to (block_at address) run ≡ true → IsClean n first address run → ⊥
unfolding IsClean
stored-unclean n first address [] behind clean = absurd cc
stored-unclean n first address (Takes link x ∷ run) behind clean = absurd cc
stored-unclean n first address (Performs d i test left ∷ run) behind clean = absurd cc
stored-unclean n first address (Stores block bytes ∷ run) behind clean =
    let no : false ≡ true = sym clean.0
    ∙ eq-eqb (block_at address) block (sym (eqb-true block (block_at address) behind))
    in cc
stored-unclean n first address (Leaves d i bytes ∷ run) behind clean = absurd cc

-- what a load says of a byte memory has
pub loaded-now : {w : ℕ} (complete : Completeness) (first : Memory) (link : ℕ) (piece : Piece) (address v : ℕ)
    (steps : CommitRun w) → says_byte complete link piece address (events_in steps) ≡ true
    → IsLoaded first link piece address v steps → memory_in first (run_in steps) address ≡ v
loaded-now {w} complete first link piece address v steps says loaded = elim loaded [
  | inl now ↦ elim now [
    | inl is ↦ is
    | inr found ↦ absurd (none (brought address (link_beats link (events_in steps))) refl found)
  ]
  | inr earlier ↦ absurd (let no : true ≡ false =
      sym earlier.0 ∙ not-true (is_loading link piece (events_in steps)) both.0 in cc)
]
  where
    both : (not (is_loading link piece (events_in steps)) ≡ true)
        × (not (is_some (brought address (link_beats link (events_in steps))))
        && is_known complete link (block_at address) (link_beats link (events_in steps)) ≡ true)
    both = and_parts (not (is_loading link piece (events_in steps))) _ says

    none : (o : Option (Option ℕ)) → brought address (link_beats link (events_in steps)) ≡ o → HasBrought v o → ⊥
    none None e found = found
    none (Some value) e found =
        let two = and_parts (not (is_some (brought address (link_beats link (events_in steps))))) _ both.1 in
        let no : false ≡ true = sym (rw e refl) ∙ two.0 in cc

-- ---- all steps

-- before the trace memory has a byte that the header says it may have
pub first-could : (zero : Bool) (first : Memory) (address : ℕ) → StartsAs zero first
    → could_be (first address) (first_value zero) ≡ true
first-could true first address starts = eq-eqb 0 (first address) (sym (starts address))
first-could false first address starts = refl

module _ {w : ℕ} (complete : Completeness) (n : ℕ) (first : Memory) (starts : StartsAs complete.zero first)
    (address : ℕ) where
  abbrev byte : CommitRun w → Seen
  byte steps = seen complete n address (events_in steps)

  pub taken-seen : (link : Link) (x : Beat w) (steps : CommitRun w) → byte (Happened (Takes link x) ∷ steps)
      ≡ with_seen_beat complete.zero n address link x (trace_in (run_in steps)) (byte steps)
  unfolding events_in seen
  taken-seen link x steps =
      ap (λ (t : Trace w). with_seen_beat complete.zero n address link x t (byte steps)) (beats-are steps)

  -- no store to the byte is in the trace since then
  pub unstored : (steps : CommitRun w) → IsCommitRun n first steps → IsClean n first address (run_in steps)
      → (byte steps).stored ≡ false
  unfolding IsCommitRun run_in events_in seen IsClean
  unstored [] is clean = refl
  unstored (Happened (Takes link x) ∷ steps) is clean =
      ap (λ (s : Seen). s.stored) (taken-seen link x steps)
      ∙ beat-unstored complete.zero n address link x (trace_in (run_in steps)) (byte steps) (λ e. unstored steps is.1
      (clean-before n first address link x (run_in steps) is.0 (is-run n first steps is.1) clean e))
  unstored (Happened (Performs d i test left) ∷ steps) is clean = unstored steps is.1 clean
  unstored (Happened (Stores block bytes) ∷ steps) is clean = unstored steps is.1 clean.1
  unstored (Happened (Leaves d i bytes) ∷ steps) is clean = unstored steps is.1 clean
  unstored (Committed link (commit.Begin piece) ∷ steps) is clean = unstored steps is.1 clean
  unstored (Committed link (commit.Load piece value) ∷ steps) is clean =
      go (reaches piece.address piece.size address && says_byte complete link.0 piece address (events_in steps))
      (unstored steps is.1 clean)
    where
      go : (b : Bool) → (byte steps).stored ≡ false → (if b then record {
        values = told_now piece value address (length (beats_of (events_in steps)));
        stored = (byte steps).stored;
      } else byte steps).stored ≡ false
      go true e = e
      go false e = e
  unstored (Committed link (commit.Store piece value) ∷ steps) is clean =
      go (reaches piece.address piece.size address) refl (unstored steps is.1 clean)
    where
      go : (b : Bool) → reaches piece.address piece.size address ≡ b → (byte steps).stored ≡ false → (if b then record {
        values = told_now piece value address (length (beats_of (events_in steps)));
        stored = true;
      } else byte steps).stored ≡ false
      go true e before = absurd (stored-unclean n first address (run_in steps) (is.0 address e).behind clean)
      go false e before = before

  abbrev Right : CommitRun w → List Telling → Type 0
  Right steps values = IsRightBy n first address (run_in steps) values

  -- a commit says what memory has
  said-right : (piece : Piece) (value : ℕ) (steps : CommitRun w)
      → memory_in first (run_in steps) address ≡ byte_in piece value address
      → Right steps (told_now piece value address (length (beats_of (events_in steps))))
  said-right piece value steps same = subst (λ (t : Trace w). Right steps (told_now piece value address (length t)))
      (sym (beats-are steps)) (inl (told-now n address (memory_in first (run_in steps) address)
      (IsDone first (run_in steps) address) (Answers first (run_in steps)) (trace_in (run_in steps))
      (Some (byte_in piece value address)) (eq-eqb _ _ (sym same)) []))

  pub known-seen : (steps : CommitRun w) → IsCommitRun n first steps
      → IsKnownBy n first address (run_in steps) (byte steps).values
  unfolding IsCommitRun run_in events_in seen
  known-seen [] is clean =
      known-first n first address [] (first_value complete.zero) (first-could complete.zero first address starts) clean
  known-seen (Happened (Takes link x) ∷ steps) is clean =
      subst (IsRightBy n first address (Takes link x ∷ run_in steps)) (sym same)
      (known-taken n first address (byte steps).values link x (run_in steps) is.0 runs (known-seen steps is.1) clean)
    where
      runs : IsRun n first (run_in steps)
      runs = is-run n first steps is.1

      same : (byte (Happened (Takes link x) ∷ steps)).values
          ≡ with_beat n address link x (trace_in (run_in steps)) (byte steps).values
      same = ap (λ (s : Seen). s.values) (taken-seen link x steps)
          ∙ beat-values complete.zero n address link x (trace_in (run_in steps)) (byte steps) (λ e. unstored steps is.1
          (clean-before n first address link x (run_in steps) is.0 runs clean e))
  known-seen (Happened (Performs d i test left) ∷ steps) is clean =
      known-performed n first address (byte steps).values d i test left (run_in steps) is.0 (known-seen steps is.1)
      clean
  known-seen (Happened (Stores block bytes) ∷ steps) is clean =
      known-stored n first address (byte steps).values block bytes (run_in steps) (known-seen steps is.1) clean
  known-seen (Happened (Leaves d i bytes) ∷ steps) is clean =
      known-left n first address (byte steps).values d i bytes (run_in steps) (known-seen steps is.1) clean
  known-seen (Committed link (commit.Begin piece) ∷ steps) is clean = known-seen steps is.1 clean
  known-seen (Committed link (commit.Load piece value) ∷ steps) is clean =
      go (reaches piece.address piece.size address) refl
      (says_byte complete link.0 piece address (events_in steps)) refl (known-seen steps is.1 clean)
    where
      go : (b : Bool) → reaches piece.address piece.size address ≡ b → (says : Bool)
          → says_byte complete link.0 piece address (events_in steps) ≡ says → Right steps (byte steps).values
          → Right steps (if b && says then record {
            values = told_now piece value address (length (beats_of (events_in steps)));
            stored = (byte steps).stored;
          } else byte steps).values
      go true e true f before = said-right piece value steps (loaded-now complete first link.0 piece address
          (byte_in piece value address) steps f (is.0 address e))
      go true e false f before = before
      go false e says f before = before
  known-seen (Committed link (commit.Store piece value) ∷ steps) is clean =
      go (reaches piece.address piece.size address) refl (known-seen steps is.1 clean)
    where
      go : (b : Bool) → reaches piece.address piece.size address ≡ b → Right steps (byte steps).values
          → Right steps (if b then record {
            values = told_now piece value address (length (beats_of (events_in steps)));
            stored = true;
          } else byte steps).values
      go true e before = said-right piece value steps (is.0 address e).stored
      go false e before = before

-- ---- at the last beat

-- the events up to this one if it is a beat, otherwise those up to the last beat before it
abbrev behind : {w : ℕ} → Link → Event w → Events w → Events w → Events w
behind link (event.Beat x) e rest = (link, event.Beat x) ∷ e
behind link (event.Commit x) e rest = rest

-- without the commits that come after the last beat
unfoldable pub to_beat : {w : ℕ} → Events w → Events w
to_beat [] = []
to_beat (x ∷ e) = behind x.0 x.1 e (to_beat e)

-- so it is by the values of then
pub known-then : {w : ℕ} (complete : Completeness) (n : ℕ) (first : Memory) (starts : StartsAs complete.zero first)
    (address : ℕ) (steps : CommitRun w)
    → IsCommitRun n first steps
    → IsKnownBy n first address (run_in steps) (seen complete n address (to_beat (events_in steps))).values
unfolding IsCommitRun run_in events_in to_beat seen
known-then complete n first starts address [] is =
    known-first n first address [] (first_value complete.zero) (first-could complete.zero first address starts)
known-then complete n first starts address (Happened (Takes link x) ∷ steps) is =
    known-seen complete n first starts address (Happened (Takes link x) ∷ steps) is
known-then complete n first starts address (Happened (Performs d i test left) ∷ steps) is =
    known-performed n first address _ d i test left (run_in steps) is.0
    (known-then complete n first starts address steps is.1)
known-then complete n first starts address (Happened (Stores block bytes) ∷ steps) is =
    known-stored n first address _ block bytes (run_in steps) (known-then complete n first starts address steps is.1)
known-then complete n first starts address (Happened (Leaves d i bytes) ∷ steps) is =
    known-left n first address _ d i bytes (run_in steps) (known-then complete n first starts address steps is.1)
known-then complete n first starts address (Committed link x ∷ steps) is =
    known-then complete n first starts address steps is.1
