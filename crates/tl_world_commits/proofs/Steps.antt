-- A run of one memory whose copies are used rightly, with one happening or one commit more.
use Rattle.std.proofs.Common.{◌≡◌, ℕ, zero, suc, ◌+◌, ◌-◌, ◌*◌, ◌%◌, ◌<◌, ◌≤◌, Bool, true, false, not, ◌&&◌, ◌==◌}
use Rattle.std.proofs.Common.{List, []}
use Rattle.std.proofs.Common.{◌∷◌, ◌⊎◌, length, drop, take, get_or, inl, inr, refl, sym, ◌∙◌, ap, subst, arith}
use Rattle.std.specs.Int.{from_le_bytes, w64}
use Rattle.std.specs.Prelude.{nat_le, nat_lt, slice_get, ⊤}
use Rattle.std.proofs.lemmas.Bool.{and_parts, cases_eq, cases_lt, eq-eqb, le-leb, leb-true, lt-ltb, ltb-true, ne_eqb}
use Rattle.tl_beat.specs.declared.beat.Beat.{Beat}
use Rattle.tl_beat.specs.declared.beat.Link.{Link}
use Rattle.tl_burst.specs.statement.Burst.{reaches}
use Rattle.tl_params.specs.declared.level.Level.{Level}
use Rattle.tl_rules.specs.statement.Conformance.{on_link}
use Rattle.tl_rules.specs.statement.Effect.{Memory}
use Rattle.tl_rules.specs.statement.History.{block_at}
use Rattle.tl_bytes.specs.statement.Bytes.{tells}
use Rattle.tl_bytes.specs.statement.Free.{is_free}
use Rattle.tl_params.specs.declared.perm.Perm.{Perm}
use Rattle.tl_events.specs.declared.commit.Commit.TheVariants as commit
use Rattle.tl_events.specs.declared.commit.Event.{Event}
use Rattle.tl_events.specs.declared.commit.Event.TheVariants as event
use Rattle.tl_events.specs.declared.commit.Piece.{Piece}
use Rattle.tl_commits.specs.statement.Completeness.{Completeness, is_complete}
use Rattle.tl_commits.specs.statement.Breaches.{has_cache}
use Rattle.tl_commits.specs.statement.Copies.{link_beats, may_store}
use Rattle.tl_commits.specs.statement.Events.{Events}
unfoldable use Rattle.tl_commits.specs.statement.Events.{beats_of}
use Rattle.tl_commits.specs.statement.Seen.{byte_in}
use Rattle.tl_one_memory.specs.statement.Run.{IsPerformed, IsTaken, OneOf, Performs, Run, Stores, Takes, TellsTrue}
unfoldable use Rattle.tl_one_memory.specs.statement.Run.{IsRun, memory_in, trace_in}
use Rattle.tl_commit_memory.specs.statement.CommitRun.{CommitRun, Committed, Happened, IsStored, stores_to}
unfoldable use Rattle.tl_commit_memory.specs.statement.CommitRun.{IsCommitRun, events_in, run_in}
use Rattle.tl_commit_memory.specs.statement.KeptCopies.{HasBytes, ReportsRightly, ShowsBlocks}
unfoldable use Rattle.tl_commit_memory.specs.statement.KeptCopies.{AreCopies, IsRecorded}
use Rattle.tl_schedule.specs.declared.whole.WholeStore.{WholeStore}
use Rattle.tl_schedule.specs.statement.Commits.{piece_at, word_store}
unfoldable use Rattle.tl_schedule.specs.statement.Commits.{word_stores}
use Rattle.tl_world_commits.proofs.Bytes.{word-byte}
unfoldable use Rattle.tl_world_commits.specs.statement.WorldEvents.{with_commits}

-- a commit's link has a cache
abbrev pub IsCached : {w : ℕ} → List Level → Link → Event w → Type 0
IsCached levels link (event.Beat x) = ⊤
IsCached levels link (event.Commit x) = has_cache (slice_get levels link.0) ≡ true

-- so it is of all events
unfoldable pub AreCached : {w : ℕ} → List Level → Events w → Type 0
AreCached levels [] = ⊤
AreCached levels (x ∷ e) = IsCached levels x.0 x.1 × AreCached levels e

-- no byte is missing
abbrev pub none : ℕ → Bool
none address = false

-- the bytes of the words of a block from word i on
abbrev pub from_word : ℕ → ℕ → ℕ → Bool
from_word block i address = (block_at address == block) && nat_le (8 * i) (address % 64)

module _ {w : ℕ} (levels : List Level) (complete : Completeness) (n : ℕ) (first : Memory) where
  -- no store to a byte is missing in the trace but to these
  abbrev pub AreRecorded : (ℕ → Bool) → CommitRun w → Type 0
  AreRecorded missing steps = (address : ℕ) → missing address ≡ false → IsRecorded n first address steps

  -- a run with commits that is this without them, has these events, and uses its copies rightly
  pub record HasSteps (missing : ℕ → Bool) (run : Run w) (e : Events w) : Type 0 where
    pub steps : CommitRun w
    pub run_is : run_in steps ≡ run
    pub events_are : events_in steps ≡ e
    pub is_run : IsCommitRun n first steps
    pub copies : AreCopies complete n first steps
    pub recorded : AreRecorded missing steps
    pub cached : AreCached levels e

  pub no-steps : HasSteps none [] []
  unfolding IsCommitRun AreCopies IsRecorded AreCached events_in run_in
  no-steps = record {
    steps = [];
    run_is = refl;
    events_are = refl;
    is_run = tt;
    copies = tt;
    recorded = λ address e. tt;
    cached = tt;
  }

  -- other bytes may be missing
  pub missing-as : (missing missing' : ℕ → Bool) (run : Run w) (e : Events w)
      → ((address : ℕ) → missing' address ≡ false → missing address ≡ false) → HasSteps missing run e
      → HasSteps missing' run e
  missing-as missing missing' run e fewer has = record {
    steps = has.steps;
    run_is = has.run_is;
    events_are = has.events_are;
    is_run = has.is_run;
    copies = has.copies;
    recorded = λ address f. has.recorded address (fewer address f);
    cached = has.cached;
  }

  -- what is so of the steps of this run with these events
  abbrev pub OfSteps : Run w → Events w → (CommitRun w → Type 0) → Type 0
  OfSteps run e P = (steps : CommitRun w) → run_in steps ≡ run → events_in steps ≡ e → AreRecorded none steps → P steps

  -- ---- happenings

  pub taken-steps : (link : Link) (x : Beat w) (run : Run w) (e : Events w) → IsRun n first (Takes link x ∷ run)
      → ShowsBlocks n link x (trace_in run) → ((address : ℕ)
      → tells (block_at address) x (on_link link.0 (trace_in run)) ≡ true → TellsTrue first address link x run)
      → OfSteps run e (λ steps. is_complete complete link.0 ≡ true → ReportsRightly complete n first link x steps)
      → HasSteps none run e → HasSteps none (Takes link x ∷ run) ((link, event.Beat x) ∷ e)
  unfolding IsCommitRun AreCopies IsRecorded AreCached IsRun events_in run_in
  taken-steps link x run e is shows told reports has = record {
    steps = Happened (Takes link x) ∷ has.steps;
    run_is = ap (λ (r : Run w). Takes link x ∷ r) has.run_is;
    events_are = ap (λ (i : Events w). (link, event.Beat x) ∷ i) has.events_are;
    is_run = (subst (λ (r : Run w). IsTaken n first link x r) (sym has.run_is) is.0, has.is_run);
    copies = (
      subst (λ (r : Run w). ShowsBlocks n link x (trace_in r)) (sym has.run_is) shows,
      reports has.steps has.run_is has.events_are has.recorded,
      has.copies,
    );
    recorded = λ address f. inr (subst (λ (r : Run w).
        (tells (block_at address) x (on_link link.0 (trace_in r)) ≡ true → TellsTrue first address link x r)
        → OneOf (tells (block_at address) x (on_link link.0 (trace_in r))) (TellsTrue first address link x r)
        (IsRecorded n first address has.steps)) (sym has.run_is)
        (λ so. go (tells (block_at address) x (on_link link.0 (trace_in run))) refl so (has.recorded address f))
        (subst (λ (r : Run w). tells (block_at address) x (on_link link.0 (trace_in r)) ≡ true
        → TellsTrue first address link x r) (sym has.run_is) (told address)));
    cached = (tt, has.cached);
  }
    where
      go : {A B : Type 0} (b : Bool) → {c : Bool} → c ≡ b → (c ≡ true → A) → B → OneOf b A B
      go true e so old = so e
      go false e so old = old

  pub performed-steps : (c s : ℕ) (test : ℕ → Bool) (left : Memory) (run : Run w) (e : Events w)
      → IsRun n first (Performs c s test left ∷ run) → HasSteps none run e
      → HasSteps none (Performs c s test left ∷ run) e
  unfolding IsCommitRun AreCopies IsRecorded IsRun events_in run_in
  performed-steps c s test left run e is has = record {
    steps = Happened (Performs c s test left) ∷ has.steps;
    run_is = ap (λ (r : Run w). Performs c s test left ∷ r) has.run_is;
    events_are = has.events_are;
    is_run = (subst (λ (r : Run w). IsPerformed n first c s test r) (sym has.run_is) is.0, has.is_run);
    copies = has.copies;
    recorded = has.recorded;
    cached = has.cached;
  }

  -- a client stores to its copy: only bytes of these may have changed
  pub changed-steps : (missing : ℕ → Bool) (block : ℕ) (bytes : Memory) (run : Run w) (e : Events w)
      → IsRun n first (Stores block bytes ∷ run) → ((address : ℕ) → missing address ≡ false
      → ((block_at address == block) ≡ false) ⊎ (bytes address ≡ memory_in first run address)) → HasSteps none run e
      → HasSteps missing (Stores block bytes ∷ run) e
  unfolding IsCommitRun AreCopies IsRecorded IsRun events_in run_in trace_in
  changed-steps missing block bytes run e is same has = record {
    steps = Happened (Stores block bytes) ∷ has.steps;
    run_is = ap (λ (r : Run w). Stores block bytes ∷ r) has.run_is;
    events_are = has.events_are;
    is_run = (
      subst (λ (r : Run w). is_free n Perm.Branch block (trace_in r) ≡ false) (sym has.run_is) is.0,
      has.is_run,
    );
    copies = has.copies;
    recorded = λ address f. (
      subst (λ (r : Run w). ((block_at address == block) ≡ false) ⊎ (bytes address ≡ memory_in first r address))
          (sym has.run_is) (same address f),
      has.recorded address refl,
    );
    cached = has.cached;
  }

  -- ---- commits

  pub stored-steps : (missing : ℕ → Bool) (link : Link) (piece : Piece) (value : ℕ) (run : Run w) (e : Events w)
      → ((address : ℕ) → reaches piece.address piece.size address ≡ true
      → IsStored first address (byte_in piece value address) run)
      → may_store (block_at piece.address) (link_beats link.0 e) ≡ true
      → has_cache (slice_get levels link.0) ≡ true → HasSteps missing run e
      → HasSteps (λ address. missing address && not (reaches piece.address piece.size address)) run
      ((link, event.Commit (commit.Store piece value)) ∷ e)
  unfolding IsCommitRun AreCopies IsRecorded AreCached events_in run_in
  stored-steps missing link piece value run e stored may cache has = record {
    steps = Committed link (commit.Store piece value) ∷ has.steps;
    run_is = has.run_is;
    events_are = ap (λ (i : Events w). (link, event.Commit (commit.Store piece value)) ∷ i) has.events_are;
    is_run = (
      λ address reached. subst (λ (r : Run w). IsStored first address (byte_in piece value address) r)
          (sym has.run_is) (stored address reached),
      has.is_run,
    );
    copies = (
      subst (λ (i : Events w). may_store (block_at piece.address) (link_beats link.0 i) ≡ true)
          (sym has.events_are) may,
      has.copies,
    );
    recorded = λ address f. go (reaches piece.address piece.size address) (missing address) f (has.recorded address);
    cached = (cache, has.cached);
  }
    where
      go : {A : Type 0} (b c : Bool) → c && not b ≡ false → (c ≡ false → A) → OneOf b ⊤ A
      go true c f old = tt
      go false false f old = old refl
      go false true f old = absurd cc

  pub loaded-steps : (link : Link) (piece : Piece) (value : ℕ) (run : Run w) (e : Events w)
      → ((address : ℕ) → reaches piece.address piece.size address ≡ true
      → memory_in first run address ≡ byte_in piece value address)
      → OfSteps run e (HasBytes complete n first link.0 piece value)
      → has_cache (slice_get levels link.0) ≡ true → HasSteps none run e
      → HasSteps none run ((link, event.Commit (commit.Load piece value)) ∷ e)
  unfolding IsCommitRun AreCopies IsRecorded AreCached events_in run_in
  loaded-steps link piece value run e loaded copy cache has = record {
    steps = Committed link (commit.Load piece value) ∷ has.steps;
    run_is = has.run_is;
    events_are = ap (λ (i : Events w). (link, event.Commit (commit.Load piece value)) ∷ i) has.events_are;
    is_run = (
      λ address reached. inl (inl (ap (λ (r : Run w). memory_in first r address) has.run_is
          ∙ loaded address reached)),
      has.is_run,
    );
    copies = (inl (copy has.steps has.run_is has.events_are has.recorded), has.copies);
    recorded = has.recorded;
    cached = (cache, has.cached);
  }

  -- ---- the words of a whole block

  module _ (link : Link) (store : WholeStore) (run : Run w) (behind : stores_to store.block run ≡ true)
      (long : length store.bytes ≡ 64) (small : (k : ℕ) → get_or store.bytes k 0 < 256)
      (stored : (address : ℕ) → block_at address ≡ store.block
      → memory_in first run address ≡ get_or store.bytes (address % 64) 0)
      (cache : has_cache (slice_get levels link.0) ≡ true) where
    word-stored : (i : ℕ) → i < 8 → (address : ℕ) → reaches (64 * store.block + 8 * i) 3 address ≡ true
        → IsStored first address (byte_in (piece_at (64 * store.block + 8 * i) 3)
        (from_le_bytes w64 (take 8 (drop (8 * i) store.bytes))) address) run
    word-stored i lt address reached =
        let both = and_parts (nat_le (64 * store.block + 8 * i) address)
        (nat_lt address (64 * store.block + 8 * i + 8)) reached in
        let from = leb-true (64 * store.block + 8 * i) address both.0 in
        let to = ltb-true address (64 * store.block + 8 * i + 8) both.1 in
        let here : block_at address ≡ store.block = omega (arith, from, to, lt) in
        let place : 8 * i + (address - (64 * store.block + 8 * i)) ≡ address % 64 =
        omega (arith, from, to, here, lt) in
        record {
          behind = rw here behind;
          stored = stored address here ∙ ap (λ (k : ℕ). get_or store.bytes k 0) (sym place)
              ∙ sym (word-byte store.bytes i (address - (64 * store.block + 8 * i)) long small lt
              (omega (arith, from, to)));
        }

    next-word : (i : ℕ) → i < 8 → (address : ℕ) → from_word store.block (i + 1) address ≡ false
        → from_word store.block i address && not (reaches (64 * store.block + 8 * i) 3 address) ≡ false
    next-word i lt address later = elim (cases_eq (block_at address) store.block) [
      | inr other ↦ rw (ne_eqb (block_at address) store.block other) refl
      | inl here ↦ elim (cases_lt (address % 64) (8 * i)) [
        | inl early ↦ rw (nle (8 * i) (address % 64) (omega (arith, early))) (off (block_at address == store.block) _)
        | inr from ↦ elim (cases_lt (address % 64) (8 * i + 8)) [
          | inl to ↦
              let start : 64 * store.block + 8 * i ≤ address = omega (arith, here, from) in
              let end : address < 64 * store.block + 8 * i + 8 = omega (arith, here, to) in
              rw (le-leb (64 * store.block + 8 * i) address start, lt-ltb address (64 * store.block + 8 * i + 8) end)
              (never (from_word store.block i address))
          | inr past ↦
              let far : 8 * (i + 1) ≤ address % 64 = omega (arith, past) in
              let no : true ≡ false = sym (rw (
                eq-eqb (block_at address) store.block here,
                le-leb (8 * (i + 1)) (address % 64) far,
              ) refl) ∙ later in
              absurd cc
        ]
      ]
    ]
      where
        nle : (m k : ℕ) → k < m → nat_le m k ≡ false
        nle m k less = by (nat_le m k) refl
          where
            by : (b : Bool) → nat_le m k ≡ b → b ≡ false
            by false e = refl
            by true e = absurd (let le = leb-true m k e in omega (arith, le, less))

        off : (a b : Bool) → (a && false) && b ≡ false
        off true b = refl
        off false b = refl

        never : (b : Bool) → b && false ≡ false
        never true = refl
        never false = refl

    pub words-steps : (i k : ℕ) (e : Events w) → i + k ≡ 8
        → may_store store.block (link_beats link.0 e) ≡ true → HasSteps (from_word store.block i) run e
        → HasSteps none run (with_commits link (word_stores store i k) e)
    unfolding with_commits word_stores beats_of
    words-steps i zero e all may has = missing-as (from_word store.block i) none run e (λ address f. last address) has
      where
        last : (address : ℕ) → from_word store.block i address ≡ false
        last address = by (nat_le (8 * i) (address % 64)) refl (block_at address == store.block)
          where
            by : (b : Bool) → nat_le (8 * i) (address % 64) ≡ b → (a : Bool) → a && b ≡ false
            by false e true = refl
            by false e false = refl
            by true e a = absurd (let le = leb-true (8 * i) (address % 64) e in omega (arith, le, all))
    words-steps i (suc k) e all may has =
        words-steps (i + 1) k ((link, event.Commit (word_store store i)) ∷ e) (omega (arith, all)) may
        (missing-as (λ address. from_word store.block i address && not (reaches (64 * store.block + 8 * i) 3 address))
        (from_word store.block (i + 1)) run ((link, event.Commit (word_store store i)) ∷ e)
        (next-word i (omega (arith, all)))
        (stored-steps (from_word store.block i) link (piece_at (64 * store.block + 8 * i) 3)
        (from_le_bytes w64 (take 8 (drop (8 * i) store.bytes))) run e (word-stored i (omega (arith, all)))
        (let here : block_at (64 * store.block + 8 * i) ≡ store.block = omega (arith, all) in rw here may) cache has))
