-- While a link holds a block, a byte to which no store is missing in the trace may be what memory has.
use Rattle.tl_commit_memory.proofs.Imports.{Beat, CommitRun, Committed, Happened, IsClean, IsCommitRun, IsPerformed}
use Rattle.tl_commit_memory.proofs.Imports.{IsRun, IsTaken, Leaves, Link, Memory, Perm, Performs, Run, Stores, Takes}
use Rattle.tl_commit_memory.proofs.Imports.{Trace, access_writes, beats_of, block_at, effect}
use Rattle.tl_commit_memory.proofs.Imports.{events_in, is_free, memory_in, on_link, reaches, run_in, seen, trace_in}
use Rattle.std.proofs.Common.{◌≡◌, ℕ, Bool, true, false, ◌&&◌, [], ◌∷◌, inl, inr, refl, sym, ◌∙◌}
use Rattle.std.proofs.Common.{zero, suc, ◌<◌, arith, length, subst}
use Rattle.std.specs.Prelude.{if◌then◌else◌, find, None, Option, Some, ◌==◌, ⊤}
use Rattle.std.proofs.lemmas.Bool.{cases_eq, eq-eqb}
use Rattle.tl_rules.specs.statement.Conformance.{same_perm}
use Rattle.tl_rules.specs.statement.Effect.{after}
use Rattle.tl_rules.specs.statement.Windows.{leaves}
use Rattle.tl_bytes.specs.statement.Free.{may_hold}
use Rattle.tl_bytes.specs.statement.Bytes.{after_beat, tells}
use Rattle.tl_bytes.specs.statement.Early.{Outrun, is_outrun_of, outrun_accesses}
use Rattle.tl_events.specs.declared.commit.Commit.TheVariants as commit
use Rattle.tl_commits.specs.statement.Completeness.{Completeness}
use Rattle.tl_commits.specs.statement.Seen.{Seen, byte_in, loses_stores, says_byte, told_now}
use Rattle.tl_one_memory.proofs.Known.{clean-free}
use Rattle.tl_one_memory.proofs.Values.{after-unwritten}
use Rattle.tl_one_memory.specs.statement.Run.{OneOf, TellsTrue, left_by, with_reached}
use Rattle.tl_commit_memory.specs.statement.CommitRun.{StartsAs}
use Rattle.tl_commit_memory.specs.statement.KeptCopies.{ShowsBlocks, stores_byte}
unfoldable use Rattle.tl_commit_memory.specs.statement.KeptCopies.{AreCopies, IsRecorded}
use Rattle.tl_commit_memory.proofs.MayBe.{MayBe, after-beat, after-settling}
use Rattle.tl_commit_memory.proofs.Traces.{is-run}
use Rattle.tl_commit_memory.proofs.Values.{first-could, loaded-now, taken-seen, unstored, with_seen_beat}

-- ---- a block that a link holds isn't free

pub not-free : {w : ℕ} (n c block : ℕ) (t : Trace w) → c < n
    → same_perm (may_hold block (on_link c t)) Perm.None ≡ false → is_free n Perm.Trunk block t ≡ false
unfolding is_free
not-free zero c block t below some = absurd (omega (arith, below))
not-free {w} (suc n) c block t below some = elim (cases_eq c n) [
  | inl same ↦ last (is_free n Perm.Trunk block t) _
      (subst (λ (k : ℕ). leaves Perm.Trunk (may_hold block (on_link k t)) ≡ false) same some)
  | inr other ↦ rw (not-free n c block t (omega (arith, below, other)) some) refl
]
  where
    last : (a b : Bool) → b ≡ false → (a && b) ≡ false
    last true b e = e
    last false b e = refl

-- ---- which stores are in the trace

module _ {w : ℕ} (n : ℕ) (first : Memory) (address : ℕ) where
  -- where nothing was stored none is missing
  clean-recorded : (steps : CommitRun w) → IsClean n first address (run_in steps) → IsRecorded n first address steps
  unfolding IsClean IsRecorded run_in
  clean-recorded [] clean = tt
  clean-recorded (Happened (Takes link x) ∷ steps) clean = elim clean [
    | inl free ↦ inl free
    | inr by ↦ inr (go (tells (block_at address) x (on_link link.0 (trace_in (run_in steps)))) by
        (clean-recorded steps))
  ]
    where
      go : (b : Bool) → OneOf b (TellsTrue first address link x (run_in steps)) (IsClean n first address (run_in steps))
          → (IsClean n first address (run_in steps) → IsRecorded n first address steps)
          → OneOf b (TellsTrue first address link x (run_in steps)) (IsRecorded n first address steps)
      go true by more = by
      go false by more = more by
  clean-recorded (Happened (Performs d i test left) ∷ steps) clean = clean-recorded steps clean
  clean-recorded (Happened (Stores block bytes) ∷ steps) clean = (inl clean.0, clean-recorded steps clean.1)
  clean-recorded (Happened (Leaves d i bytes) ∷ steps) clean = clean-recorded steps clean
  clean-recorded (Committed link x ∷ steps) clean = go (stores_byte address x) (clean-recorded steps clean)
    where
      go : (b : Bool) → IsRecorded n first address steps → OneOf b ⊤ (IsRecorded n first address steps)
      go true is = tt
      go false is = is

  module _ (link : Link) (x : Beat w) (steps : CommitRun w) (taken : IsTaken n first link x (run_in steps))
      (is : IsRun n first (run_in steps)) where
    -- a message shows the byte as memory has it
    shown : IsRecorded n first address (Happened (Takes link x) ∷ steps)
        → tells (block_at address) x (on_link link.0 (trace_in (run_in steps))) ≡ true
        → TellsTrue first address link x (run_in steps)
    unfolding IsRecorded
    shown recorded e = elim recorded [
      | inl free ↦ taken.tells_rightly address free e
      | inr by ↦ rw e at by
    ]

    -- where no link holds Trunk with a beat that tells nothing, nothing was stored
    pub clean-given : is_free n Perm.Branch (block_at address) ((link, x) ∷ trace_in (run_in steps)) ≡ true
        → tells (block_at address) x (on_link link.0 (trace_in (run_in steps))) ≡ false
        → IsClean n first address (run_in steps)
    clean-given free e = was (is_free n Perm.Branch (block_at address) (trace_in (run_in steps))) refl
      where
        was : (b : Bool) → is_free n Perm.Branch (block_at address) (trace_in (run_in steps)) ≡ b
            → IsClean n first address (run_in steps)
        was true f = clean-free n first address (run_in steps) is f
        was false f = elim (taken.given_up_rightly address f free) [
          | inl told ↦ absurd (let no : false ≡ true = sym e ∙ told in cc)
          | inr clean ↦ clean
        ]

    recorded-before : IsRecorded n first address (Happened (Takes link x) ∷ steps)
        → tells (block_at address) x (on_link link.0 (trace_in (run_in steps))) ≡ false
        → IsRecorded n first address steps
    unfolding IsRecorded
    recorded-before recorded e = elim recorded [
      | inr by ↦ rw e at by
      | inl free ↦ clean-recorded steps (clean-given free e)
    ]

-- ---- one more step

-- no access changes a byte of a block that a link holds
performed-same : {w : ℕ} (n : ℕ) (first : Memory) (address d i : ℕ) (test : ℕ → Bool) (left : Memory) (run : Run w)
    → IsPerformed n first d i test run → is_free n Perm.Trunk (block_at address) (trace_in run) ≡ false
    → memory_in first (Performs d i test left ∷ run) address ≡ memory_in first run address
unfolding memory_in effect
performed-same {w} n first address d i test left run is held = rw is.pending (go (test address) refl)
  where
    unwritten : (spoiled b : Bool) → access_writes address is.access ≡ b → b ≡ false
        → (if spoiled && b then left address
        else after is.access.request.opcode is.access.request (memory_in first run) address)
        ≡ memory_in first run address
    unwritten true false e f =
        after-unwritten is.access.request.opcode is.access.request (memory_in first run) address e
    unwritten false false e f =
        after-unwritten is.access.request.opcode is.access.request (memory_in first run) address e
    unwritten spoiled true e f = absurd cc

    unwrites : test address ≡ true → (b : Bool) → access_writes address is.access ≡ b → b ≡ false
    unwrites passes false e = refl
    unwrites passes true e = absurd (let no : false ≡ true = sym held ∙ is.writes_free address passes e in cc)

    go : (b : Bool) → test address ≡ b → (if b then left_by is.access left (memory_in first run) address
        else memory_in first run address) ≡ memory_in first run address
    go false e = refl
    go true e = unwritten is.access.spoiled (access_writes address is.access) refl
        (unwrites e (access_writes address is.access) refl)

module _ {w : ℕ} (complete : Completeness) (n : ℕ) (first : Memory) (starts : StartsAs complete.zero first)
    (address : ℕ) where
  abbrev byte : CommitRun w → Seen
  byte steps = seen complete n address (events_in steps)

  -- if a link holds the block, and no store to the byte is missing, the byte may be what memory has
  abbrev pub IsHeldTold : CommitRun w → Type 0
  IsHeldTold steps = is_free n Perm.Trunk (block_at address) (trace_in (run_in steps)) ≡ false
      → IsRecorded n first address steps → MayBe (memory_in first (run_in steps) address) (byte steps).values

  taken-told : (link : Link) (x : Beat w) (steps : CommitRun w) → IsTaken n first link x (run_in steps)
      → IsCommitRun n first steps → ShowsBlocks n link x (trace_in (run_in steps)) → IsHeldTold steps
      → IsHeldTold (Happened (Takes link x) ∷ steps)
  unfolding trace_in memory_in run_in
  taken-told link x steps taken is shows before held recorded =
      subst (λ (s : Seen). MayBe v s.values) (sym (taken-seen complete n first starts address link x steps))
      (go (tells (block_at address) x (on_link link.0 t)) refl)
    where
      t : Trace w
      t = trace_in (run_in steps)

      v : ℕ
      v = memory_in first (run_in steps) address

      runs : IsRun n first (run_in steps)
      runs = is-run n first steps is

      -- it was held before
      was-held : tells (block_at address) x (on_link link.0 t) ≡ false
          → is_free n Perm.Trunk (block_at address) t ≡ false
      was-held e = by (is_free n Perm.Trunk (block_at address) t) refl
        where
          by : (b : Bool) → is_free n Perm.Trunk (block_at address) t ≡ b → b ≡ false
          by false f = refl
          by true f = absurd (let no : false ≡ true = sym e ∙ shows.got (block_at address) f held in cc)

      -- no store is lost
      kept : tells (block_at address) x (on_link link.0 t) ≡ false → (b : Bool)
          → loses_stores (block_at address) x (on_link link.0 t) ≡ b
          → (byte steps).stored && b ≡ false
      kept e false f = never (byte steps).stored
        where
          never : (b : Bool) → b && false ≡ false
          never true = refl
          never false = refl
      kept e true f = rw (unstored complete n first starts address steps is
          (clean-given n first address link x steps taken runs (shows.lost (block_at address) f) e)) refl

      go : (b : Bool) → tells (block_at address) x (on_link link.0 t) ≡ b
          → MayBe v (with_seen_beat complete.zero n address link x t (byte steps)).values
      go true e = rw e (inl (shown n first address link x steps taken runs recorded e))
      go false e = rw (e, kept e (loses_stores (block_at address) x (on_link link.0 t)) refl)
          (after-settling address v (link, x) t (after_beat n address link.0 x t (byte steps).values)
          (after-beat n address v link.0 t (was-held e) x (byte steps).values
          (before (was-held e) (recorded-before n first address link x steps taken runs recorded e))))

  pub held-told : (steps : CommitRun w) → IsCommitRun n first steps → AreCopies complete n first steps
      → IsHeldTold steps
  unfolding IsCommitRun AreCopies IsRecorded run_in events_in trace_in memory_in seen
  held-told [] is copies held recorded = inl (first-could complete.zero first address starts)
  held-told (Happened (Takes link x) ∷ steps) is copies held recorded =
      taken-told link x steps is.0 is.1 copies.0 (held-told steps is.1 copies.2) held recorded
  held-told (Happened (Performs d i test left) ∷ steps) is copies held recorded =
      subst (λ (v : ℕ). MayBe v (byte steps).values)
      (sym (performed-same n first address d i test left (run_in steps) is.0 held))
      (held-told steps is.1 copies held recorded)
  held-told (Happened (Stores block bytes) ∷ steps) is copies held recorded =
      go (block_at address == block) refl (held-told steps is.1 copies held recorded.1)
    where
      v : ℕ
      v = memory_in first (run_in steps) address

      go : (b : Bool) → (block_at address == block) ≡ b → MayBe v (byte steps).values
          → MayBe (if b then bytes address else v) (byte steps).values
      go false e old = old
      go true e old = elim recorded.0 [
        | inl other ↦ absurd (let no : true ≡ false = sym e ∙ other in cc)
        | inr same ↦ rw same old
      ]
  held-told (Happened (Leaves d i bytes) ∷ steps) is copies held recorded =
      go (find (is_outrun_of d i) (outrun_accesses (trace_in (run_in steps)))) refl
      (held-told steps is.1 copies.1 held recorded)
    where
      v : ℕ
      v = memory_in first (run_in steps) address

      go : (o : Option Outrun) → find (is_outrun_of d i) (outrun_accesses (trace_in (run_in steps))) ≡ o
          → MayBe v (byte steps).values
          → MayBe (with_reached o bytes (memory_in first (run_in steps)) address) (byte steps).values
      go None e old = old
      go (Some access) e old = by (reaches access.address access.size address) refl
        where
          by : (b : Bool) → reaches access.address access.size address ≡ b
              → MayBe (if b then bytes address else v) (byte steps).values
          by false f = old
          by true f = absurd (let no : false ≡ true = sym held ∙ copies.0 address (rw e f) in cc)
  held-told (Committed link (commit.Begin piece) ∷ steps) is copies held recorded =
      held-told steps is.1 copies.1 held recorded
  held-told (Committed link (commit.Load piece value) ∷ steps) is copies held recorded =
      go (reaches piece.address piece.size address) refl
      (says_byte complete link.0 piece address (events_in steps)) refl (held-told steps is.1 copies.1 held recorded)
    where
      v : ℕ
      v = memory_in first (run_in steps) address

      go : (b : Bool) → reaches piece.address piece.size address ≡ b → (says : Bool)
          → says_byte complete link.0 piece address (events_in steps) ≡ says → MayBe v (byte steps).values
          → MayBe v (if b && says then record {
            values = told_now piece value address (length (beats_of (events_in steps)));
            stored = (byte steps).stored;
          } else byte steps).values
      go true e true f old = inl (eq-eqb _ _ (sym (loaded-now complete first link.0 piece address
          (byte_in piece value address) steps f (is.0 address e))))
      go true e false f old = old
      go false e says f old = old
  held-told (Committed link (commit.Store piece value) ∷ steps) is copies held recorded =
      go (reaches piece.address piece.size address) refl (held-told steps is.1 copies.1 held) recorded
    where
      v : ℕ
      v = memory_in first (run_in steps) address

      go : (b : Bool) → reaches piece.address piece.size address ≡ b
          → (IsRecorded n first address steps → MayBe v (byte steps).values)
          → OneOf b ⊤ (IsRecorded n first address steps) → MayBe v (if b then record {
            values = told_now piece value address (length (beats_of (events_in steps)));
            stored = true;
          } else byte steps).values
      go true e old said = inl (eq-eqb _ _ (sym (is.0 address e).stored))
      go false e old said = old said
