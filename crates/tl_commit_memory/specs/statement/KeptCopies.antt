-- That caches which store to, load from and report copies of one memory break none of M5, M6 and M7.
use Rattle.std.specs.Prelude.{ℕ, Bool, true, false, [], ◌∷◌, ◌≡◌, ◌⊎◌, ◌==◌, ◌+◌, ◌*◌, ◌<◌, find, length}
use Rattle.std.specs.Prelude.{Option, Some, None, slice_get, ⊤}
use Rattle.tl_beat.specs.declared.beat.Beat.{Beat}
use Rattle.tl_beat.specs.declared.beat.Beat.TheVariants as beat
use Rattle.tl_beat.specs.declared.beat.BeatC.{BeatC}
use Rattle.tl_beat.specs.declared.beat.Link.{Link}
use Rattle.tl_beat.specs.declared.channel.Channel.TheVariants as channel
use Rattle.tl_beat.specs.statement.Opcode.{c_carries_data}
use Rattle.tl_burst.specs.statement.Burst.{reaches}
use Rattle.tl_burst.specs.statement.Messages.{unfinished}
use Rattle.tl_params.specs.declared.perm.Perm.TheVariants as perm
use Rattle.tl_rules.specs.statement.Admission.{is_spoiled, lanes_of}
use Rattle.tl_rules.specs.statement.Conformance.{Trace, on_link}
use Rattle.tl_rules.specs.statement.Effect.{Memory}
use Rattle.tl_rules.specs.statement.History.{block_at}
use Rattle.tl_bytes.specs.statement.Bytes.{could_be, tells}
use Rattle.tl_bytes.specs.statement.Early.{is_outrun_of, is_released, outrun_accesses, reaches_byte}
use Rattle.tl_bytes.specs.statement.Free.{is_free}
use Rattle.tl_one_memory.specs.statement.Run.{Leaves, OneOf, Performs, Stores, Takes, TellsTrue, memory_in, trace_in}
use Rattle.tl_events.specs.declared.commit.Commit.{Commit}
use Rattle.tl_events.specs.declared.commit.Commit.TheVariants as commit
use Rattle.tl_events.specs.declared.commit.Event.{Event}
use Rattle.tl_events.specs.declared.commit.Event.TheVariants as event
use Rattle.tl_events.specs.declared.commit.Piece.{Piece}
use Rattle.tl_commits.specs.statement.Completeness.{Completeness, is_complete}
use Rattle.tl_commits.specs.statement.Commits.{broken_commit, broken_report, takes_trunk}
use Rattle.tl_commits.specs.statement.Copies.{brought, holds, is_known, link_beats, may_store}
use Rattle.tl_commits.specs.statement.Events.{Events, is_loading}
use Rattle.tl_commits.specs.statement.Seen.{byte_in, loses_stores}
use Rattle.tl_commit_memory.specs.statement.CommitRun.{CommitRun, Committed, Happened, IsCommitRun, begins, events_in}
use Rattle.tl_commit_memory.specs.statement.CommitRun.{StartsAs, run_in}

-- ---- which stores are in the trace

-- the commit is a store of the byte at an address
abbrev pub stores_byte : ℕ → Commit → Bool
stores_byte address (commit.Store piece value) = reaches piece.address piece.size address
stores_byte address _ = false

-- Each client's store that changes the byte is in the trace, since a message showed it as memory has it, or since no
-- link held Trunk of its block, or since a store of the byte in the trace.
unfoldable pub IsRecorded : {w : ℕ} → ℕ → Memory → ℕ → CommitRun w → Type 0
IsRecorded n first address [] = ⊤
IsRecorded n first address (Happened (Takes link x) ∷ steps) =
    (is_free n perm.Branch (block_at address) ((link, x) ∷ trace_in (run_in steps)) ≡ true)
    ⊎ OneOf (tells (block_at address) x (on_link link.0 (trace_in (run_in steps))))
    (TellsTrue first address link x (run_in steps)) (IsRecorded n first address steps)
IsRecorded n first address (Happened (Performs link source test left) ∷ steps) = IsRecorded n first address steps
IsRecorded n first address (Happened (Stores block bytes) ∷ steps) =
    (((block_at address == block) ≡ false) ⊎ (bytes address ≡ memory_in first (run_in steps) address))
    × IsRecorded n first address steps
IsRecorded n first address (Happened (Leaves link source bytes) ∷ steps) = IsRecorded n first address steps
IsRecorded n first address (Committed link x ∷ steps) =
    OneOf (stores_byte address x) ⊤ (IsRecorded n first address steps)

-- ---- copies

-- memory has the byte v, and no store to the byte is missing in the trace
abbrev pub IsKnownByte : {w : ℕ} → ℕ → Memory → ℕ → ℕ → CommitRun w → Type 0
IsKnownByte n first address v steps =
    (memory_in first (run_in steps) address ≡ v) × IsRecorded n first address steps

-- The copy may have the byte v, given the byte that a Grant under way has brought: that one, or else memory's, if the
-- link holds the block. Any byte, if that isn't known from the trace: the link holds Trunk, and not all its stores are
-- there.
abbrev pub CopyHas : {w : ℕ} → Completeness → ℕ → Memory → ℕ → ℕ → ℕ → Option (Option ℕ) → CommitRun w → Type 0
CopyHas complete n first link address v (Some value) steps = could_be v value ≡ true
CopyHas complete n first link address v None steps =
    (holds (block_at address) (link_beats link (events_in steps)) ≡ true)
    × OneOf (is_known complete link (block_at address) (link_beats link (events_in steps)))
    (IsKnownByte n first address v steps) ⊤

-- the copy of one of n links may have the byte v at an address
abbrev pub HasByte : {w : ℕ} → Completeness → ℕ → Memory → ℕ → ℕ → ℕ → CommitRun w → Type 0
HasByte complete n first link address v steps =
    (link < n) × CopyHas complete n first link address v (brought address (link_beats link (events_in steps))) steps

-- the copy of a link may have this value in the bytes of the piece
abbrev pub HasBytes : {w : ℕ} → Completeness → ℕ → Memory → ℕ → Piece → ℕ → CommitRun w → Type 0
HasBytes complete n first link piece value steps = (address : ℕ) → reaches piece.address piece.size address ≡ true
    → HasByte complete n first link address (byte_in piece value address) steps

-- it had at a moment since the last load of this piece on the link began
unfoldable pub HadBytes : {w : ℕ} → Completeness → ℕ → Memory → ℕ → Piece → ℕ → CommitRun w → Type 0
HadBytes complete n first link piece value [] = ⊥
HadBytes complete n first link piece value (x ∷ steps) = HasBytes complete n first link piece value (x ∷ steps)
    ⊎ ((begins link piece x ≡ false) × HadBytes complete n first link piece value steps)

-- ---- the conditions of each step

-- a message shows each block that a link gets while no link held it, and no link holds Trunk after an answer to a
-- ProbePerm took it away
pub record ShowsBlocks {w : ℕ} (n : ℕ) (link : Link) (x : Beat w) (t : Trace w) : Type 0 where
  pub got : (block : ℕ) → is_free n perm.Trunk block t ≡ true
      → is_free n perm.Trunk block ((link, x) ∷ t) ≡ false → tells block x (on_link link.0 t) ≡ true
  pub lost : (block : ℕ) → loses_stores block x (on_link link.0 t) ≡ true
      → is_free n perm.Branch block ((link, x) ∷ t) ≡ true

-- a beat of a report has the bytes of the copy, unless it is corrupt, or answered already
abbrev pub GivesCopy : {w : ℕ} → Completeness → ℕ → Memory → ℕ → BeatC w → CommitRun w → Type 0
GivesCopy {w} complete n first link y steps =
    is_released (block_at y.address) (beat.C y) (link_beats link (events_in steps)) ≡ false
    → is_spoiled (beat.C y) ≡ false → (j v : ℕ) → slice_get (lanes_of (beat.C y)) j ≡ Some v
    → HasByte complete n first link
    (64 * block_at y.address + w * length (unfinished channel.C (link_beats link (events_in steps))) + j) v steps

-- and no link holds Trunk after a beat without data took it away
abbrev pub GivesUp : {w : ℕ} → ℕ → Link → Beat w → CommitRun w → Type 0
GivesUp n link x steps = (block : ℕ) → takes_trunk x (link_beats link.0 (events_in steps)) ≡ Some block
    → is_free n perm.Branch block ((link, x) ∷ trace_in (run_in steps)) ≡ true

-- a link whose stores are all in the trace gives copies back rightly with the beat
abbrev pub ReportsRightly : {w : ℕ} → Completeness → ℕ → Memory → Link → Beat w → CommitRun w → Type 0
ReportsRightly complete n first link (beat.C y) steps =
    OneOf (c_carries_data y.opcode) (GivesCopy complete n first link.0 y steps) (GivesUp n link (beat.C y) steps)
ReportsRightly complete n first link x steps = GivesUp n link x steps

-- a core stores while it may, and loads bytes that its copy has, or had at a moment since the load began, if the trace
-- says when
abbrev pub UsesCopy : {w : ℕ} → Completeness → ℕ → Memory → ℕ → Commit → CommitRun w → Type 0
UsesCopy complete n first link (commit.Store piece value) steps =
    may_store (block_at piece.address) (link_beats link (events_in steps)) ≡ true
UsesCopy complete n first link (commit.Load piece value) steps = HasBytes complete n first link piece value steps
    ⊎ ((is_loading link piece (events_in steps) ≡ true) × HadBytes complete n first link piece value steps)
UsesCopy complete n first link (commit.Begin piece) steps = ⊤

-- All steps are so. An access that was answered before its request was complete leaves its bytes while no link holds
-- their block.
unfoldable pub AreCopies : {w : ℕ} → Completeness → ℕ → Memory → CommitRun w → Type 0
AreCopies complete n first [] = ⊤
AreCopies complete n first (Happened (Takes link x) ∷ steps) = ShowsBlocks n link x (trace_in (run_in steps))
    × (is_complete complete link.0 ≡ true → ReportsRightly complete n first link x steps)
    × AreCopies complete n first steps
AreCopies complete n first (Happened (Performs link source test left) ∷ steps) = AreCopies complete n first steps
AreCopies complete n first (Happened (Stores block bytes) ∷ steps) = AreCopies complete n first steps
AreCopies complete n first (Happened (Leaves link source bytes) ∷ steps) =
    ((address : ℕ) → reaches_byte address (find (is_outrun_of link source) (outrun_accesses (trace_in (run_in steps))))
    ≡ true → is_free n perm.Trunk (block_at address) (trace_in (run_in steps)) ≡ true)
    × AreCopies complete n first steps
AreCopies complete n first (Committed link x ∷ steps) =
    UsesCopy complete n first link.0 x steps × AreCopies complete n first steps

-- ---- the law

-- the event breaks none of M5, M6 and M7 after e
abbrev pub KeepsCopies : {w : ℕ} → Completeness → ℕ → ℕ → Event w → Events w → Type 0
KeepsCopies complete n link (event.Beat x) e = broken_report complete n link x e ≡ None
KeepsCopies complete n link (event.Commit x) e = broken_commit complete n link x e ≡ None

-- so do all events of a trace
unfoldable pub KeepCopies : {w : ℕ} → Completeness → ℕ → Events w → Type 0
KeepCopies complete n [] = ⊤
KeepCopies complete n (x ∷ e) = KeepsCopies complete n x.0.0 x.1 e × KeepCopies complete n e

-- Whatever memory was at first, but zero if the header says that it was, and whichever links say that all their stores
-- are in the trace: if there is such a run beside the beats and the commits, and its copies are used so, no event
-- breaks M5, M6 or M7.
abbrev pub KeptCopies : ℕ → Type 0
KeptCopies w = (complete : Completeness) (n : ℕ) (first : Memory) (run : CommitRun w) → StartsAs complete.zero first
    → IsCommitRun n first run → AreCopies complete n first run → KeepCopies complete n (events_in run)
