-- A run of one memory with the stores and loads of cores: memory has the bytes that were stored, and had the bytes
-- that were loaded.
use Rattle.std.specs.Prelude.{ℕ, Bool, true, false, List, [], ◌∷◌, ◌≡◌, ◌⊎◌, ◌==◌, Option, Some, None, ⊤}
use Rattle.tl_beat.specs.declared.beat.Link.{Link}
use Rattle.tl_burst.specs.statement.Burst.{reaches}
use Rattle.tl_rules.specs.statement.Effect.{Memory}
use Rattle.tl_rules.specs.statement.History.{block_at}
use Rattle.tl_bytes.specs.statement.Bytes.{could_be}
use Rattle.tl_one_memory.specs.statement.Run.{Happening, Happens, Leaves, Performs, Run, Stores, Takes, memory_in}
use Rattle.tl_events.specs.declared.commit.Commit.{Commit}
use Rattle.tl_events.specs.declared.commit.Commit.TheVariants as commit
use Rattle.tl_events.specs.declared.commit.Event.TheVariants as event
use Rattle.tl_events.specs.declared.commit.Piece.{Piece}
use Rattle.tl_commits.specs.statement.Copies.{brought, link_beats}
use Rattle.tl_commits.specs.statement.Events.{Events, begins_load, is_loading}
use Rattle.tl_commits.specs.statement.Seen.{byte_in}

-- a happening of a run of one memory, or the commit of a core that the trace has
pub data Step (w : ℕ) : Type 0 where
  Happened : Happening w → Step w
  Committed : Link → Commit → Step w

-- all steps, the newest first
abbrev pub CommitRun : ℕ → Type 0
CommitRun w = List (Step w)

-- the run without the commits
unfoldable pub run_in : {w : ℕ} → CommitRun w → Run w
run_in [] = []
run_in (Happened x ∷ steps) = x ∷ run_in steps
run_in (Committed link x ∷ steps) = run_in steps

-- the events with the beat that is taken, if one is
abbrev pub with_taken : {w : ℕ} → Happening w → Events w → Events w
with_taken (Takes link x) e = (link, event.Beat x) ∷ e
with_taken (Performs link source test left) e = e
with_taken (Stores block bytes) e = e
with_taken (Leaves link source bytes) e = e

-- the beats that were taken and the commits, the newest first
unfoldable pub events_in : {w : ℕ} → CommitRun w → Events w
events_in [] = []
events_in (Happened x ∷ steps) = with_taken x (events_in steps)
events_in (Committed link x ∷ steps) = (link, event.Commit x) ∷ events_in steps

-- ---- stores

-- the last happening is a store of a client to its copy of the block
abbrev pub stores_to : {w : ℕ} → ℕ → Run w → Bool
stores_to block [] = false
stores_to block (Takes link x ∷ run) = false
stores_to block (Performs link source test left ∷ run) = false
stores_to block (Stores stored bytes ∷ run) = stored == block
stores_to block (Leaves link source bytes ∷ run) = false

-- A store of this byte in the trace comes directly after the client's store to its copy, and memory has the byte then.
pub record IsStored {w : ℕ} (first : Memory) (address v : ℕ) (run : Run w) : Type 0 where
  pub behind : stores_to (block_at address) run ≡ true
  pub stored : memory_in first run address ≡ v

-- ---- loads

-- a Grant under way has brought the byte, and it is v, or any
abbrev pub HasBrought : ℕ → Option (Option ℕ) → Type 0
HasBrought v None = ⊥
HasBrought v (Some value) = could_be v value ≡ true

-- a load of a link may find the byte v now: memory has it, or a Grant under way has brought it
abbrev pub MayFind : {w : ℕ} → Memory → ℕ → ℕ → ℕ → CommitRun w → Type 0
MayFind first link address v steps =
    (memory_in first (run_in steps) address ≡ v) ⊎ HasBrought v (brought address (link_beats link (events_in steps)))

-- with this step a load of the piece begins on the link
abbrev pub begins : {w : ℕ} → ℕ → Piece → Step w → Bool
begins link piece (Happened x) = false
begins {w} link piece (Committed from x) = begins_load {w = w} link piece (from, event.Commit x)

-- at a moment since the last load of this piece on the link began it might find the byte v
unfoldable pub MightFind : {w : ℕ} → Memory → ℕ → Piece → ℕ → ℕ → CommitRun w → Type 0
MightFind first link piece address v [] = ⊥
MightFind first link piece address v (x ∷ steps) =
    MayFind first link address v (x ∷ steps)
    ⊎ ((begins link piece x ≡ false) × MightFind first link piece address v steps)

-- A load finds this byte now, or at a moment since it began, if the trace says when.
abbrev pub IsLoaded : {w : ℕ} → Memory → ℕ → Piece → ℕ → ℕ → CommitRun w → Type 0
IsLoaded first link piece address v steps =
    MayFind first link address v steps
    ⊎ ((is_loading link piece (events_in steps) ≡ true) × MightFind first link piece address v steps)

-- ---- all steps

-- a commit that comes after a run: each byte of a store was stored, and each byte of a load is one that it finds
abbrev pub IsCommitted : {w : ℕ} → Memory → ℕ → Commit → CommitRun w → Type 0
IsCommitted first link (commit.Store piece value) steps = (address : ℕ)
    → reaches piece.address piece.size address ≡ true
    → IsStored first address (byte_in piece value address) (run_in steps)
IsCommitted first link (commit.Load piece value) steps = (address : ℕ)
    → reaches piece.address piece.size address ≡ true
    → IsLoaded first link piece address (byte_in piece value address) steps
IsCommitted first link (commit.Begin piece) steps = ⊤

-- memory was at first as the header of a trace says: zero, or anything
abbrev pub StartsAs : Bool → Memory → Type 0
StartsAs true first = (address : ℕ) → first address ≡ 0
StartsAs false first = ⊤

-- The run is one of a memory that was this at first, beside the beats of n links and the commits of their cores. Stores
-- that aren't in the trace are happenings alone.
unfoldable pub IsCommitRun : {w : ℕ} → ℕ → Memory → CommitRun w → Type 0
IsCommitRun n first [] = ⊤
IsCommitRun n first (Happened x ∷ steps) = Happens n first x (run_in steps) × IsCommitRun n first steps
IsCommitRun n first (Committed link x ∷ steps) = IsCommitted first link.0 x steps × IsCommitRun n first steps
