-- The stores and loads of clients in their copies, and their lines in a trace.
use Rattle.std.specs.Prelude.{◌≡◌, ℕ, zero, suc, ◌+◌, ◌*◌, ◌%◌, ◌^◌, ◌==◌, ◌&&◌, true, if◌then◌else◌, List, []}
use Rattle.std.specs.Prelude.{◌∷◌, ◌++◌, take, drop, ⊤, Option, Some, None}
use Rattle.std.specs.Int.{from_le_bytes, w64}
use Rattle.tl_beat.specs.declared.beat.Link.{Link}
use Rattle.tl_client.specs.declared.operation.Op.{Op}
use Rattle.tl_client.specs.declared.operation.Op.TheVariants as op
use Rattle.tl_client.specs.declared.reply.Reply.{Reply}
use Rattle.tl_client.specs.declared.reply.Reply.TheVariants as reply
use Rattle.tl_client.specs.declared.verdict.Finish.TheVariants.{Granted}
use Rattle.tl_client.specs.statement.Ask.{is_word}
use Rattle.tl_coherence.specs.declared.event.Event.{Event}
use Rattle.tl_coherence.specs.declared.event.Event.TheVariants.{Ask, Deliver}
use Rattle.tl_coherence.specs.declared.event.Outcome.{Outcome}
use Rattle.tl_coherence.specs.declared.event.Outcome.TheVariants.{Replied, Done}
use Rattle.tl_coherence.specs.statement.Log.{Log}
use Rattle.tl_events.specs.declared.commit.Commit.{Commit}
use Rattle.tl_events.specs.declared.commit.Commit.TheVariants as commit
use Rattle.tl_events.specs.declared.commit.Piece.{Piece}
use Rattle.tl_events.specs.statement.CommitLine.{commit_line}
use Rattle.tl_schedule.specs.declared.whole.Begun.{Begun}
use Rattle.tl_schedule.specs.declared.whole.WholeStore.{WholeStore}

-- ---- a Load or a Store, which is done at once or not at all

-- the bytes of a Load or a Store
abbrev pub piece_at : ℕ → ℕ → Piece
piece_at address size = record { size = size; address = address }

-- the low 2^size bytes of a number
abbrev pub low_part : ℕ → ℕ → ℕ
low_part size number = number % 2 ^ (8 * 2 ^ size)

-- The commit of a reply to an operation. The other operations don't reach the copy when they are asked for.
abbrev pub commit_of : {w : ℕ} → Op w → Reply → Option Commit
commit_of (op.Load address size) (reply.Value value) = Some (commit.Load (piece_at address size) (low_part size value))
commit_of (op.Store address size value) reply.Stored = Some (commit.Store (piece_at address size) (low_part size value))
commit_of _ _ = None

-- the commit of a client that was asked
abbrev pub asked_commit : {w : ℕ} → Event w → Outcome w → Option Commit
asked_commit (Ask client operation) (Replied reply) = commit_of operation reply
asked_commit _ _ = None

-- a Load or a Store that is done is of 1, 2, 4 or 8 bytes, at an address that is a multiple of their number
abbrev pub IsOfPiece : {w : ℕ} → Op w → Reply → Type 0
IsOfPiece (op.Load address size) (reply.Value value) = is_word address size ≡ true
IsOfPiece (op.Store address size value) reply.Stored = is_word address size ≡ true
IsOfPiece _ _ = ⊤

-- the same of the event
abbrev pub HasPiece : {w : ℕ} → Event w → Outcome w → Type 0
HasPiece (Ask client operation) (Replied reply) = IsOfPiece operation reply
HasPiece _ _ = ⊤

-- ---- a store of a whole block, which is done when it is granted

-- the whole block that a request stores when it is granted, if it does; None for the operations that are no request
abbrev pub requested : {w : ℕ} → Op w → Option (Option WholeStore)
requested (op.Acquire block grow) = Some None
requested (op.AcquireWhole block bytes) = Some (Some (record { block = block; bytes = bytes }))
requested (op.Access message) = Some None
requested _ = None

-- the source with which an operation started
abbrev pub started_with : Reply → Option ℕ
started_with (reply.Started source) = Some source
started_with _ = None

-- a request of a client, if it is one and started
abbrev pub begun_by : ℕ → Option (Option WholeStore) → Option ℕ → Option Begun
begun_by client None source = None
begun_by client (Some store) None = None
begun_by client (Some store) (Some source) = Some (record { client = client; source = source; store = store })

-- the request that started in an event
abbrev pub begun_in : {w : ℕ} → Event w → Outcome w → Option Begun
begun_in (Ask client operation) (Replied reply) = begun_by client (requested operation) (started_with reply)
begun_in _ _ = None

-- the request that starts takes the place of the one before it of its client, with its source
abbrev pub in_place : ℕ → ℕ → Option Begun → Option WholeStore → Option WholeStore
in_place client source None before = before
in_place client source (Some begun) before =
    if (begun.client == client) && (begun.source == source) then begun.store else before

-- the store of the last request of a client with a source
unfoldable pub store_begun : {w : ℕ} → ℕ → ℕ → Log w → Option WholeStore
store_begun client source [] = None
store_begun client source (x ∷ log) = in_place client source (begun_in x.0 x.1) (store_begun client source log)

-- the store of a whole block that is granted in an event after the log
abbrev pub store_granted : {w : ℕ} → Log w → Event w → Outcome w → Option WholeStore
store_granted log (Deliver link channel) (Done beat source (Granted perm)) = store_begun link.0 source log
store_granted log event outcome = None

-- the store of word i of a block
abbrev pub word_store : WholeStore → ℕ → Commit
word_store store i =
    commit.Store (piece_at (64 * store.block + 8 * i) 3) (from_le_bytes w64 (take 8 (drop (8 * i) store.bytes)))

-- the stores of n words of a block from word i on
unfoldable pub word_stores : WholeStore → ℕ → ℕ → List Commit
word_stores store i zero = []
word_stores store i (suc n) = word_store store i ∷ word_stores store (i + 1) n

-- the stores of the eight words of a block
abbrev pub whole_stores : Option WholeStore → List Commit
whole_stores None = []
whole_stores (Some store) = word_stores store 0 8

-- ---- their lines

-- the commit, if there is one
abbrev pub at_most_one : Option Commit → List Commit
at_most_one None = []
at_most_one (Some x) = x ∷ []

-- the commits of an event after the log, in the order of their lines
abbrev pub commits_of : {w : ℕ} → Log w → Event w → Outcome w → List Commit
commits_of log event outcome =
    at_most_one (asked_commit event outcome) ++ whole_stores (store_granted log event outcome)

-- the lines of commits of a link
unfoldable pub commits_text : Link → List Commit → List ℕ
commits_text link [] = []
commits_text link (x ∷ commits) = commit_line link x ++ commits_text link commits
