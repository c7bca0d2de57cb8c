-- One block in the cache of a link, by the history of a trace with commits.
use Rattle.std.specs.Prelude.{◌==◌, ◌&&◌, ◌+◌, ◌*◌, ◌^◌, ◌%◌, ℕ, Bool, false, List, [], ◌∷◌, length}
use Rattle.std.specs.Prelude.{Option, Some, None, if◌then◌else◌}
use Rattle.tl_beat.specs.declared.beat.Beat.{Beat}
use Rattle.tl_beat.specs.declared.beat.Beat.TheVariants as beat
use Rattle.tl_beat.specs.declared.beat.Link.{Link}
use Rattle.tl_beat.specs.declared.channel.Channel.{Channel}
use Rattle.tl_beat.specs.statement.Opcode.{c_carries_data}
use Rattle.tl_burst.specs.statement.Burst.{reaches}
use Rattle.tl_burst.specs.statement.Messages.{burst_length, on, unfinished}
use Rattle.tl_commits.specs.statement.Events.{Events, beats_of}
use Rattle.tl_events.specs.declared.commit.Commit.TheVariants as commit
use Rattle.tl_events.specs.declared.commit.Event.{Event}
use Rattle.tl_events.specs.declared.commit.Event.TheVariants as event
use Rattle.tl_events.specs.declared.commit.Piece.{Piece}
use Rattle.tl_monitor.specs.statement.Knows.{held_on_under, request_on}
use Rattle.tl_params.specs.declared.level.Level.{Level}
use Rattle.tl_params.specs.declared.liberties.Liberties.{Liberties}
use Rattle.tl_params.specs.declared.perm.Perm.{Perm}
use Rattle.tl_rules.specs.declared.past.Request.{Request}
use Rattle.tl_rules.specs.statement.Conformance.{on_link, same_perm}
use Rattle.tl_rules.specs.statement.History.{block_at, is_grant}
use Rattle.tl_commit_story.specs.declared.cached.Cached.{Cached}
use Rattle.tl_commit_story.specs.statement.Words.{event_text}

-- ---- the block

-- the words of an event after those of e; the header is line 1
abbrev pub cited : {w : ℕ} → Link → Event w → Events w → List ℕ
cited link x e = event_text (length e + 2) link x

-- the block that an event of M5 to M7 is about; 0 for a beat of another channel, which breaks none of them
abbrev pub block_of : {w : ℕ} → Event w → ℕ
block_of (event.Beat (beat.A x)) = block_at x.address
block_of (event.Beat (beat.C x)) = block_at x.address
block_of (event.Beat _) = 0
block_of (event.Commit (commit.Store piece value)) = block_at piece.address
block_of (event.Commit (commit.Load piece value)) = block_at piece.address
block_of (event.Commit (commit.Begin piece)) = block_at piece.address

-- ---- the permission held

-- the permission that it holds
abbrev pub holding : {w : ℕ} → Liberties → List Level → Cached → Events w → Perm
holding may levels c e = held_on_under may levels c.link c.block (beats_of e)

-- the words of the last event at which this changed; empty if it never has
unfoldable pub held_since : {w : ℕ} → Liberties → List Level → Cached → Events w → List ℕ
held_since may levels c [] = []
held_since may levels c (x ∷ e) =
    if same_perm (holding may levels c (x ∷ e)) (holding may levels c e) then held_since may levels c e else
    cited x.0 x.1 e

-- ---- data under way

-- the number of beats of the unfinished message on a channel of the link
abbrev pub came : {w : ℕ} → Channel → Cached → Events w → ℕ
came ch c e = length (unfinished ch (on_link c.link.0 (beats_of e)))

-- there is a request, of this block
abbrev pub is_asked : Option Request → ℕ → Bool
is_asked None block = false
is_asked (Some asked) block = asked.block == block

-- the beat is of a Grant, a ProbeAck or a Release of the block
abbrev pub moves : {w : ℕ} → List Level → Cached → Beat w → Events w → Bool
moves levels c (beat.C x) e = block_at x.address == c.block
moves levels c (beat.D x) e =
    is_grant x.opcode && is_asked (request_on levels c.link x.source (beats_of e)) c.block
moves levels c _ e = false

-- Words of the first beat of an unfinished message, with one more beat of its channel, before which n had come. They
-- are empty if the message is complete, or of another block.
abbrev pub begun_with : Bool → List ℕ → ℕ → ℕ → List ℕ → List ℕ
begun_with of_block words beats n before =
    if n + 1 == beats then [] else if n == 0 then (if of_block then words else []) else before

abbrev pub begun_after : {w : ℕ} → Channel → List Level → Cached → Link → Event w → Events w → List ℕ → List ℕ
begun_after ch levels c from (event.Beat x) e before =
    if (from.0 == c.link.0) && on ch x
    then begun_with (moves levels c x e) (cited from (event.Beat x) e) (burst_length x) (came ch c e) before
    else before
begun_after ch levels c from (event.Commit x) e before = before

-- the words of the first beat of the unfinished message on a channel of the link, if there is one and it moves data of
-- the block; otherwise empty
unfoldable pub begun_by : {w : ℕ} → Channel → List Level → Cached → Events w → List ℕ
begun_by ch levels c [] = []
begun_by ch levels c (x ∷ e) = begun_after ch levels c x.0 x.1 e (begun_by ch levels c e)

-- ---- stores

-- a store, with the number of its line
pub record Stored : Type 0 where
  pub number : ℕ
  pub link : Link
  pub piece : Piece
  pub value : ℕ

-- the piece has the byte at this place of the block
abbrev pub has_place : ℕ → ℕ → Piece → Bool
has_place block place piece =
    (block_at piece.address == block) && reaches piece.address piece.size (64 * block + place)

-- the last store to a byte, if this one is newer
abbrev pub newer : ℕ → ℕ → Stored → Option Stored → Option Stored
newer block place store before = if has_place block place store.piece then Some store else before

abbrev pub store_after : {w : ℕ} → ℕ → ℕ → ℕ → Link → Event w → Option Stored → Option Stored
store_after block place n link (event.Commit (commit.Store piece value)) before =
    newer block place (record { number = n; link = link; piece = piece; value = value }) before
store_after block place n link _ before = before

-- the last store, of any link, to the byte at a place of the block
unfoldable pub last_store : {w : ℕ} → ℕ → ℕ → Events w → Option Stored
last_store block place [] = None
last_store block place (x ∷ e) = store_after block place (length e + 2) x.0 x.1 (last_store block place e)

-- ---- the bytes of an event

-- The first place in the block, and the number, of the bytes that an event is about, if n beats of its message came
-- before it: those of a piece, those that the beat of a report brings, or all.
abbrev pub places_of : {w : ℕ} → ℕ → Event w → ℕ × ℕ
places_of n (event.Commit (commit.Store piece value)) = (piece.address % 64, 2 ^ piece.size)
places_of n (event.Commit (commit.Load piece value)) = (piece.address % 64, 2 ^ piece.size)
places_of n (event.Commit (commit.Begin piece)) = (piece.address % 64, 2 ^ piece.size)
places_of {w} n (event.Beat (beat.C x)) = if c_carries_data x.opcode then (w * n, w) else (0, 64)
places_of n (event.Beat _) = (0, 64)
