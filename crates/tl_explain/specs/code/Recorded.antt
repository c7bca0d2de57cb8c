-- What a recorder keeps of the beats before the one at fault.
use Rattle.std.specs.Prelude.{ℕ, Bool, false, not, ◌&&◌, List, [], ◌∷◌, ◌==◌}
use Rattle.std.specs.Prelude.{◌-◌, ◌≡◌, if◌then◌else◌, length, Option, Some, None}
use Rattle.tl_beat.specs.declared.beat.Beat.{Beat}
use Rattle.tl_beat.specs.declared.beat.Beat.TheVariants as beat
use Rattle.tl_beat.specs.declared.beat.Link.{Link}
use Rattle.tl_beat.specs.declared.channel.Channel.{Channel}
use Rattle.tl_burst.specs.statement.Messages.{History, burst_length, channel_of, unfinished}
use Rattle.tl_burst.specs.statement.Part.{is_small}
use Rattle.tl_params.specs.declared.key.Key.{Key}
use Rattle.tl_params.specs.declared.key.Key.TheVariants.{RequestSource, ReleaseSource, AcquireOf}
use Rattle.tl_params.specs.declared.key.Key.TheVariants.{ReleaseOf, GrantSink, GrantAckOf, ProbeOf}
use Rattle.tl_rules.specs.statement.Conformance.{Trace, on_link}
use Rattle.tl_rules.specs.statement.History.{begins, ends, block_at, is_grant}
use Rattle.tl_rules.specs.statement.History.{is_release, request_of, release_of}
use Rattle.tl_rules.specs.statement.Liberties.{held_under}
use Rattle.tl_params.specs.declared.liberties.Liberties.{Liberties}
use Rattle.tl_params.specs.statement.Liberties.{no_liberties}
use Rattle.tl_monitor.specs.statement.Count.{at}
use Rattle.tl_explain.specs.declared.told.Told.{Told}
use Rattle.tl_beat.specs.statement.Control.{control_of}
use Rattle.tl_beat.specs.declared.control.Control.{Control}
use Rattle.tl_beat.specs.declared.control.Control.TheVariants as control
use Rattle.tl_explain.specs.declared.turn.Turn.{Turn}
use Rattle.tl_explain.specs.declared.bursts.Begun.{Begun}
use Rattle.tl_monitor.specs.declared.bursts.Unfinished.{Unfinished}
use Rattle.tl_monitor.specs.code.Bursts.{burst_on, continues_burst, IsOf}
use Rattle.tl_explain.specs.declared.blocks.Blocks.{Blocks}
use Rattle.tl_explain.specs.declared.held.Held.{Held}
use Rattle.tl_explain.specs.declared.turns.Moment.{Moment}
use Rattle.tl_explain.specs.declared.turns.Subject.{Subject}
use Rattle.tl_explain.specs.declared.turns.Turns.{Turns}
use Rattle.tl_explain.specs.declared.recorder.Recorder.{Recorder}
use Rattle.tl_explain.specs.statement.Evidence.{told, is_open, last_opening, last_closing}
use Rattle.tl_explain.specs.statement.Evidence.{last_saying_under, burst_opening, mention_of}
pub use Rattle.tl_explain.specs.statement.Subject.{block_asked, block_released, block_of}

-- ---- bursts

-- the record of a burst, if one is unfinished
abbrev pub begun_by : Option (Unfinished Moment) → Option Begun
begun_by None = None
begun_by (Some u) = Some (record { first = u.beside.told; newest = u.control; came = u.beside.length - u.left })

-- the record of the burst on a channel
abbrev pub begun_on : Recorder → Channel → Option Begun
begun_on r ch = begun_by (burst_on r.bursts ch)

-- this is the burst that is unfinished on the channel of link n
abbrev pub IsBegun : {w : ℕ} → Option Begun → ℕ → Channel → Trace w → Type 0
IsBegun None n ch t = unfinished ch (on_link n t) ≡ []
IsBegun {w} (Some b) n ch t =
    (newest : Beat w) × (earlier : List (Beat w)) × (unfinished ch (on_link n t) ≡ newest ∷ earlier)
    × (b.newest ≡ control_of newest)
    × (length (unfinished ch (on_link n t)) ≡ b.came) × (burst_opening n ch t ≡ Some b.first.mention)

-- ---- keys

abbrev pub is_number : ℕ → Option ℕ → Bool
is_number n None = false
is_number n (Some m) = m == n

abbrev pub sink_by : Control → Option ℕ
sink_by (control.D x) = Some x.sink
sink_by _ = None

-- the block of the last request with this source, and of the last Release, with one more beat
abbrev pub asked_next : {w : ℕ} → Bool → Beat w → ℕ → Option ℕ → Option ℕ
asked_next first (beat.A x) s before = if first && (x.source == s) then Some (block_at x.address) else before
asked_next first _ s before = before

abbrev pub released_next : {w : ℕ} → Bool → Beat w → ℕ → Option ℕ → Option ℕ
released_next first (beat.C x) s before = if first && (is_release x.opcode && (x.source == s)) then Some
    (block_at x.address) else before
released_next first _ s before = before

-- a burst of which this is the newest beat is of a message that opens the key, by its source or sink
abbrev pub comes_by : Key → Control → Bool
comes_by (RequestSource s) (control.A x) = x.source == s
comes_by (ReleaseSource s) (control.C x) = is_release x.opcode && (x.source == s)
comes_by (GrantSink s) (control.D x) = is_grant x.opcode && (x.sink == s)
comes_by _ _ = false

abbrev pub sink_in : Option Told → Option ℕ
sink_in None = None
sink_in (Some m) = sink_by m.mention.control

-- the message that opened the key, if none has closed it
abbrev pub open_message : Turn → Option Told
open_message turn = if is_open (mention_of turn.opening) (mention_of turn.closing) then turn.opening else None

-- the last messages of link n that opened and closed the key
pub record IsTurn {w : ℕ} (turn : Turn) (n : ℕ) (k : Key) (t : Trace w) : Type 0 where
  pub opening_is : mention_of turn.opening ≡ last_opening n k t
  pub closing_is : mention_of turn.closing ≡ last_closing n k t

-- the moment is that of the beat x of link n after t
pub record IsMoment {w : ℕ} (m : Moment) (n : ℕ) (x : Link × Beat w) (t : Trace w) : Type 0 where
  pub told_is : m.told.mention ≡ told x t
  pub length_is : m.length ≡ burst_length x.1
  pub of_link : x.0.0 ≡ n
  pub first_is : m.first ≡ begins x.1 (on_link n t)
  pub last_is : m.last ≡ ends x.1 (on_link n t)
  pub block_is : m.block ≡ block_of x.1 (on_link n t)

-- the messages that opened and closed the keys of the subject
pub record AreTurns {w : ℕ} (r : Turns) (subject : Subject) (t : Trace w) : Type 0 where
  pub request_is : IsTurn r.request subject.link.0 (RequestSource subject.source) t
  pub release_with_source_is : IsTurn r.release_with_source subject.link.0 (ReleaseSource subject.source) t
  pub acquire_is : IsTurn r.acquire subject.link.0 (AcquireOf subject.block) t
  pub release_is : IsTurn r.release subject.link.0 (ReleaseOf subject.block) t
  pub sink_is : IsTurn r.sink subject.link.0 (GrantSink subject.sink) t
  pub grant_ack_is : IsTurn r.grant_ack subject.link.0 (GrantAckOf subject.block) t
  pub probe_is : IsTurn r.probe subject.link.0 (ProbeOf subject.block) t

-- what link n, which has these liberties, holds of block k, and the last message that says so
pub record IsHeld {w : ℕ} (h : Held) (l : Liberties) (n k : ℕ) (t : Trace w) : Type 0 where
  pub perm_is : h.perm ≡ held_under l k (on_link n t)
  pub since_is : mention_of h.since ≡ last_saying_under l n k t

-- the blocks of the last request and of the last Release with each source
pub record AreBlocks {w : ℕ} (b : Blocks) (t : History w) : Type 0 where
  pub asked_are : (s : ℕ) → at b.asked s ≡ block_asked (request_of s t)
  pub released_are : (s : ℕ) → at b.released s ≡ block_released (release_of s t)

-- all that is recorded is what the trace has, on a link with these liberties
pub record IsRecordUnder {w : ℕ} (l : Liberties) (r : Recorder) (t : Trace w) : Type 0 where
  pub liberties_are : r.liberties ≡ l
  pub bursts_are : (ch : Channel) → IsOf (burst_on r.bursts ch) (unfinished ch (on_link r.subject.link.0 t))
  pub begun_are : (ch : Channel) → IsBegun (begun_on r ch) r.subject.link.0 ch t
  pub blocks_are : AreBlocks r.blocks (on_link r.subject.link.0 t)
  pub turns_are : AreTurns r.turns r.subject t
  pub held_is : IsHeld r.held l r.subject.link.0 r.subject.block t

-- the same on a link without liberties
abbrev pub IsRecord : {w : ℕ} → Recorder → Trace w → Type 0
IsRecord r t = IsRecordUnder no_liberties r t

-- a beat of the subject's link that no message has there: of no message's size, or not of the burst on its channel
abbrev pub is_stray : {w : ℕ} → Recorder → Link → Beat w → Bool
is_stray r link x =
    (link.0 == r.subject.link.0) && not (is_small x && continues_burst x (burst_on r.bursts (channel_of x)))
