-- The facts about a message that the beats before it give, at its first beat.
use Rattle.std.specs.Prelude.{ℕ, ◌^◌, Bool, false, not, [], ◌∷◌, ◌==◌, ◌&&◌, ◌+◌, length, if◌then◌else◌}
use Rattle.std.specs.Prelude.{Option, Some, None, is_some, option_map}
use Rattle.tl_beat.specs.declared.beat.Beat.{Beat}
use Rattle.tl_beat.specs.declared.beat.Beat.TheVariants as beat
use Rattle.tl_beat.specs.declared.beat.BeatA.{BeatA}
use Rattle.tl_beat.specs.declared.opcode.OpA.{OpA}
use Rattle.tl_beat.specs.declared.opcode.OpA.TheVariants as a
use Rattle.tl_beat.specs.declared.control.Control.{Control}
use Rattle.tl_beat.specs.statement.Control.{control_of}
use Rattle.tl_beat.specs.declared.channel.Channel.{Channel}
use Rattle.tl_beat.specs.declared.channel.Channel.TheVariants as channel
use Rattle.tl_beat.specs.declared.control.Control.TheVariants as control
use Rattle.tl_burst.specs.statement.Messages.{History, on}
use Rattle.tl_cover.specs.declared.scene.ProbeAt.{ProbeAt}
use Rattle.tl_cover.specs.declared.scene.Scene.{Scene}
use Rattle.tl_cover.specs.declared.scene.Standing.{Standing}
use Rattle.tl_cover.specs.declared.situation.Pending.{Pending}
use Rattle.tl_cover.specs.declared.situation.Pending.TheVariants as kind
use Rattle.tl_cover.specs.statement.Kinds.{asks}
use Rattle.tl_monitor.specs.statement.Count.{count_below}
use Rattle.tl_params.specs.declared.key.Key.TheVariants.{AcquireOf, ReleaseOf, GrantSink, GrantAckOf, ProbeOf}
use Rattle.tl_params.specs.declared.key.Key.TheVariants.{ReleaseSource, RequestSource}
use Rattle.tl_params.specs.declared.liberties.Liberties.{Liberties}
use Rattle.tl_params.specs.declared.perm.Perm.{Perm}
use Rattle.tl_params.specs.declared.perm.Perm.TheVariants as perm
use Rattle.tl_rules.specs.statement.OpenMessages.{request_fields}
use Rattle.tl_rules.specs.declared.past.Request.{Request}
use Rattle.tl_rules.specs.statement.Conformance.{Trace, on_link, same_perm}
use Rattle.tl_rules.specs.statement.History.{begins, block_at, closes, ends, is_grant, is_release_ack, opens, pending}
use Rattle.tl_rules.specs.statement.History.{request_of}
use Rattle.tl_rules.specs.statement.Liberties.{held_under}

-- Links have numbers below n. t is the trace before the message, with the newest beat first.

-- an Acquire of block k is pending on link m, another than link i
abbrev pub acquires_beside : {w : ℕ} → ℕ → ℕ → Trace w → ℕ → Bool
acquires_beside i k t m = not (m == i) && pending (AcquireOf k) (on_link m t)

-- link m, another than link i, holds this permission of block k
abbrev pub holds_beside : {w : ℕ} → Liberties → ℕ → ℕ → Perm → Trace w → ℕ → Bool
holds_beside l i k held t m = not (m == i) && same_perm (held_under l k (on_link m t)) held

-- the number of links other than link i on which an Acquire of block k is pending
abbrev pub acquiring : {w : ℕ} → ℕ → ℕ → ℕ → Trace w → ℕ
acquiring n i k t = count_below n (acquires_beside i k t)

-- the number of links other than link i that hold this permission of block k
abbrev pub holders : {w : ℕ} → Liberties → ℕ → ℕ → ℕ → Perm → Trace w → ℕ
holders l n i k held t = count_below n (holds_beside l i k held t)

-- the state of block k, for a message on link i
abbrev pub standing : {w : ℕ} → Liberties → ℕ → ℕ → ℕ → Trace w → Standing
standing l n i k t = record {
  held = held_under l k (on_link i t);
  acquire = pending (AcquireOf k) (on_link i t);
  release = pending (ReleaseOf k) (on_link i t);
  probe = pending (ProbeOf k) (on_link i t);
  grant_ack = pending (GrantAckOf k) (on_link i t);
  acquiring = acquiring n i k t;
  owners = holders l n i k perm.Trunk t;
  readers = holders l n i k perm.Branch t;
}

-- the state for a message without a block
abbrev pub nothing : Standing
nothing = record {
  held = perm.None;
  acquire = false;
  release = false;
  probe = false;
  grant_ack = false;
  acquiring = 0;
  owners = 0;
  readers = 0;
}

-- the state of the message's block, if it has one
abbrev pub standing_of : {w : ℕ} → Liberties → ℕ → ℕ → Option ℕ → Trace w → Standing
standing_of l n i None t = nothing
standing_of l n i (Some k) t = standing l n i k t

-- the last request with the source of a response, unless that is a ReleaseAck
abbrev pub request_named : {w : ℕ} → Beat w → History w → Option Request
request_named (beat.D x) h = if is_release_ack x.opcode then None else request_fields (request_of x.source h)
request_named _ h = None

-- the block of a message: that of its address, or for a response to a request that of the request
abbrev pub block_named : {w : ℕ} → Beat w → History w → Option ℕ
block_named (beat.A x) h = Some (block_at x.address)
block_named (beat.B x) h = Some (block_at x.address)
block_named (beat.C x) h = Some (block_at x.address)
block_named x h = option_map (λ r. r.block) (request_named x h)

-- the param of a Probe
abbrev pub cap_param : {w : ℕ} → Beat w → ℕ
cap_param (beat.B x) = x.param
cap_param _ = 0

-- The pending Probe of block k on link i, with its line. Line 1 of a trace is its header, and each beat has a line.
unfoldable pub probe_at : {w : ℕ} → ℕ → ℕ → Trace w → Option ProbeAt
probe_at i k [] = None
probe_at i k (x ∷ t) =
    if not (x.0.0 == i) then probe_at i k t else
    if begins x.1 (on_link i t) && opens (ProbeOf k) x.1 (on_link i t)
    then Some (record { param = cap_param x.1; line = length t + 2 }) else
    if ends x.1 (on_link i t) && closes (ProbeOf k) x.1 (on_link i t) then None else
    probe_at i k t

-- the pending Probe of the message's block, if it has one
abbrev pub asked_of : {w : ℕ} → ℕ → Option ℕ → Trace w → Option ProbeAt
asked_of i None t = None
asked_of i (Some k) t = probe_at i k t

-- the control fields of the newest beat
abbrev pub newest : {w : ℕ} → History w → Option Control
newest [] = None
newest (y ∷ h) = Some (control_of y)

-- the control fields of the newest beat of channel ch, if it doesn't complete its message
unfoldable pub under_way : {w : ℕ} → Channel → History w → Option Control
under_way ch [] = None
under_way ch (y ∷ h) = if on ch y then (if ends y h then None else Some (control_of y)) else under_way ch h

-- the control fields of the newest beat of an incomplete message on the channel that a beat answers: C for a
-- ReleaseAck, A for another response, D for a GrantAck
abbrev pub answered : {w : ℕ} → Beat w → History w → Option Control
answered (beat.D x) h = if is_release_ack x.opcode then under_way channel.C h else under_way channel.A h
answered (beat.E x) h = under_way channel.D h
answered _ h = None

-- a message is incomplete on each of the channels A, C and D
abbrev pub is_between : {w : ℕ} → History w → Bool
is_between h = is_some (under_way channel.A h) && (is_some (under_way channel.C h) && is_some (under_way channel.D h))

-- the control fields are those of a Grant
abbrev pub is_of_grant : Option Control → Bool
is_of_grant (Some (control.D y)) = is_grant y.opcode
is_of_grant _ = false

-- a Grant is incomplete on link m, another than link i
abbrev pub grants_beside : {w : ℕ} → ℕ → Trace w → ℕ → Bool
grants_beside i t m = not (m == i) && is_of_grant (under_way channel.D (on_link m t))

-- the number of links other than link i on which a Grant is incomplete
abbrev pub granting : {w : ℕ} → ℕ → ℕ → Trace w → ℕ
granting n i t = count_below n (grants_beside i t)

-- ---- how many are pending

-- there is a request, and it is of this kind
abbrev pub asks_so : {w : ℕ} → Pending → Option (BeatA w) → Bool
asks_so kind None = false
asks_so kind (Some x) = asks kind x.opcode

-- the number of sources whose request is pending and of this kind
abbrev pub requests_pending : {w : ℕ} → Pending → History w → ℕ
requests_pending kind h = count_below 256 (λ s. pending (RequestSource s) h && asks_so kind (request_of s h))

-- the number of pending requests of the kind of this opcode: Acquires, Gets, Puts or atomics
abbrev pub alike_pending : {w : ℕ} → OpA → History w → ℕ
alike_pending a.AcquireBlock h = requests_pending kind.Acquire h
alike_pending a.AcquirePerm h = requests_pending kind.Acquire h
alike_pending a.Get h = requests_pending kind.Get h
alike_pending a.PutFullData h = requests_pending kind.Put h
alike_pending a.PutPartialData h = requests_pending kind.Put h
alike_pending a.ArithmeticData h = requests_pending kind.Atomic h
alike_pending a.LogicalData h = requests_pending kind.Atomic h
alike_pending a.Intent h = 0

-- the number of blocks whose Probe is pending
abbrev pub probes_pending : {w : ℕ} → History w → ℕ
probes_pending h = count_below (2 ^ 26) (λ k. pending (ProbeOf k) h)

-- the number of sources whose Release is pending
abbrev pub releases_pending : {w : ℕ} → History w → ℕ
releases_pending h = count_below 256 (λ s. pending (ReleaseSource s) h)

-- the number of sinks whose GrantAck is pending
abbrev pub grants_pending : {w : ℕ} → History w → ℕ
grants_pending h = count_below 256 (λ s. pending (GrantSink s) h)

-- the number of messages of the kind of this beat's message that are pending before it
abbrev pub depth : {w : ℕ} → Beat w → History w → ℕ
depth (beat.A x) h = alike_pending x.opcode h
depth (beat.B x) h = probes_pending h
depth (beat.C x) h = releases_pending h
depth (beat.D x) h = grants_pending h
depth (beat.E x) h = 0

-- the facts about the message that begins with the beat x on link i
abbrev pub scene : {w : ℕ} → Liberties → ℕ → ℕ → Beat w → Trace w → Scene
scene l n i x t = record {
  line = length t + 1;
  asked = asked_of i (block_named x (on_link i t)) t;
  block = standing_of l n i (block_named x (on_link i t)) t;
  waiting = grants_pending (on_link i t);
  depth = depth x (on_link i t);
  request = request_named x (on_link i t);
  previous = newest (on_link i t);
  answered = answered x (on_link i t);
  between = is_between (on_link i t);
  granting = granting n i t;
}
