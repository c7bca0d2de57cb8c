-- The history of a link: the messages that began and are complete, the pending keys, and the permission that the client
-- holds.
use Rattle.std.specs.Prelude.{ℕ, Bool, true, false, not, [], ◌∷◌, ◌==◌, ◌&&◌, ◌||◌, ◌/◌, if◌then◌else◌, Option, Some}
use Rattle.std.specs.Prelude.{None, unwrap_or, option_map}
use Rattle.tl_beat.specs.declared.beat.Beat.{Beat}
use Rattle.tl_beat.specs.declared.beat.Beat.TheVariants as beat
use Rattle.tl_beat.specs.declared.beat.BeatA.{BeatA}
use Rattle.tl_beat.specs.declared.beat.BeatB.{BeatB}
use Rattle.tl_beat.specs.declared.beat.BeatC.{BeatC}
use Rattle.tl_beat.specs.declared.beat.BeatD.{BeatD}
use Rattle.tl_beat.specs.declared.opcode.OpA.{OpA}
use Rattle.tl_beat.specs.declared.opcode.OpA.TheVariants as a
use Rattle.tl_beat.specs.declared.opcode.OpB.{OpB}
use Rattle.tl_beat.specs.declared.opcode.OpB.TheVariants as b
use Rattle.tl_beat.specs.declared.opcode.OpC.{OpC}
use Rattle.tl_beat.specs.declared.opcode.OpC.TheVariants as c
use Rattle.tl_beat.specs.declared.opcode.OpD.{OpD}
use Rattle.tl_beat.specs.declared.opcode.OpD.TheVariants as d
use Rattle.tl_burst.specs.statement.Messages.{History, channel_of, unfinished}
use Rattle.tl_burst.specs.statement.Part.{is_empty, completes}
use Rattle.tl_params.specs.declared.key.Key.{Key}
use Rattle.tl_params.specs.declared.key.Key.TheVariants.{RequestSource, ReleaseSource, AcquireOf, ReleaseOf, GrantSink}
use Rattle.tl_params.specs.declared.key.Key.TheVariants.{GrantAckOf, ProbeOf}
use Rattle.tl_params.specs.declared.perm.Perm.{Perm}
use Rattle.tl_params.specs.declared.perm.Perm.TheVariants as perm
use Rattle.tl_params.specs.statement.Param.{cap_of, cap_right, report_named, report_right}

-- A history is that of one end of one link: a list of its beats, the newest first. A message begins at its first beat
-- and is complete at its last.

-- the beat begins a message after t
abbrev pub begins : {w : ℕ} → Beat w → History w → Bool
begins x t = is_empty (unfinished (channel_of x) t)

-- the beat completes a message after t
abbrev pub ends : {w : ℕ} → Beat w → History w → Bool
ends x t = completes x (unfinished (channel_of x) t)

-- ---- kinds of messages

-- the number of the block that an address is in
abbrev pub block_at : ℕ → ℕ
block_at address = address / 64

-- an Acquire asks for a permission
abbrev pub is_acquire : OpA → Bool
is_acquire a.AcquireBlock = true
is_acquire a.AcquirePerm = true
is_acquire _ = false

-- a Probe asks a client to give up a permission
abbrev pub is_probe : OpB → Bool
is_probe b.ProbeBlock = true
is_probe b.ProbePerm = true
is_probe _ = false

-- the answer to a Probe
abbrev pub is_probe_ack : OpC → Bool
is_probe_ack c.ProbeAck = true
is_probe_ack c.ProbeAckData = true
is_probe_ack _ = false

-- a Release gives up a permission without a Probe
abbrev pub is_release : OpC → Bool
is_release c.Release = true
is_release c.ReleaseData = true
is_release _ = false

-- the answer to an Acquire
abbrev pub is_grant : OpD → Bool
is_grant d.Grant = true
is_grant d.GrantData = true
is_grant _ = false

-- the answer to a Release
abbrev pub is_release_ack : OpD → Bool
is_release_ack d.ReleaseAck = true
is_release_ack _ = false

-- ---- the message that another message refers to

-- the last request of channel A that began in t with this source
unfoldable pub request_of : {w : ℕ} → ℕ → History w → Option (BeatA w)
request_of s [] = None
request_of s (beat.A x ∷ t) = if begins (beat.A x) t && (x.source == s) then Some x else request_of s t
request_of s (_ ∷ t) = request_of s t

-- the last Release that began in t with this source
unfoldable pub release_of : {w : ℕ} → ℕ → History w → Option (BeatC w)
release_of s [] = None
release_of s (beat.C x ∷ t) = if begins (beat.C x) t && (is_release x.opcode && (x.source == s)) then Some x else
    release_of s t
release_of s (_ ∷ t) = release_of s t

-- the last Probe of the block that began in t
unfoldable pub probe_of : {w : ℕ} → ℕ → History w → Option (BeatB w)
probe_of k [] = None
probe_of k (beat.B x ∷ t) = if begins (beat.B x) t && (is_probe x.opcode && (block_at x.address == k)) then Some x else
    probe_of k t
probe_of k (_ ∷ t) = probe_of k t

-- there is a request, and its address is in this block
abbrev pub asks_for : {w : ℕ} → ℕ → Option (BeatA w) → Bool
asks_for k None = false
asks_for k (Some x) = block_at x.address == k

-- there is a Release, and it is of this block
abbrev pub releases : {w : ℕ} → ℕ → Option (BeatC w) → Bool
releases k None = false
releases k (Some x) = block_at x.address == k

-- x is a Grant, and its request is for this block
abbrev pub grants : {w : ℕ} → ℕ → BeatD w → History w → Bool
grants k x t = is_grant x.opcode && asks_for k (request_of x.source t)

-- the sink of the last Grant of the block that began in t
unfoldable pub grant_sink : {w : ℕ} → ℕ → History w → Option ℕ
grant_sink k [] = None
grant_sink k (beat.D x ∷ t) = if begins (beat.D x) t && grants k x t then Some x.sink else grant_sink k t
grant_sink k (_ ∷ t) = grant_sink k t

-- there is a sink, and it is this one
abbrev pub is_sink : ℕ → Option ℕ → Bool
is_sink s None = false
is_sink s (Some n) = n == s

-- ---- pending keys

-- a message that begins with this beat after t opens the key
abbrev pub opens : {w : ℕ} → Key → Beat w → History w → Bool
opens (RequestSource s) (beat.A x) t = x.source == s
opens (ReleaseSource s) (beat.C x) t = is_release x.opcode && (x.source == s)
opens (AcquireOf k) (beat.A x) t = is_acquire x.opcode && (block_at x.address == k)
opens (ReleaseOf k) (beat.C x) t = is_release x.opcode && (block_at x.address == k)
opens (GrantSink s) (beat.D x) t = is_grant x.opcode && (x.sink == s)
opens (GrantAckOf k) (beat.D x) t = grants k x t
opens (ProbeOf k) (beat.B x) t = is_probe x.opcode && (block_at x.address == k)
opens _ _ t = false

-- a message that this beat completes after t closes the key
abbrev pub closes : {w : ℕ} → Key → Beat w → History w → Bool
closes (RequestSource s) (beat.D x) t = not (is_release_ack x.opcode) && (x.source == s)
closes (ReleaseSource s) (beat.D x) t = is_release_ack x.opcode && (x.source == s)
closes (AcquireOf k) (beat.D x) t = grants k x t
closes (ReleaseOf k) (beat.D x) t = is_release_ack x.opcode && releases k (release_of x.source t)
closes (GrantSink s) (beat.E x) t = x.sink == s
closes (GrantAckOf k) (beat.E x) t = is_sink x.sink (grant_sink k t)
closes (ProbeOf k) (beat.C x) t = is_probe_ack x.opcode && (block_at x.address == k)
closes _ _ t = false

-- the key is open after t: the last beat that opened or closed it opened it
unfoldable pub pending : {w : ℕ} → Key → History w → Bool
pending k [] = false
pending k (x ∷ t) =
    if begins x t && opens k x t then true else
    if ends x t && closes k x t then false else pending k t

-- ---- the permission held

-- the permission that a prune or report leaves; None if the param is no report
abbrev pub reported : ℕ → Perm
reported param = unwrap_or (option_map report_right (report_named param)) perm.None

-- the permission that a cap gives; None if the param is no cap
abbrev pub capped : ℕ → Perm
capped param = unwrap_or (option_map cap_right (cap_of param)) perm.None

-- the permission of the block that this beat sets after t, if it completes a message that sets one
abbrev pub says_held : {w : ℕ} → ℕ → Beat w → History w → Option Perm
says_held k (beat.C x) t = if (is_probe_ack x.opcode || is_release x.opcode) && (block_at x.address == k) then Some
    (reported x.param) else None
says_held k (beat.D x) t = if grants k x t then Some (capped x.param) else None
says_held k _ t = None

-- the permission held of the block: the one that its last complete Grant, ProbeAck or Release left
unfoldable pub held : {w : ℕ} → ℕ → History w → Perm
held k [] = perm.None
held k (x ∷ t) = if ends x t then unwrap_or (says_held k x t) (held k t) else held k t
