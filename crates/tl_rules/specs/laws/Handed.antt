-- The history of a link after a message was handed out on a channel without an unfinished message.
use Rattle.std.specs.Prelude.{ℕ, Bool, true, false, ◌==◌, ◌&&◌, if◌then◌else◌, Option, Some, None, unwrap_or}
use Rattle.tl_beat.specs.declared.beat.BeatA.{BeatA}
use Rattle.tl_beat.specs.declared.beat.BeatB.{BeatB}
use Rattle.tl_beat.specs.declared.beat.BeatC.{BeatC}
use Rattle.tl_burst.specs.declared.message.Message.{Message}
use Rattle.tl_burst.specs.declared.message.Message.TheVariants as message
use Rattle.tl_burst.specs.statement.Burst.{beat_of, a_beat_of, b_beat_of, c_beat_of}
use Rattle.tl_burst.specs.statement.Messages.{History}
use Rattle.tl_params.specs.declared.key.Key.{Key}
use Rattle.tl_params.specs.declared.perm.Perm.{Perm}
use Rattle.tl_rules.specs.statement.History.{block_at, is_probe, is_release, is_grant, asks_for, request_of, grant_sink}
use Rattle.tl_rules.specs.statement.History.{opens, closes, pending, says_held, held}

-- the key is pending
abbrev pub pending_with : {w : ℕ} → Key → Message w → History w → Bool
pending_with k m t = if opens k (beat_of m 0) t then true else if closes k (beat_of m 0) t then false else pending k t

-- the permission held of the block
abbrev pub held_with : {w : ℕ} → ℕ → Message w → History w → Perm
held_with k m t = unwrap_or (says_held k (beat_of m 0) t) (held k t)

-- the last request with this source; before the message it was r
abbrev pub request_with : {w : ℕ} → ℕ → Message w → Option (BeatA w) → Option (BeatA w)
request_with s (message.A m) r = if m.source == s then Some (a_beat_of m 0) else r
request_with s _ r = r

-- the last Release with this source; before the message it was r
abbrev pub release_with : {w : ℕ} → ℕ → Message w → Option (BeatC w) → Option (BeatC w)
release_with s (message.C m) r = if is_release m.opcode && (m.source == s) then Some (c_beat_of m 0) else r
release_with s _ r = r

-- the last Probe of the block; before the message it was p
abbrev pub probe_with : {w : ℕ} → ℕ → Message w → Option (BeatB w) → Option (BeatB w)
probe_with k (message.B m) p = if is_probe m.opcode && (block_at m.address == k) then Some (b_beat_of m 0) else p
probe_with k _ p = p

-- the sink of the last Grant of the block
abbrev pub sink_with : {w : ℕ} → ℕ → Message w → History w → Option ℕ
sink_with k (message.D m) t = if is_grant m.opcode && asks_for k (request_of m.source t) then Some m.sink else
    grant_sink k t
sink_with k _ t = grant_sink k t

-- ---- the same after a message that may be missing

-- the key is pending
abbrev pub pending_if_any : {w : ℕ} → Key → Option (Message w) → History w → Bool
pending_if_any k None t = pending k t
pending_if_any k (Some m) t = pending_with k m t

-- the last request with this source; before the message it was r
abbrev pub request_if_any : {w : ℕ} → ℕ → Option (Message w) → Option (BeatA w) → Option (BeatA w)
request_if_any s None r = r
request_if_any s (Some m) r = request_with s m r

-- the last Release with this source; before the message it was r
abbrev pub release_if_any : {w : ℕ} → ℕ → Option (Message w) → Option (BeatC w) → Option (BeatC w)
release_if_any s None r = r
release_if_any s (Some m) r = release_with s m r
