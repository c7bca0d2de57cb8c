-- The state that is kept of a history, key by key, and its change with one more beat.
use Rattle.std.specs.Prelude.{ℕ, Bool, true, false, not, ◌==◌, ◌&&◌, ◌||◌, if◌then◌else◌, Option, Some, None, is_some}
use Rattle.std.specs.Prelude.{unwrap_or}
use Rattle.tl_beat.specs.declared.beat.Beat.{Beat}
use Rattle.tl_beat.specs.declared.beat.Beat.TheVariants as beat
use Rattle.tl_beat.specs.declared.beat.BeatB.{BeatB}
use Rattle.tl_beat.specs.declared.beat.BeatC.{BeatC}
use Rattle.tl_beat.specs.declared.beat.BeatD.{BeatD}
use Rattle.tl_beat.specs.declared.channel.Channel.TheVariants as channel
use Rattle.tl_burst.specs.statement.Messages.{History, unfinished}
use Rattle.tl_params.specs.declared.key.Key.TheVariants.{RequestSource, ReleaseSource, AcquireOf, ReleaseOf, GrantAckOf, ProbeOf}
use Rattle.tl_params.specs.declared.liberties.Liberties.{Liberties}
use Rattle.tl_params.specs.declared.perm.Perm.{Perm}
use Rattle.tl_params.specs.declared.perm.Perm.TheVariants as perm
use Rattle.tl_rules.specs.declared.past.Request.{Request}
use Rattle.tl_rules.specs.declared.table.Release.{Release}
use Rattle.tl_rules.specs.declared.table.Block.{Block}
use Rattle.tl_rules.specs.declared.table.PendingProbe.{PendingProbe}
use Rattle.tl_rules.specs.statement.History.{block_at, is_acquire, is_probe, is_probe_ack, is_release, is_grant}
use Rattle.tl_rules.specs.statement.History.{is_release_ack, asks_for, releases, is_sink}
use Rattle.tl_rules.specs.statement.History.{request_of, release_of, probe_of, grant_sink, pending, reported, capped}
use Rattle.tl_rules.specs.statement.Liberties.{given_by_grant, grows_from_none, held_under, left_by_release}
use Rattle.tl_rules.specs.code.Open.{request_fields}

abbrev pub release_fields : {w : ℕ} → Option (BeatC w) → Option Release
release_fields None = None
release_fields (Some x) = Some (record { size = x.size; block = block_at x.address })

-- the request with this source, if it is pending
abbrev pub kept_request : {w : ℕ} → ℕ → History w → Option Request
kept_request s t = if pending (RequestSource s) t then request_fields (request_of s t) else None

-- the Release with this source, if it is pending
abbrev pub kept_release : {w : ℕ} → ℕ → History w → Option Release
kept_release s t = if pending (ReleaseSource s) t then release_fields (release_of s t) else None

-- the sink of the last Grant of the block, if its GrantAck is pending
abbrev pub kept_grant : {w : ℕ} → ℕ → History w → Option ℕ
kept_grant k t = if pending (GrantAckOf k) t then grant_sink k t else None

abbrev pub probe_kept : {w : ℕ} → Option (BeatB w) → Option PendingProbe
probe_kept None = None
probe_kept (Some x) = Some (record { probe = record { opcode = x.opcode; param = x.param }; source = x.source })

-- the Probe of the block, if it is pending
abbrev pub kept_probe : {w : ℕ} → ℕ → History w → Option PendingProbe
kept_probe k t = if pending (ProbeOf k) t then probe_kept (probe_of k t) else None

abbrev pub kept_block : {w : ℕ} → Liberties → ℕ → History w → Block
kept_block l k t = record {
  held = held_under l k t;
  acquire = pending (AcquireOf k) t;
  release = pending (ReleaseOf k) t;
  probe = kept_probe k t;
  grant = kept_grant k t;
}

-- a block that has nothing open or held
abbrev pub empty_block : Block
empty_block = record {
  held = perm.None;
  acquire = false;
  release = false;
  probe = None;
  grant = None;
}

-- ---- with one more beat, which begins a message or doesn't, and completes it or doesn't

abbrev pub request_next : {w : ℕ} → Bool → Bool → Beat w → ℕ → Option Request → Option Request
request_next first last (beat.A x) s r = if first && (x.source == s) then request_fields (Some x) else r
request_next first last (beat.D x) s r = if last && (not (is_release_ack x.opcode) && (x.source == s)) then None else r
request_next first last _ s r = r

abbrev pub release_next : {w : ℕ} → Bool → Bool → Beat w → ℕ → Option Release → Option Release
release_next first last (beat.C x) s r = if first && (is_release x.opcode && (x.source == s)) then release_fields
    (Some x) else r
release_next first last (beat.D x) s r = if last && (is_release_ack x.opcode && (x.source == s)) then None else r
release_next first last _ s r = r

abbrev pub sink_next : {w : ℕ} → Bool → Bool → Beat w → ℕ → Bool → Bool
sink_next first last (beat.D x) s b = if first && (is_grant x.opcode && (x.sink == s)) then true else b
sink_next first last (beat.E x) s b = if last && (x.sink == s) then false else b
sink_next first last _ s b = b

-- what the message gives that this one answers before its end
abbrev pub came_early : {w : ℕ} → Beat w → History w → Option Perm
came_early (beat.D x) t = left_by_release x.source (unfinished channel.C t)
came_early (beat.E x) t = given_by_grant x.sink (unfinished channel.D t)
came_early _ t = None

abbrev pub came : {w : ℕ} → Liberties → Beat w → History w → Option Perm
came l x t = if l.early then came_early x t else None

-- what is held of a block after a response
abbrev pub held_with : {w : ℕ} → Liberties → Bool → Bool → Option Perm → BeatD w → Block → Perm
held_with l first last came x b =
    if l.denied && x.denied then b.held else
    if l.early && (is_grant x.opcode && (not first && not (is_some b.grant))) then b.held else
    if l.early && is_release_ack x.opcode then (if last then unwrap_or came b.held else b.held) else
    if last && is_grant x.opcode then capped x.param else b.held

-- the block that a beat bears on, if this came before the end of the message that it answers
abbrev pub block_next : {w : ℕ} → Liberties → Bool → Bool → Option Perm → Beat w → Block → Block
block_next l first last came (beat.A x) b = record b {
  held = if l.drops && (first && (is_acquire x.opcode && grows_from_none x.param)) then (if last then perm.None else
      b.held) else b.held;
  acquire = if first && is_acquire x.opcode then true else b.acquire;
}
block_next l first last came (beat.B x) b = record b {
  probe = if first && is_probe x.opcode then probe_kept (Some x) else b.probe;
}
block_next l first last came (beat.C x) b = record b {
  held =
      if l.early && (is_release x.opcode && (not first && not b.release)) then b.held else
      if last && (is_probe_ack x.opcode || is_release x.opcode) then reported x.param else b.held;
  release = if first && is_release x.opcode then true else b.release;
  probe = if last && is_probe_ack x.opcode then None else b.probe;
}
block_next l first last came (beat.D x) b = record b {
  held = held_with l first last came x b;
  acquire = if last && is_grant x.opcode then false else b.acquire;
  release = if last && is_release_ack x.opcode then false else b.release;
  grant = if first && is_grant x.opcode then Some x.sink else b.grant;
}
block_next l first last came (beat.E x) b = record b {
  held = if l.early && is_sink x.sink b.grant then (if last then unwrap_or came b.held else b.held) else b.held;
  grant = if last && is_sink x.sink b.grant then None else b.grant;
}

-- the beat bears on the block, by its own fields or by those of the message that it answers
abbrev pub bears_on : {w : ℕ} → ℕ → Beat w → History w → Bool
bears_on k (beat.A x) t = block_at x.address == k
bears_on k (beat.B x) t = block_at x.address == k
bears_on k (beat.C x) t = block_at x.address == k
bears_on k (beat.D x) t = if is_release_ack x.opcode then releases k (release_of x.source t) else asks_for k
    (request_of x.source t)
bears_on k (beat.E x) t = is_sink x.sink (grant_sink k t)
