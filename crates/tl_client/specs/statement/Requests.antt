-- The fields that a client keeps of its pending requests and Releases.
use Rattle.std.specs.Prelude.{ℕ, Bool, false, ◌==◌, ◌&&◌, if◌then◌else◌, Option, Some, None}
use Rattle.tl_beat.specs.declared.beat.BeatA.{BeatA}
use Rattle.tl_beat.specs.declared.beat.BeatC.{BeatC}
use Rattle.tl_burst.specs.declared.message.Message.{Message}
use Rattle.tl_burst.specs.declared.message.Message.TheVariants as message
use Rattle.tl_burst.specs.declared.message.MessageA.{MessageA}
use Rattle.tl_burst.specs.declared.message.MessageC.{MessageC}
use Rattle.tl_burst.specs.statement.Messages.{History}
use Rattle.tl_params.specs.declared.key.Key.TheVariants.{RequestSource, ReleaseSource}
use Rattle.tl_rules.specs.declared.past.Request as past
use Rattle.tl_rules.specs.statement.History.{block_at, is_acquire, is_release, pending, request_of, release_of}
use Rattle.tl_client.specs.declared.busy.Busy.TheVariants.{B1}
use Rattle.tl_client.specs.declared.release.Release.{Release}
use Rattle.tl_client.specs.declared.reply.Reply.{Reply}
use Rattle.tl_client.specs.declared.reply.Reply.TheVariants as reply
use Rattle.tl_client.specs.statement.Send.{access}
use Rattle.tl_client.specs.declared.request.Request.{Request}

-- the fields of a request that its response is judged by
abbrev pub fields_in : {w : ℕ} → MessageA w → Request
fields_in m = record { opcode = m.opcode; param = m.param; size = m.size; address = m.address }

-- the fields of a pending request, by its first beat
abbrev pub fields_of : {w : ℕ} → Option (BeatA w) → Option Request
fields_of None = None
fields_of (Some x) = Some (record { opcode = x.opcode; param = x.param; size = x.size; address = x.address })

-- the first beat of the pending request with this source
abbrev pub open_beat : {w : ℕ} → ℕ → History w → Option (BeatA w)
open_beat s t = if pending (RequestSource s) t then request_of s t else None

-- the fields of the pending request with this source
abbrev pub open_request : {w : ℕ} → ℕ → History w → Option Request
open_request s t = fields_of (open_beat s t)

-- the first beat of the pending Release with this source
abbrev pub open_release : {w : ℕ} → ℕ → History w → Option (BeatC w)
open_release s t = if pending (ReleaseSource s) t then release_of s t else None

-- ---- pending messages, by the fields that are kept

-- the fields that the H rules need
abbrev pub judged_in : Request → past.Request
judged_in r = record { opcode = r.opcode; param = r.param; size = r.size; block = block_at r.address }

-- there is a request, and it is an Acquire of the block
abbrev pub acquires_block : ℕ → Option Request → Bool
acquires_block k None = false
acquires_block k (Some r) = is_acquire r.opcode && (block_at r.address == k)

-- there is a Release, and it is of the block
abbrev pub releases_block : ℕ → Option Release → Bool
releases_block k None = false
releases_block k (Some r) = block_at r.address == k

-- the fields of a Release that its answer is judged by
abbrev pub release_in : {w : ℕ} → MessageC w → Release
release_in m = record { size = m.size; address = m.address }

-- the fields of a pending Release, by its first beat
abbrev pub release_fields : {w : ℕ} → Option (BeatC w) → Option Release
release_fields None = None
release_fields (Some x) = Some (record { size = x.size; address = x.address })

-- the pending request with this source, after this message was handed out
abbrev pub opened_by : {w : ℕ} → ℕ → Option (Message w) → Option Request → Option Request
opened_by s (Some (message.A m)) r = if m.source == s then Some (fields_in m) else r
opened_by s _ r = r

-- the pending Release with this source, after this message was handed out
abbrev pub released_by : {w : ℕ} → ℕ → Option (Message w) → Option Release → Option Release
released_by s (Some (message.C m)) r = if is_release m.opcode && (m.source == s) then Some (release_in m) else r
released_by s _ r = r

-- the request starts with this source; if there is none, the client is busy for B1
abbrev pub start_with : {w : ℕ} → Option ℕ → MessageA w → Reply × Option (Message w)
start_with None m = (reply.Busy B1, None)
start_with (Some s) m = (reply.Started s, Some (access s m))
