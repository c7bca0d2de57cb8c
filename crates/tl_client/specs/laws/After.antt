-- A client's end of its link after a call, in terms of the end before it.
use Rattle.std.specs.Prelude.{ℕ, Bool, true, false, not, List, ◌∷◌, ◌≡◌, ◌==◌, ◌&&◌, if◌then◌else◌, unwrap_or, Option}
use Rattle.std.specs.Prelude.{Some, None, Result, Ok, Err, ⊤}
use Rattle.tl_beat.specs.declared.beat.Beat.{Beat}
use Rattle.tl_beat.specs.declared.beat.Beat.TheVariants as beat
use Rattle.tl_beat.specs.declared.beat.BeatA.{BeatA}
use Rattle.tl_beat.specs.declared.beat.BeatC.{BeatC}
use Rattle.tl_beat.specs.declared.channel.Channel.TheVariants as channel
use Rattle.tl_beat.specs.declared.opcode.OpD.{OpD}
use Rattle.tl_beat.specs.declared.opcode.OpD.TheVariants as d
use Rattle.tl_burst.specs.declared.message.Message.{Message}
use Rattle.tl_burst.specs.declared.message.Message.TheVariants as message
use Rattle.tl_burst.specs.statement.Messages.{History, unfinished}
use Rattle.tl_params.specs.declared.key.Key.TheVariants.{RequestSource, ReleaseSource}
use Rattle.tl_params.specs.declared.perm.Perm.{Perm}
use Rattle.tl_params.specs.declared.perm.Perm.TheVariants as perm
use Rattle.tl_params.specs.declared.rule.Rule.{Rule}
use Rattle.tl_params.specs.statement.Param.{prune_right, report_right}
use Rattle.tl_rules.specs.statement.Admission.{payload_of}
use Rattle.tl_rules.specs.statement.Conformance.{same_perm}
use Rattle.tl_rules.specs.statement.History.{block_at, ends, is_release_ack, pending, request_of, held}
use Rattle.tl_client.specs.declared.busy.Busy.{Busy}
use Rattle.tl_client.specs.declared.operation.Op.{Op}
use Rattle.tl_client.specs.declared.operation.Op.TheVariants.{Store, AcquireWhole, Release}
use Rattle.tl_client.specs.declared.reply.Reply.{Reply}
use Rattle.tl_client.specs.declared.reply.Reply.TheVariants.{Started}
use Rattle.tl_client.specs.declared.verdict.Verdict.{Verdict}
use Rattle.tl_client.specs.declared.verdict.Verdict.TheVariants.{Stalled}
use Rattle.tl_client.specs.statement.Ask.{copy_stored}
use Rattle.tl_client.specs.statement.Endpoint.{Endpoint, zeros}
use Rattle.tl_client.specs.statement.EndpointInvariant.{holds, is_acquire_perm}
use Rattle.tl_client.specs.statement.Offer.{report_for}
use Rattle.tl_client.specs.statement.Requests.{open_beat, open_release}

-- ---- the history

-- with the beat, if it was taken
abbrev pub heard : {w : ℕ} → Result (Verdict × Option (Message w)) Rule → Beat w → History w → History w
heard (Err rule) x t = t
heard (Ok (Stalled, m)) x t = t
heard (Ok _) x t = x ∷ t

-- the message that is handed out with the answer
abbrev pub handed : {w : ℕ} → Result (Verdict × Option (Message w)) Rule → Option (Message w)
handed (Err rule) = None
handed (Ok (Stalled, m)) = None
handed (Ok (v, m)) = m

-- the answer is a refusal
abbrev pub is_refused : {w : ℕ} → Result (Verdict × Option (Message w)) Rule → Bool
is_refused (Err rule) = true
is_refused (Ok v) = false

-- ---- the copy of block k

-- The copy after an operation, if p was held of block k. A Store under Trunk writes to it, and a Release that leaves
-- None drops it.
abbrev pub copy_left : {w : ℕ} → Option Busy → Op w → ℕ → Perm → Option (List ℕ) → Option (List ℕ)
copy_left None (Store address size value) k p copy =
    if (k == block_at address) && same_perm perm.Trunk p then Some
    (copy_stored address size value (unwrap_or copy zeros)) else copy
copy_left None (Release block prune) k p copy = if (k == block) && not (holds (prune_right prune)) then None else copy
copy_left _ _ k p copy = copy

-- The copy after the last beat of a Grant that answers this request: GrantData's bytes, or the bytes that waited.
abbrev pub copy_granted : {w : ℕ} → OpD → Option (BeatA w) → List ℕ → ℕ → Endpoint w → Option (List ℕ)
copy_granted d.GrantData (Some r) payload k e = if k == block_at r.address then Some payload else e.copies k
copy_granted d.Grant (Some r) payload k e = if (k == block_at r.address) && is_acquire_perm r.opcode then e.waiting k
    else e.copies k
copy_granted _ _ payload k e = e.copies k

-- the copy after a beat was taken; a Probe that leaves None drops it
abbrev pub copy_with : {w : ℕ} → Beat w → ℕ → Endpoint w → Option (List ℕ)
copy_with (beat.B x) k e =
    if (k == block_at x.address) && not (holds (report_right (report_for x (held (block_at x.address) e.past)))) then
    None else e.copies k
copy_with (beat.D x) k e =
    if ends (beat.D x) e.past
    then copy_granted x.opcode (request_of x.source e.past) (payload_of (beat.D x ∷ unfinished channel.D e.past)) k e
    else e.copies k
copy_with _ k e = e.copies k

-- the copy after this answer to a beat
abbrev pub copy_by : {w : ℕ} → Result (Verdict × Option (Message w)) Rule → Beat w → ℕ → Endpoint w → Option (List ℕ)
copy_by (Err rule) x k e = e.copies k
copy_by (Ok (Stalled, m)) x k e = e.copies k
copy_by (Ok _) x k e = copy_with x k e

-- ---- the bytes that wait for a Grant of block k

-- the bytes after an operation; an AcquireWhole that starts leaves its own
abbrev pub waiting_left : {w : ℕ} → Option Busy → Op w → ℕ → Option (List ℕ) → Option (List ℕ)
waiting_left None (AcquireWhole block bytes) k waiting = if k == block then Some bytes else waiting
waiting_left _ _ k waiting = waiting

-- the bytes after the last beat of a Grant that answers this request; an AcquirePerm's bytes wait no longer
abbrev pub waiting_granted : {w : ℕ} → OpD → Option (BeatA w) → ℕ → Option (List ℕ) → Option (List ℕ)
waiting_granted d.Grant (Some r) k waiting = if (k == block_at r.address) && is_acquire_perm r.opcode then None else
    waiting
waiting_granted _ _ k waiting = waiting

-- the bytes after a beat was taken
abbrev pub waiting_with : {w : ℕ} → Beat w → ℕ → Endpoint w → Option (List ℕ)
waiting_with (beat.D x) k e = if ends (beat.D x) e.past then waiting_granted x.opcode (request_of x.source e.past) k
    (e.waiting k) else e.waiting k
waiting_with _ k e = e.waiting k

-- the bytes after this answer to a beat
abbrev pub waiting_by : {w : ℕ} → Result (Verdict × Option (Message w)) Rule → Beat w → ℕ → Endpoint w → Option (List ℕ)
waiting_by (Err rule) x k e = e.waiting k
waiting_by (Ok (Stalled, m)) x k e = e.waiting k
waiting_by (Ok _) x k e = waiting_with x k e

-- ---- the start of an operation

-- A message is there exactly if the operation started. It has the source that the reply names, which was free.
abbrev pub IsStarted : {w : ℕ} → Reply → Option (Message w) → History w → Type 0
IsStarted (Started s) (Some (message.A m)) t = (m.source ≡ s) × (pending (RequestSource s) t ≡ false)
IsStarted (Started s) (Some (message.C m)) t = (m.source ≡ s) × (pending (ReleaseSource s) t ≡ false)
IsStarted (Started s) _ t = ⊥
IsStarted _ None t = ⊤
IsStarted _ (Some m) t = ⊥

-- ---- the pending request and the pending Release with a source

-- the pending request after a beat was taken; the last beat of its response ends it
abbrev pub open_heard : {w : ℕ} → ℕ → Beat w → History w → Option (BeatA w)
open_heard s (beat.D x) t = if ends (beat.D x) t && (not (is_release_ack x.opcode) && (x.source == s)) then None else
    open_beat s t
open_heard s _ t = open_beat s t

-- the pending request after this answer to a beat
abbrev pub open_by : {w : ℕ} → ℕ → Result (Verdict × Option (Message w)) Rule → Beat w → History w → Option (BeatA w)
open_by s (Err rule) x t = open_beat s t
open_by s (Ok (Stalled, m)) x t = open_beat s t
open_by s (Ok _) x t = open_heard s x t

-- the pending Release after a beat was taken; the last beat of its ReleaseAck ends it
abbrev pub release_heard : {w : ℕ} → ℕ → Beat w → History w → Option (BeatC w)
release_heard s (beat.D x) t = if ends (beat.D x) t && (is_release_ack x.opcode && (x.source == s)) then None else
    open_release s t
release_heard s _ t = open_release s t

-- the pending Release after this answer to a beat
abbrev pub release_by : {w : ℕ} → ℕ → Result (Verdict × Option (Message w)) Rule → Beat w → History w → Option (BeatC w)
release_by s (Err rule) x t = open_release s t
release_by s (Ok (Stalled, m)) x t = open_release s t
release_by s (Ok _) x t = release_heard s x t
