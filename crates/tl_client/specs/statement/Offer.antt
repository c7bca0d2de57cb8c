-- The answer of a client to a beat.
use Rattle.std.specs.Prelude.{ℕ, Bool, true, false, List, ◌∷◌, ◌++◌, ◌&&◌, ◌-◌, ◌%◌, ◌^◌, if◌then◌else◌, length, take}
use Rattle.std.specs.Prelude.{drop, replicate, Option, Some, None, is_none, unwrap_or, Result, Ok, Err}
use Rattle.std.specs.Option.{option_or}
use Rattle.tl_beat.specs.declared.beat.Beat.{Beat}
use Rattle.tl_beat.specs.declared.beat.Beat.TheVariants as beat
use Rattle.tl_beat.specs.declared.beat.BeatA.{BeatA}
use Rattle.tl_beat.specs.declared.beat.BeatB.{BeatB}
use Rattle.tl_beat.specs.declared.beat.BeatD.{BeatD}
use Rattle.tl_beat.specs.declared.channel.Channel.{Channel}
use Rattle.tl_beat.specs.declared.channel.Channel.TheVariants as channel
use Rattle.tl_beat.specs.declared.opcode.OpA.{OpA}
use Rattle.tl_beat.specs.declared.opcode.OpA.TheVariants as a
use Rattle.tl_beat.specs.declared.opcode.OpD.{OpD}
use Rattle.tl_beat.specs.declared.opcode.OpD.TheVariants as d
use Rattle.tl_beat.specs.statement.First.{first_if}
use Rattle.tl_burst.specs.declared.message.Message.{Message}
use Rattle.tl_burst.specs.statement.Messages.{History, unfinished}
use Rattle.tl_params.specs.declared.key.Key.TheVariants.{ReleaseOf}
use Rattle.tl_params.specs.declared.param.Cap.TheVariants as cap
use Rattle.tl_params.specs.declared.param.Report.{Report}
use Rattle.tl_params.specs.declared.perm.Perm.{Perm}
use Rattle.tl_params.specs.declared.rule.Rule.{Rule}
use Rattle.tl_params.specs.declared.rule.Rule.TheVariants.{L1, A1, A2, A3}
use Rattle.tl_rules.specs.statement.Admission.{is_outside, is_spoiled, payload_of}
use Rattle.tl_rules.specs.statement.Conformance.{broken_in_order}
use Rattle.tl_rules.specs.statement.History.{block_at, ends, is_probe, capped, pending, request_of}
use Rattle.tl_rules.specs.statement.Legality.{illegal}
use Rattle.tl_params.specs.statement.Param.{cap_of, report_at, report_right}
use Rattle.tl_client.specs.declared.verdict.Finish.{Finish}
use Rattle.tl_client.specs.declared.verdict.Finish.TheVariants as finish
use Rattle.tl_client.specs.declared.verdict.Verdict.{Verdict}
use Rattle.tl_client.specs.declared.verdict.Verdict.TheVariants as verdict
use Rattle.tl_client.specs.statement.Endpoint.{EndConfig, Endpoint, copy_at, held_at, with_past, with_copy}
use Rattle.tl_client.specs.statement.Endpoint.{with_waiting, kept_for, sending, shut}
use Rattle.tl_client.specs.statement.Send.{probe_ack, grant_ack}

-- ---- the rules in the order in which a client judges them

-- the client itself sends on A, C and E
abbrev pub is_sent_on : Channel → Bool
is_sent_on channel.B = false
is_sent_on channel.D = false
is_sent_on _ = true

-- the rules before a stall: A3, L1 for a channel on which the client sends, and the L rules
abbrev pub broken_before : {w : ℕ} → EndConfig → Channel → Beat w → Endpoint w → Option Rule
broken_before terms ch x e = first_if e.closed A3 (first_if (is_sent_on ch) L1 (illegal terms.level ch x))

-- the rules after a stall: S1, the H rules, A1 and A2
abbrev pub broken_later : {w : ℕ} → EndConfig → Beat w → Endpoint w → Option Rule
broken_later terms x e =
    option_or (broken_in_order terms.profile x e.past)
    (first_if (is_outside terms.blocks x) A1
    (first_if (is_spoiled x) A2 None))

-- a Probe is stalled while a Release of its block is pending
abbrev pub waits : {w : ℕ} → Beat w → History w → Bool
waits (beat.B x) t = is_probe x.opcode && pending (ReleaseOf (block_at x.address)) t
waits _ t = false

-- the beat breaks none of the rules before a stall, and is stalled
unfoldable pub stalls : {w : ℕ} → EndConfig → Channel → Beat w → Endpoint w → Bool
stalls terms ch x e = is_none (broken_before terms ch x e) && waits x e.past

-- ---- the answer

-- the answer to a beat, and the client's end of the link afterwards. The answer is a verdict with the message that is
-- handed out, or the rule that refuses the beat.
pub record Offered (w : ℕ) : Type 0 where
  pub answer : Result (Verdict × Option (Message w)) Rule
  pub after : Endpoint w

-- a refusal closes the link and changes nothing else
abbrev pub refused : {w : ℕ} → Rule → Endpoint w → Offered w
refused rule e = record { answer = Err rule; after = shut e }

-- this verdict: no message is handed out
abbrev pub silent : {w : ℕ} → Verdict → Endpoint w → Offered w
silent v e = record { answer = Ok (v, None); after = e }

-- this verdict: the message m is handed out
abbrev pub answered : {w : ℕ} → Verdict → Message w → Endpoint w → Offered w
answered v m e = record { answer = Ok (v, Some m); after = sending m e }

-- ---- Probes

-- the report that answers the Probe while p is held
abbrev pub report_for : {w : ℕ} → BeatB w → Perm → Report
report_for x p = report_at (unwrap_or (cap_of x.param) cap.ToN) p

-- the answer to a Probe of a block of which p is held
abbrev pub probed : {w : ℕ} → BeatB w → ℕ → Perm → Endpoint w → Offered w
probed x block p e =
    let told = answered verdict.Taken (probe_ack x.opcode p (report_for x p) block (copy_at e block))
    (with_past (beat.B x ∷ e.past) e) in
    record told { after = kept_for block (report_right (report_for x p)) told.after }

-- ---- responses

-- the bytes, then zeros up to 64
abbrev pub padded : List ℕ → List ℕ
padded bytes = bytes ++ replicate (64 - length bytes) 0

-- the address of a request, 0 if there is none
abbrev pub address_asked : {w : ℕ} → Option (BeatA w) → ℕ
address_asked None = 0
address_asked (Some r) = r.address

-- the 2 ^ size bytes of a payload from an address on, then zeros up to 64
abbrev pub bytes_at : ℕ → ℕ → ℕ → List ℕ → List ℕ
bytes_at w address size payload = padded (take (2 ^ size) (drop (address % w) payload))

-- the result of the operation at this address, by the opcode, param, size and payload of its response
abbrev pub finish_of : ℕ → OpD → ℕ → ℕ → ℕ → List ℕ → Finish
finish_of w d.AccessAck param size address payload = finish.Ack
finish_of w d.AccessAckData param size address payload = finish.Data size (bytes_at w address size payload)
finish_of w d.HintAck param size address payload = finish.Hint
finish_of w d.Grant param size address payload = finish.Granted (capped param)
finish_of w d.GrantData param size address payload = finish.Granted (capped param)
finish_of w d.ReleaseAck param size address payload = finish.Released

-- the end after a Grant without data. If it answers an AcquirePerm, the bytes that waited are the copy.
abbrev pub granted_perm : {w : ℕ} → OpA → ℕ → Endpoint w → Endpoint w
granted_perm a.AcquirePerm block e = with_waiting block None (with_copy block (e.waiting block) e)
granted_perm _ block e = e

-- the end after a Grant: the copy is GrantData's payload, or for an AcquirePerm the bytes that waited
abbrev pub granted : {w : ℕ} → OpD → Option (BeatA w) → List ℕ → Endpoint w → Endpoint w
granted d.Grant (Some r) payload e = granted_perm r.opcode (block_at r.address) e
granted d.GrantData (Some r) payload e = with_copy (block_at r.address) (Some payload) e
granted _ _ payload e = e

-- the answer to the last beat of a response; a Grant has its GrantAck handed out
abbrev pub ended : {w : ℕ} → OpD → BeatD w → Finish → Endpoint w → Offered w
ended d.Grant x f e = answered (verdict.Done x.source f) (grant_ack x.sink) e
ended d.GrantData x f e = answered (verdict.Done x.source f) (grant_ack x.sink) e
ended _ x f e = silent (verdict.Done x.source f) e

-- the answer to the last beat of a response to the request r
abbrev pub responded : {w : ℕ} → BeatD w → Option (BeatA w) → List ℕ → Endpoint w → Offered w
responded {w} x r payload e =
    ended x.opcode x (finish_of w x.opcode x.param x.size (address_asked r) payload)
    (granted x.opcode r payload (with_past (beat.D x ∷ e.past) e))

-- ---- a beat that is taken

-- the answer to a beat that breaks no rule and isn't stalled. A Probe is answered at once, a response ends with its
-- last beat.
abbrev pub taken : {w : ℕ} → Beat w → Endpoint w → Offered w
taken (beat.B x) e = probed x (block_at x.address) (held_at e (block_at x.address)) e
taken (beat.D x) e =
    if ends (beat.D x) e.past
    then responded x (request_of x.source e.past) (payload_of (beat.D x ∷ unfinished channel.D e.past)) e
    else silent verdict.Taken (with_past (beat.D x ∷ e.past) e)
taken x e = silent verdict.Taken (with_past (x ∷ e.past) e)

-- the answer to a beat that isn't stalled, given the first of the later rules that it breaks, if any
abbrev pub judged_later : {w : ℕ} → Option Rule → Beat w → Endpoint w → Offered w
judged_later (Some rule) x e = refused rule e
judged_later None x e = taken x e

-- the answer to a beat, given the first of the rules before a stall that it breaks, if any
abbrev pub judged : {w : ℕ} → Option Rule → EndConfig → Beat w → Endpoint w → Offered w
judged (Some rule) terms x e = refused rule e
judged None terms x e = if waits x e.past then silent verdict.Stalled e else judged_later (broken_later terms x e) x e

-- the answer of a client to a beat on this channel, and its end of the link afterwards
unfoldable pub offered : {w : ℕ} → EndConfig → Channel → Beat w → Endpoint w → Offered w
offered terms ch x e = judged (broken_before terms ch x e) terms x e

-- ---- whether a beat is stalled, by its answer

-- the answer is Stalled
abbrev pub is_stalled : {w : ℕ} → Result (Verdict × Option (Message w)) Rule → Bool
is_stalled (Ok (verdict.Stalled, m)) = true
is_stalled _ = false
