-- Which reason is chosen, by the state of a recorder.
use Rattle.std.specs.Prelude.{ℕ, Bool, true, false, not, ◌==◌, ◌&&◌, if◌then◌else◌, Option, Some, None, is_none}
use Rattle.tl_beat.specs.declared.beat.Beat.{Beat}
use Rattle.tl_beat.specs.declared.beat.Beat.TheVariants as beat
use Rattle.tl_beat.specs.declared.beat.BeatA.{BeatA}
use Rattle.tl_beat.specs.declared.beat.BeatB.{BeatB}
use Rattle.tl_beat.specs.declared.beat.BeatC.{BeatC}
use Rattle.tl_beat.specs.declared.beat.BeatD.{BeatD}
use Rattle.tl_beat.specs.declared.beat.BeatE.{BeatE}
use Rattle.tl_beat.specs.statement.Opcode.{c_carries_data}
use Rattle.tl_burst.specs.statement.Messages.{channel_of}
use Rattle.tl_params.specs.declared.key.Key.{Key}
use Rattle.tl_params.specs.declared.key.Key.TheVariants.{RequestSource, ReleaseSource, AcquireOf, ReleaseOf, GrantSink}
use Rattle.tl_params.specs.declared.key.Key.TheVariants.{GrantAckOf, ProbeOf}
use Rattle.tl_params.specs.declared.liberties.Liberties.{Liberties}
use Rattle.tl_rules.specs.statement.Conformance.{answers, is_probe_block}
use Rattle.tl_rules.specs.statement.Liberties.{grows_from_under, releases_from}
use Rattle.tl_params.specs.declared.rule.Rule.{Rule}
use Rattle.tl_params.specs.declared.rule.Rule.TheVariants.{S1, H1, H2, H3, H4, H5, H6, H7, H8, H9, H10, H11, H12, H13}
use Rattle.tl_rules.specs.statement.History.{block_at, is_acquire, is_grant, is_probe, is_probe_ack, is_release}
use Rattle.tl_rules.specs.statement.History.{is_release_ack}
use Rattle.tl_beat.specs.declared.channel.Channel.TheVariants as channel
use Rattle.tl_beat.specs.statement.Control.{has_control}
use Rattle.tl_beat.specs.declared.control.Control.{Control}
use Rattle.tl_beat.specs.declared.control.Control.TheVariants as control
use Rattle.tl_explain.specs.declared.bursts.Begun.{Begun}
use Rattle.tl_explain.specs.declared.held.Held.{Held}
use Rattle.tl_explain.specs.declared.reason.Reason.{Reason}
use Rattle.tl_explain.specs.declared.reason.Reason.TheVariants.{Pending, Never, Closed, Unfinished, OtherKind}
use Rattle.tl_explain.specs.declared.reason.Reason.TheVariants.{OtherSize, WrongCap, WithoutData, Probed, Holds}
use Rattle.tl_explain.specs.declared.reason.Reason.TheVariants.{OtherSource, WrongProbe, Misreport, Differs}
use Rattle.tl_explain.specs.declared.recorder.Recorder.{Recorder}
use Rattle.tl_explain.specs.declared.told.Told.{Told}
use Rattle.tl_explain.specs.declared.turn.Turn.{Turn}
use Rattle.tl_explain.specs.code.Recorded.{begun_on, open_message, comes_by}
use Rattle.tl_explain.specs.statement.Reasons.{has_wrong_cap, is_misreport, lacks_data}

-- this reason, or else that
abbrev pub first_reason : Option Reason → Option Reason → Option Reason
first_reason None other = other
first_reason (Some one) other = Some one

abbrev pub pending_by : Key → Option Told → Option Reason
pending_by k None = None
pending_by k (Some m) = Some (Pending k m)

abbrev pub closed_by : Key → Told → Option Told → Option Reason
closed_by k opening None = None
closed_by k opening (Some closing) = Some (Closed k opening closing)

abbrev pub unfinished_by : Key → Told → Option Begun → Option Reason
unfinished_by k opening None = None
unfinished_by k opening (Some b) =
    if (b.first.mention.line == opening.mention.line) && comes_by k b.newest then Some
    (Unfinished k opening b.came) else None

abbrev pub opened_by : Key → Told → Option Told → Option Told → Option Begun → Option Reason
opened_by k opening closing None b = closed_by k opening closing
opened_by k opening closing (Some m) b = unfinished_by k opening b

abbrev pub missing_by : Key → Option Told → Option Told → Option Told → Option Begun → Option Reason
missing_by k None closing pending b = Some (Never k)
missing_by k (Some opening) closing pending b = opened_by k opening closing pending b

-- if the key is pending, and if no complete message has it pending
abbrev pub where_pending : Key → Turn → Option Reason
where_pending k turn = pending_by k (open_message turn)

abbrev pub where_missing : Key → Turn → Option Begun → Option Reason
where_missing k turn b = missing_by k turn.opening turn.closing (open_message turn) b

-- the burst of a message that has to be complete before its answer
abbrev pub awaited : Liberties → Option Begun → Option Begun
awaited l b = if l.early then None else b

-- if what is held doesn't fit
abbrev pub unless_held : Bool → Held → Option Reason
unless_held true h = None
unless_held false h = Some (Holds h)

-- if the request that is pending is answered otherwise
abbrev pub kind_in : {w : ℕ} → BeatD w → Told → Control → Option Reason
kind_in x m (control.A r) = if answers x.opcode r.opcode then None else Some (OtherKind m)
kind_in x m _ = None

abbrev pub kind_by : {w : ℕ} → BeatD w → Option Told → Option Reason
kind_by x None = None
kind_by x (Some m) = kind_in x m m.mention.control

-- if the request or Release that is pending has another size
abbrev pub size_in : {w : ℕ} → BeatD w → Told → Control → Option Reason
size_in x m (control.A r) = if x.size == r.size then None else Some (OtherSize m)
size_in x m (control.C r) = if x.size == r.size then None else Some (OtherSize m)
size_in x m _ = None

abbrev pub size_by : {w : ℕ} → BeatD w → Option Told → Option Reason
size_by x None = None
size_by x (Some m) = size_in x m m.mention.control

-- if a Grant isn't one for the request that is pending
abbrev pub probed_by : Told → Option Told → Option Reason
probed_by m None = None
probed_by m (Some probe) = Some (Probed m probe)

abbrev pub grant_in : {w : ℕ} → Liberties → BeatD w → Told → Control → Recorder → Option Reason
grant_in l x m (control.A a) r =
    if has_wrong_cap l x a then Some (WrongCap m) else
    if not (block_at a.address == r.subject.block) then None else
    if lacks_data l x a r.held.perm then Some (WithoutData m r.held)
    else probed_by m (open_message r.turns.probe)
grant_in l x m _ r = None

abbrev pub grant_by : {w : ℕ} → Liberties → BeatD w → Option Told → Recorder → Option Reason
grant_by l x None r = None
grant_by l x (Some m) r = grant_in l x m m.mention.control r

-- if the Probe that is pending has another source, or asks for no data, and is answered with some
abbrev pub probe_in : {w : ℕ} → Liberties → BeatC w → Told → Control → Option Reason
probe_in l x m (control.B y) =
    if l.ids && not (x.source == y.source) then Some (OtherSource m) else
    if c_carries_data x.opcode && not (is_probe_block y.opcode) then Some (WrongProbe m) else None
probe_in l x m _ = None

abbrev pub probe_by : {w : ℕ} → Liberties → BeatC w → Turn → Option Told → Option Reason
probe_by l x turn None = where_missing (ProbeOf (block_at x.address)) turn None
probe_by l x turn (Some m) = probe_in l x m m.mention.control

-- if the report to the Probe that is pending is another
abbrev pub report_in : {w : ℕ} → Liberties → BeatC w → Told → Control → Held → Option Reason
report_in l x m (control.B y) h = if is_misreport l x.param y.param h.perm then Some (Misreport m h) else None
report_in l x m _ h = None

abbrev pub report_by : {w : ℕ} → Liberties → BeatC w → Option Told → Held → Option Reason
report_by l x None h = None
report_by l x (Some m) h = report_in l x m m.mention.control h

-- ---- the reason of a rule, by the channel of the beat

abbrev pub for_request : {w : ℕ} → Liberties → Rule → BeatA w → Recorder → Option Reason
for_request l H1 x r = where_pending (RequestSource x.source) r.turns.request
for_request l H4 x r =
    if is_acquire x.opcode
    then first_reason (where_pending (AcquireOf (block_at x.address)) r.turns.acquire)
    (where_pending (ReleaseOf (block_at x.address)) r.turns.release)
    else None
for_request l H5 x r =
    if is_acquire x.opcode then unless_held (grows_from_under l x.param r.held.perm) r.held else None
for_request l _ x r = None

abbrev pub for_probe : {w : ℕ} → Rule → BeatB w → Recorder → Option Reason
for_probe H9 x r =
    if is_probe x.opcode
    then first_reason (where_pending (ProbeOf (block_at x.address)) r.turns.probe)
    (where_pending (GrantAckOf (block_at x.address)) r.turns.grant_ack)
    else None
for_probe _ x r = None

abbrev pub for_release : {w : ℕ} → Liberties → Rule → BeatC w → Recorder → Option Reason
for_release l H1 x r = where_pending (ReleaseSource x.source) r.turns.release_with_source
for_release l H13 x r =
    first_reason (first_reason (where_pending (AcquireOf (block_at x.address)) r.turns.acquire)
    (where_pending (ReleaseOf (block_at x.address)) r.turns.release))
    (unless_held (releases_from l x.param r.held.perm) r.held)
for_release l _ x r = None

abbrev pub for_probe_ack : {w : ℕ} → Liberties → Rule → BeatC w → Recorder → Option Reason
for_probe_ack l H10 x r = probe_by l x r.turns.probe (open_message r.turns.probe)
for_probe_ack l H11 x r = where_pending (ReleaseOf (block_at x.address)) r.turns.release
for_probe_ack l H12 x r = report_by l x (open_message r.turns.probe) r.held
for_probe_ack l _ x r = None

abbrev pub for_message_c : {w : ℕ} → Liberties → Rule → BeatC w → Recorder → Option Reason
for_message_c l rule x r = if is_release x.opcode then for_release l rule x r else if is_probe_ack x.opcode then
    for_probe_ack l rule x r else None

abbrev pub where_unasked : {w : ℕ} → Liberties → BeatD w → Recorder → Option Reason
where_unasked l x r =
    if is_release_ack x.opcode
    then where_missing (ReleaseSource x.source) r.turns.release_with_source (awaited l (begun_on r channel.C))
    else first_reason (where_missing (RequestSource x.source) r.turns.request (awaited l (begun_on r channel.A)))
    (kind_by x (open_message r.turns.request))

abbrev pub asked_by : {w : ℕ} → BeatD w → Recorder → Option Told
asked_by x r = if is_release_ack x.opcode then open_message r.turns.release_with_source else open_message
    r.turns.request

abbrev pub for_answer : {w : ℕ} → Liberties → Rule → BeatD w → Recorder → Option Reason
for_answer l H2 x r = where_unasked l x r
for_answer l H3 x r = size_by x (asked_by x r)
for_answer l H6 x r = if is_grant x.opcode then grant_by l x (open_message r.turns.request) r else None
for_answer l H7 x r = if is_grant x.opcode then where_pending (GrantSink x.sink) r.turns.sink else None
for_answer l _ x r = None

abbrev pub for_acknowledgement : Liberties → Rule → BeatE → Recorder → Option Reason
for_acknowledgement l H8 x r = where_missing (GrantSink x.sink) r.turns.sink (awaited l (begun_on r channel.D))
for_acknowledgement l _ x r = None

abbrev pub for_message : {w : ℕ} → Liberties → Rule → Beat w → Recorder → Option Reason
for_message l rule (beat.A x) r = for_request l rule x r
for_message l rule (beat.B x) r = for_probe rule x r
for_message l rule (beat.C x) r = for_message_c l rule x r
for_message l rule (beat.D x) r = for_answer l rule x r
for_message l rule (beat.E x) r = for_acknowledgement l rule x r

-- if a beat doesn't continue the burst on its channel
abbrev pub differs_by : {w : ℕ} → Beat w → Option Begun → Option Reason
differs_by x None = None
differs_by x (Some b) = if has_control x b.newest then None else Some (Differs b)

abbrev pub is_of_bursts : Rule → Bool
is_of_bursts S1 = true
is_of_bursts _ = false

abbrev pub reason_by : {w : ℕ} → Liberties → Rule → Beat w → Recorder → Option Reason
reason_by l rule x r =
    if is_of_bursts rule then differs_by x (begun_on r (channel_of x)) else
    if is_none (begun_on r (channel_of x)) then for_message l rule x r else None
