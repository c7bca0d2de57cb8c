-- The claims of a reason about a trace, and the rule that a beat breaks by them.
use Rattle.std.specs.Prelude.{ℕ, Bool, true, false, not, List, ◌∷◌, ◌≡◌, ◌==◌, ◌&&◌, ⊤, if◌then◌else◌, length}
use Rattle.std.specs.Prelude.{Option, Some, None, IfSome}
use Rattle.tl_beat.specs.declared.beat.Beat.{Beat}
use Rattle.tl_beat.specs.declared.beat.Beat.TheVariants as beat
use Rattle.tl_beat.specs.declared.beat.BeatD.{BeatD}
use Rattle.tl_beat.specs.declared.beat.Link.{Link}
use Rattle.tl_beat.specs.declared.channel.Channel.{Channel}
use Rattle.tl_beat.specs.declared.channel.Channel.TheVariants as channel
use Rattle.tl_beat.specs.statement.First.{first_if}
use Rattle.tl_beat.specs.statement.Opcode.{c_carries_data}
use Rattle.tl_burst.specs.statement.Messages.{History, channel_of}
use Rattle.tl_params.specs.declared.key.Key.{Key}
use Rattle.tl_params.specs.declared.key.Key.TheVariants.{RequestSource, ReleaseSource, AcquireOf, ReleaseOf, GrantSink}
use Rattle.tl_params.specs.declared.key.Key.TheVariants.{GrantAckOf, ProbeOf}
use Rattle.tl_params.specs.declared.liberties.Liberties.{Liberties}
use Rattle.tl_params.specs.declared.perm.Perm.{Perm}
use Rattle.tl_params.specs.declared.perm.Perm.TheVariants as perm
use Rattle.tl_params.specs.declared.profile.Profile.{Profile}
use Rattle.tl_params.specs.declared.rule.Rule.{Rule}
use Rattle.tl_params.specs.declared.rule.Rule.TheVariants.{S1, H1, H2, H3, H4, H5, H6, H7, H8, H9, H10, H11, H12, H13}
use Rattle.tl_params.specs.statement.Liberties.{liberties_of, no_liberties}
use Rattle.tl_params.specs.statement.Param.{cap_of}
use Rattle.tl_rules.specs.statement.Conformance.{Trace, on_link, answers, comes_in_grant}
use Rattle.tl_rules.specs.statement.Conformance.{comes_in_release, comes_in_request, fits_grow}
use Rattle.tl_rules.specs.statement.Conformance.{is_acquire_block, is_grant_without_data, is_probe_block, is_report_at}
use Rattle.tl_rules.specs.statement.Conformance.{same_perm}
use Rattle.tl_rules.specs.statement.History.{begins, block_at, is_acquire, is_grant, is_probe, is_probe_ack}
use Rattle.tl_rules.specs.statement.History.{is_release, is_release_ack, request_of}
use Rattle.tl_rules.specs.statement.Liberties.{grows_from_under, profile_under, releases_from, reports_none}
use Rattle.tl_beat.specs.statement.Control.{control_of, has_control}
use Rattle.tl_beat.specs.declared.control.Control.{Control}
use Rattle.tl_beat.specs.declared.control.Control.TheVariants as control
use Rattle.tl_beat.specs.declared.control.ControlA.{ControlA}
use Rattle.tl_explain.specs.declared.held.Held.{Held}
use Rattle.tl_explain.specs.declared.reason.Reason.{Reason}
use Rattle.tl_explain.specs.declared.reason.Reason.TheVariants.{Pending, Never, Closed, Unfinished, OtherKind}
use Rattle.tl_explain.specs.declared.reason.Reason.TheVariants.{OtherSize, WrongCap, WithoutData, Probed, Holds}
use Rattle.tl_explain.specs.declared.reason.Reason.TheVariants.{OtherSource, WrongProbe, Misreport, Differs}
use Rattle.tl_explain.specs.declared.told.Mention.{Mention}
use Rattle.tl_explain.specs.declared.turns.Subject.{Subject}
use Rattle.tl_explain.specs.statement.Evidence.{mention_of}
use Rattle.tl_explain.specs.statement.OrderRules.{BreaksUnder, first_broken_under}
use Rattle.tl_explain.specs.statement.Since.{IsBurstSince, IsClosedBy, IsHeldSinceUnder, IsNeverOpened, IsPendingSince}

-- ---- each rule of order by itself, on a link of a profile

-- the first of these rules that the beat breaks
abbrev pub first_broken : {w : ℕ} → Profile → List Rule → Beat w → History w → Option Rule
first_broken p rules x t = first_broken_under (liberties_of p) rules x t

-- the beat breaks the rule of order after the history t: an H rule if it begins a message, otherwise S1
abbrev pub Breaks : {w : ℕ} → Profile → Rule → Beat w → History w → Type 0
Breaks p rule x t = BreaksUnder (liberties_of p) rule x t

-- ---- the claims about a trace

-- the key that the answer to a message closes, if that key has the source or block of the message
abbrev pub answer_key : Control → Option Key
answer_key (control.A x) = Some (RequestSource x.source)
answer_key (control.B x) = Some (ProbeOf (block_at x.address))
answer_key (control.C x) = Some (ReleaseSource x.source)
answer_key (control.D x) = None
answer_key (control.E sink) = None

-- the cited message has no answer yet
abbrev pub IsUnanswered : {w : ℕ} → ℕ → Mention → Trace w → Type 0
IsUnanswered n m t = (k : Key) × (answer_key m.control ≡ Some k) × IsPendingSince n k m t

-- the block of a message, by its address
abbrev pub block_named : Control → Option ℕ
block_named (control.A x) = Some (block_at x.address)
block_named (control.B x) = Some (block_at x.address)
block_named (control.C x) = Some (block_at x.address)
block_named (control.D x) = None
block_named (control.E sink) = None

-- link n, which has these liberties, holds this permission of the block of this message, since the cited message
abbrev pub IsHeldOf : {w : ℕ} → Liberties → ℕ → Control → Held → Trace w → Type 0
IsHeldOf l n c h t = (k : ℕ) × (block_named c ≡ Some k) × IsHeldSinceUnder l n k h.perm (mention_of h.since) t

-- the channel whose messages open the key
abbrev pub opening_channel : Key → Channel
opening_channel (RequestSource s) = channel.A
opening_channel (ReleaseSource s) = channel.C
opening_channel (AcquireOf k) = channel.A
opening_channel (ReleaseOf k) = channel.C
opening_channel (GrantSink s) = channel.D
opening_channel (GrantAckOf k) = channel.D
opening_channel (ProbeOf k) = channel.B

-- the unfinished burst is of a message that opens the key
abbrev pub comes_in : {w : ℕ} → Key → List (Beat w) → Bool
comes_in (RequestSource s) burst = comes_in_request s burst
comes_in (ReleaseSource s) burst = comes_in_release s burst
comes_in (GrantSink s) burst = comes_in_grant s burst
comes_in _ burst = false

-- The cited message opened the key and is unfinished, and `came` of its beats have come: an unfinished burst began in
-- its line, and its newest beat is of a message that opens the key.
abbrev pub IsUnfinished : {w : ℕ} → ℕ → Key → Mention → ℕ → Trace w → Type 0
IsUnfinished {w} n k m came t =
    (burst : List (Beat w)) × (first : Mention) × IsBurstSince n (opening_channel k) burst first t
    × (first.line ≡ m.line)
    × (came ≡ length burst) × (comes_in k burst ≡ true)

-- the cited beat is the first of the unfinished burst on a channel, `came` beats of it have come, and this is the
-- newest
abbrev pub IsGoingOn : {w : ℕ} → ℕ → Channel → Mention → Control → ℕ → Trace w → Type 0
IsGoingOn {w} n ch m c came t =
    (newest : Beat w) × (others : List (Beat w)) × IsBurstSince n ch (newest ∷ others) m t
    × (came ≡ length (newest ∷ others)) × (c ≡ control_of newest)

-- the claim of the reason is true of the trace t before the beat x of link n, which has these liberties
abbrev pub IsToldUnder : {w : ℕ} → Liberties → ℕ → Beat w → Reason → Trace w → Type 0
IsToldUnder l n x (Pending k m) t = IsPendingSince n k m.mention t
IsToldUnder l n x (Never k) t = IsNeverOpened n k t
IsToldUnder l n x (Closed k opening closing) t = IsClosedBy n k opening.mention closing.mention t
IsToldUnder l n x (Unfinished k m came) t = IsPendingSince n k m.mention t × IsUnfinished n k m.mention came t
IsToldUnder l n x (OtherKind request) t = IsUnanswered n request.mention t
IsToldUnder l n x (OtherSize request) t = IsUnanswered n request.mention t
IsToldUnder l n x (WrongCap request) t = IsUnanswered n request.mention t
IsToldUnder l n x (WithoutData request h) t =
    IsUnanswered n request.mention t × IsHeldOf l n request.mention.control h t
IsToldUnder l n x (Probed request probe) t = IsUnanswered n request.mention t × IsUnanswered n probe.mention t
IsToldUnder l n x (Holds h) t = IsHeldOf l n (control_of x) h t
IsToldUnder l n x (OtherSource probe) t = IsUnanswered n probe.mention t
IsToldUnder l n x (WrongProbe probe) t = IsUnanswered n probe.mention t
IsToldUnder l n x (Misreport probe h) t = IsUnanswered n probe.mention t × IsHeldOf l n probe.mention.control h t
IsToldUnder l n x (Differs b) t = IsGoingOn n (channel_of x) b.first.mention b.newest b.came t

-- the beat begins a message, for a reason about the order of messages
abbrev pub is_of_messages : Reason → Bool
is_of_messages (Differs b) = false
is_of_messages _ = true

-- the evidence: the claim of the reason is true
abbrev pub IsEvidenceUnder : {w : ℕ} → Liberties → ℕ → Beat w → Reason → Trace w → Type 0
IsEvidenceUnder l n x reason t = (begins x (on_link n t) ≡ is_of_messages reason) × IsToldUnder l n x reason t

-- the same on a link without liberties, and so of either profile
abbrev pub IsEvidence : {w : ℕ} → ℕ → Beat w → Reason → Trace w → Type 0
IsEvidence n x reason t = IsEvidenceUnder no_liberties n x reason t

-- ---- the rule that a beat breaks, by the reason and nothing else

-- the rule that the beat breaks since this key is pending
abbrev pub rule_of_pending : {w : ℕ} → Beat w → Key → Option Rule
rule_of_pending (beat.A x) (RequestSource s) = first_if (x.source == s) H1 None
rule_of_pending (beat.A x) (AcquireOf k) = first_if (is_acquire x.opcode && (block_at x.address == k)) H4 None
rule_of_pending (beat.A x) (ReleaseOf k) = first_if (is_acquire x.opcode && (block_at x.address == k)) H4 None
rule_of_pending (beat.B x) (ProbeOf k) = first_if (is_probe x.opcode && (block_at x.address == k)) H9 None
rule_of_pending (beat.B x) (GrantAckOf k) = first_if (is_probe x.opcode && (block_at x.address == k)) H9 None
rule_of_pending (beat.C x) (ReleaseSource s) = first_if (is_release x.opcode && (x.source == s)) H1 None
rule_of_pending (beat.C x) (AcquireOf k) = first_if (is_release x.opcode && (block_at x.address == k)) H13 None
rule_of_pending (beat.C x) (ReleaseOf k) =
    first_if (is_release x.opcode && (block_at x.address == k)) H13
    (first_if (is_probe_ack x.opcode && (block_at x.address == k)) H11 None)
rule_of_pending (beat.D x) (GrantSink s) = first_if (is_grant x.opcode && (x.sink == s)) H7 None
rule_of_pending _ _ = None

-- the rule that the beat breaks since no complete message has this key pending; for a ProbeAck, since no message has
abbrev pub rule_of_missing : {w : ℕ} → Beat w → Key → Option Rule
rule_of_missing (beat.C x) (ProbeOf k) = first_if (is_probe_ack x.opcode && (block_at x.address == k)) H10 None
rule_of_missing (beat.D x) (RequestSource s) = first_if (not (is_release_ack x.opcode) && (x.source == s)) H2 None
rule_of_missing (beat.D x) (ReleaseSource s) = first_if (is_release_ack x.opcode && (x.source == s)) H2 None
rule_of_missing (beat.E x) (GrantSink s) = first_if (x.sink == s) H8 None
rule_of_missing _ _ = None

-- the same, since the message that opened the key is unfinished; under `early` it may be
abbrev pub rule_of_unfinished : {w : ℕ} → Liberties → Beat w → Key → Option Rule
rule_of_unfinished l (beat.D x) k = if l.early then None else rule_of_missing (beat.D x) k
rule_of_unfinished {w} l (beat.E x) k = if l.early then None else rule_of_missing {w = w} (beat.E x) k
rule_of_unfinished l _ k = None

-- H2: the message may not answer the request
abbrev pub rule_of_kind : {w : ℕ} → Beat w → Control → Option Rule
rule_of_kind (beat.D x) (control.A r) =
    first_if (not (is_release_ack x.opcode) && ((x.source == r.source) && not (answers x.opcode r.opcode))) H2 None
rule_of_kind _ _ = None

-- H3: the request, or for a ReleaseAck the Release, has another size
abbrev pub rule_of_size : {w : ℕ} → Beat w → Control → Option Rule
rule_of_size (beat.D x) (control.A r) =
    first_if (not (is_release_ack x.opcode) && ((x.source == r.source) && not (x.size == r.size))) H3 None
rule_of_size (beat.D x) (control.C r) =
    first_if (is_release_ack x.opcode && ((x.source == r.source) && not (x.size == r.size))) H3 None
rule_of_size _ _ = None

-- a denied Grant, under `denied`: it gives nothing, and neither its cap nor its data are judged
abbrev pub gives_nothing : {w : ℕ} → Liberties → BeatD w → Bool
gives_nothing l x = l.denied && x.denied

-- the cap of the Grant doesn't answer the request
abbrev pub has_wrong_cap : {w : ℕ} → Liberties → BeatD w → ControlA → Bool
has_wrong_cap l x r = not (gives_nothing l x) && not (fits_grow (profile_under l) r.opcode r.param x.param)

-- H6: the cap of the Grant doesn't answer its request
abbrev pub rule_of_cap : {w : ℕ} → Liberties → Beat w → Control → Option Rule
rule_of_cap l (beat.D x) (control.A r) =
    first_if (is_grant x.opcode && ((x.source == r.source) && has_wrong_cap l x r)) H6 None
rule_of_cap l _ _ = None

-- the Grant has no data, and the request needs them while p is held
abbrev pub lacks_data : {w : ℕ} → Liberties → BeatD w → ControlA → Perm → Bool
lacks_data l x r p = not (gives_nothing l x)
    && (is_grant_without_data x.opcode && (is_acquire_block r.opcode && not (same_perm p perm.Branch)))

-- H6: the Grant has no data, and its request needs them while p is held
abbrev pub rule_of_data : {w : ℕ} → Liberties → Beat w → Control → Perm → Option Rule
rule_of_data l (beat.D x) (control.A r) p = first_if ((x.source == r.source) && lacks_data l x r p) H6 None
rule_of_data l _ _ p = None

-- H6: a Probe of the request's block is pending
abbrev pub rule_of_probed : {w : ℕ} → Beat w → Control → Control → Option Rule
rule_of_probed (beat.D x) (control.A r) (control.B y) =
    first_if (is_grant x.opcode && ((x.source == r.source) && (block_at y.address == block_at r.address))) H6 None
rule_of_probed _ _ _ = None

-- H5 or H13: the param doesn't fit the permission held
abbrev pub rule_of_held : {w : ℕ} → Liberties → Beat w → Perm → Option Rule
rule_of_held l (beat.A x) p = first_if (is_acquire x.opcode && not (grows_from_under l x.param p)) H5 None
rule_of_held l (beat.C x) p = first_if (is_release x.opcode && not (releases_from l x.param p)) H13 None
rule_of_held l _ p = None

-- H10: under `ids` the ProbeAck has another source than its Probe
abbrev pub rule_of_source : {w : ℕ} → Liberties → Beat w → Control → Option Rule
rule_of_source l (beat.C x) (control.B y) =
    first_if (is_probe_ack x.opcode && ((block_at x.address == block_at y.address) && (l.ids && not
    (x.source == y.source)))) H10 None
rule_of_source l _ _ = None

-- H10: the ProbeAck has data, and its Probe is a ProbePerm
abbrev pub rule_of_probe : {w : ℕ} → Beat w → Control → Option Rule
rule_of_probe (beat.C x) (control.B y) =
    first_if (is_probe_ack x.opcode && ((block_at x.address == block_at y.address) && (c_carries_data x.opcode && not
    (is_probe_block y.opcode)))) H10 None
rule_of_probe _ _ = None

-- the param isn't the report to a Probe of this cap while p is held, nor one that `drops` allows
abbrev pub is_misreport : Liberties → ℕ → ℕ → Perm → Bool
is_misreport l param cap p = not (l.drops && reports_none param) && not (is_report_at param (cap_of cap) p)

-- H12: the param isn't the report of the Probe's cap while p is held
abbrev pub rule_of_report : {w : ℕ} → Liberties → Beat w → Control → Perm → Option Rule
rule_of_report l (beat.C x) (control.B y) p =
    first_if (is_probe_ack x.opcode && ((block_at x.address == block_at y.address) && is_misreport l x.param y.param p))
    H12 None
rule_of_report l _ _ p = None

-- The rule that a beat breaks if the claim of a reason is true, on a link with these liberties. It follows from the
-- beat and the reason alone. None if no rule follows.
abbrev pub convicted_under : {w : ℕ} → Liberties → Beat w → Reason → Option Rule
convicted_under l x (Pending k m) = rule_of_pending x k
convicted_under l x (Never k) = rule_of_missing x k
convicted_under l x (Closed k opening closing) = rule_of_missing x k
convicted_under l x (Unfinished k m came) = rule_of_unfinished l x k
convicted_under l x (OtherKind request) = rule_of_kind x request.mention.control
convicted_under l x (OtherSize request) = rule_of_size x request.mention.control
convicted_under l x (WrongCap request) = rule_of_cap l x request.mention.control
convicted_under l x (WithoutData request h) = rule_of_data l x request.mention.control h.perm
convicted_under l x (Probed request probe) = rule_of_probed x request.mention.control probe.mention.control
convicted_under l x (Holds h) = rule_of_held l x h.perm
convicted_under l x (OtherSource probe) = rule_of_source l x probe.mention.control
convicted_under l x (WrongProbe probe) = rule_of_probe x probe.mention.control
convicted_under l x (Misreport probe h) = rule_of_report l x probe.mention.control h.perm
convicted_under l x (Differs b) = first_if (not (has_control x b.newest)) S1 None

-- the same on a link of this profile
abbrev pub convicted : {w : ℕ} → Profile → Beat w → Reason → Option Rule
convicted p x reason = convicted_under (liberties_of p) x reason

-- The rules of order without H2 and H8. If one of these is the first that a beat breaks, there is always a reason. For
-- H2 and H8 there is one if no earlier beat is at fault: an unfinished message is then the one that opened the key.
abbrev pub is_always_told : Rule → Bool
is_always_told S1 = true
is_always_told H1 = true
is_always_told H3 = true
is_always_told H4 = true
is_always_told H5 = true
is_always_told H6 = true
is_always_told H7 = true
is_always_told H9 = true
is_always_told H10 = true
is_always_told H11 = true
is_always_told H12 = true
is_always_told H13 = true
is_always_told _ = false

-- ---- the record for a verdict

-- the subject is that of a verdict on the beat x of a link
abbrev pub IsSubject : {w : ℕ} → Subject → Link → Beat w → Type 0
IsSubject s link (beat.A x) = (s.link ≡ link) × (s.source ≡ x.source) × (s.block ≡ block_at x.address)
IsSubject s link (beat.B x) = (s.link ≡ link) × (s.block ≡ block_at x.address)
IsSubject s link (beat.C x) = (s.link ≡ link) × (s.source ≡ x.source) × (s.block ≡ block_at x.address)
IsSubject s link (beat.D x) = (s.link ≡ link) × (s.source ≡ x.source) × (s.sink ≡ x.sink)
IsSubject s link (beat.E x) = (s.link ≡ link) × (s.sink ≡ x.sink)

-- the block of the subject is that of the request that the beat answers, if there is one
abbrev pub HasBlockAsked : {w : ℕ} → Subject → Beat w → Trace w → Type 0
HasBlockAsked s (beat.D x) t = IfSome (request_of x.source (on_link s.link.0 t)) (λ r. s.block ≡ block_at r.address)
HasBlockAsked s _ t = ⊤
