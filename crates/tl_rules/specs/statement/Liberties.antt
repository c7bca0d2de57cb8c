-- The rules of a link under liberties: their changes to legality, to the permission held and to the order of messages.
-- Without liberties a definition here equals the one of its name without `_under`.
use Rattle.std.specs.Prelude.{ℕ, Bool, true, false, not, List, [], ◌∷◌, ◌==◌, ◌&&◌, ◌||◌, if◌then◌else◌, length, Option}
use Rattle.std.specs.Prelude.{Some, None, is_none, is_some, slice_get, unwrap_or}
use Rattle.tl_beat.specs.declared.beat.Beat.{Beat}
use Rattle.tl_beat.specs.declared.beat.Beat.TheVariants as beat
use Rattle.tl_beat.specs.declared.beat.BeatA.{BeatA}
use Rattle.tl_beat.specs.declared.beat.BeatB.{BeatB}
use Rattle.tl_beat.specs.declared.beat.BeatC.{BeatC}
use Rattle.tl_beat.specs.declared.beat.BeatD.{BeatD}
use Rattle.tl_beat.specs.declared.beat.BeatE.{BeatE}
use Rattle.tl_beat.specs.declared.beat.Link.{Link}
use Rattle.tl_beat.specs.declared.channel.Channel.{Channel}
use Rattle.tl_beat.specs.declared.channel.Channel.TheVariants as channel
use Rattle.tl_beat.specs.declared.opcode.OpC.{OpC}
use Rattle.tl_beat.specs.declared.opcode.OpC.TheVariants as c
use Rattle.tl_beat.specs.declared.opcode.OpD.{OpD}
use Rattle.tl_beat.specs.declared.opcode.OpD.TheVariants as d
use Rattle.tl_beat.specs.statement.First.{first_if}
use Rattle.tl_beat.specs.statement.Opcode.{d_carries_data}
use Rattle.tl_burst.specs.statement.Messages.{History, channel_of, unfinished, breaks_burst}
use Rattle.tl_params.specs.declared.key.Key.{Key}
use Rattle.tl_params.specs.declared.key.Key.TheVariants.{RequestSource, ReleaseSource, AcquireOf, ReleaseOf, GrantSink}
use Rattle.tl_params.specs.declared.key.Key.TheVariants.{GrantAckOf, ProbeOf}
use Rattle.tl_params.specs.declared.level.Level.{Level}
use Rattle.tl_params.specs.declared.liberties.Liberties.{Liberties}
use Rattle.tl_params.specs.declared.param.Grow.TheVariants as grow
use Rattle.tl_params.specs.declared.param.Report.{Report}
use Rattle.tl_params.specs.declared.param.Report.TheVariants as report
use Rattle.tl_params.specs.declared.perm.Perm.{Perm}
use Rattle.tl_params.specs.declared.perm.Perm.TheVariants as perm
use Rattle.tl_params.specs.declared.profile.Profile.{Profile}
use Rattle.tl_params.specs.declared.profile.Profile.TheVariants as profile
use Rattle.tl_params.specs.declared.rule.Rule.{Rule}
use Rattle.tl_params.specs.declared.rule.Rule.TheVariants.{L1, L2, L3, L4, L5, L6, L7, S1, H1, H2, H3, H4, H5, H6, H7}
use Rattle.tl_params.specs.declared.rule.Rule.TheVariants.{H8, H10, H11, H12, H13}
use Rattle.tl_params.specs.statement.Param.{cap_of, grow_code, report_code, report_left, report_named}
use Rattle.tl_rules.specs.statement.Conformance.{Trace, admits, answers_wrong_probe, broken_b, comes_in_grant, fault_or}
use Rattle.tl_rules.specs.statement.Conformance.{comes_in_release, comes_in_request, fits_grow, grows_from, misreports}
use Rattle.tl_rules.specs.statement.Conformance.{is_acquire_block, is_grant_without_data, on_link, prunes_from}
use Rattle.tl_rules.specs.statement.Conformance.{same_perm, size_asked}
use Rattle.tl_params.specs.statement.Param.{prune_of}
use Rattle.tl_rules.specs.statement.History.{begins, block_at, capped, ends, is_acquire, is_grant, is_probe_ack}
use Rattle.tl_rules.specs.statement.History.{is_release, is_release_ack, pending, probe_of, release_of, reported}
use Rattle.tl_rules.specs.statement.History.{grant_sink, is_sink, releases, request_of, says_held}
use Rattle.tl_rules.specs.statement.Legality.{breaks_l1, breaks_l2, breaks_l3, breaks_l4, breaks_l5, breaks_l6}
use Rattle.tl_rules.specs.statement.Legality.{breaks_l7, c_has_param, c_has_source, d_has_param, d_has_sink}
use Rattle.tl_rules.specs.statement.Legality.{may_be_denied}

-- ---- legality: L2 and L6

-- `reports`: a Release may have any of the six reports, a ReleaseData those from Trunk
abbrev pub c_has_param_under : Liberties → OpC → ℕ → Bool
c_has_param_under l c.Release param = if l.reports then is_some (report_named param) else c_has_param c.Release param
c_has_param_under l c.ReleaseData param =
    (l.reports && (param == report_code report.TtoT)) || c_has_param c.ReleaseData param
c_has_param_under l opcode param = c_has_param opcode param

-- `ids` allows any source on B, ProbeAck and ProbeAckData; `sinks` allows any sink on D
abbrev pub breaks_l2_under : {w : ℕ} → Liberties → Beat w → Bool
breaks_l2_under l (beat.A x) = breaks_l2 (beat.A x)
breaks_l2_under l (beat.B x) = not (is_some (cap_of x.param) && (l.ids || (x.source == 0)))
breaks_l2_under l (beat.C x) = not (c_has_param_under l x.opcode x.param && (l.ids || c_has_source x.opcode x.source))
breaks_l2_under l (beat.D x) = not (d_has_param x.opcode x.param && (l.sinks || d_has_sink x.opcode x.sink))
breaks_l2_under l (beat.E x) = false

-- `denied`: a Grant may be denied; with data it must be corrupt then. `uncorrupt`: a denied AccessAckData needn't be
-- corrupt.
abbrev pub may_be_denied_under : Liberties → OpD → Bool → Bool
may_be_denied_under l d.AccessAckData corrupt = l.uncorrupt || corrupt
may_be_denied_under l d.Grant corrupt = l.denied
may_be_denied_under l d.GrantData corrupt = l.denied && corrupt
may_be_denied_under l opcode corrupt = may_be_denied opcode corrupt

-- L6: corrupt without data, or denied on an opcode that may not be denied
abbrev pub breaks_l6_under : {w : ℕ} → Liberties → Beat w → Bool
breaks_l6_under l (beat.A x) = breaks_l6 (beat.A x)
breaks_l6_under l (beat.B x) = breaks_l6 (beat.B x)
breaks_l6_under l (beat.C x) = breaks_l6 (beat.C x)
breaks_l6_under l (beat.D x) = (x.corrupt && not (d_carries_data x.opcode))
    || (x.denied && not (may_be_denied_under l x.opcode x.corrupt))
breaks_l6_under l (beat.E x) = false

-- the first L rule that the beat breaks, in the order L1, L7, L2, L3, L4, L5, L6
unfoldable pub illegal_under : {w : ℕ} → Liberties → Level → Channel → Beat w → Option Rule
illegal_under l level ch x =
    first_if (breaks_l1 level ch x) L1
    (first_if (breaks_l7 x) L7
    (first_if (breaks_l2_under l x) L2
    (first_if (breaks_l3 level x) L3
    (first_if (breaks_l4 x) L4
    (first_if (breaks_l5 x) L5
    (first_if (breaks_l6_under l x) L6 None))))))

-- ---- the permission held

-- the grow is NtoB or NtoT
abbrev pub grows_from_none : ℕ → Bool
grows_from_none param = not (param == grow_code grow.BtoT)

-- the beat continues a message of this key that is closed already: the answer came before its last beat
abbrev pub is_answered : {w : ℕ} → Key → Beat w → History w → Bool
is_answered key x t = not (begins x t) && not (pending key t)

-- the permission that the Release with this source leaves, if these beats, the newest first, are its
abbrev pub left_by_release : {w : ℕ} → ℕ → List (Beat w) → Option Perm
left_by_release source (beat.C x ∷ burst) = if is_release x.opcode && (x.source == source) then Some (reported x.param)
    else None
left_by_release source _ = None

-- the permission that the Grant with this sink gives, if these beats, the newest first, are its and it isn't denied
abbrev pub given_by_grant : {w : ℕ} → ℕ → List (Beat w) → Option Perm
given_by_grant sink (beat.D x ∷ burst) =
    if is_grant x.opcode && ((x.sink == sink) && not x.denied) then Some (capped x.param) else None
given_by_grant sink _ = None

-- the block waits for a GrantAck, and this is its sink
abbrev pub acknowledges : {w : ℕ} → ℕ → ℕ → History w → Bool
acknowledges k sink t = pending (GrantAckOf k) t && is_sink sink (grant_sink k t)

-- The permission of the block that this beat sets after t, if it completes a message that sets one.
-- - `drops`: an Acquire NtoB or NtoT sets None.
-- - `early`: a Grant or a Release sets it with its last beat or, if that comes first, with the last beat of its answer.
-- - `denied`: a denied Grant sets none.
abbrev pub says_held_under : {w : ℕ} → Liberties → ℕ → Beat w → History w → Option Perm
says_held_under l k (beat.A x) t =
    if l.drops && (begins (beat.A x) t && (is_acquire x.opcode && grows_from_none x.param))
    then (if block_at x.address == k then Some perm.None else None)
    else says_held k (beat.A x) t
says_held_under l k (beat.B x) t = says_held k (beat.B x) t
says_held_under l k (beat.C x) t =
    if l.early && (is_release x.opcode && is_answered (ReleaseOf k) (beat.C x) t)
    then None
    else says_held k (beat.C x) t
says_held_under l k (beat.D x) t =
    if l.denied && x.denied then None else
    if l.early && (is_grant x.opcode && is_answered (GrantAckOf k) (beat.D x) t) then None else
    if l.early && is_release_ack x.opcode
    then (if releases k (release_of x.source t) then left_by_release x.source (unfinished channel.C t) else None)
    else says_held k (beat.D x) t
says_held_under l k (beat.E x) t =
    if l.early && acknowledges k x.sink t then given_by_grant x.sink (unfinished channel.D t) else says_held k
    (beat.E x) t

-- the permission held of the block: the last one that was set
unfoldable pub held_under : {w : ℕ} → Liberties → ℕ → History w → Perm
held_under l k [] = perm.None
held_under l k (x ∷ t) =
    if ends x t then unwrap_or (says_held_under l k x t) (held_under l k t) else held_under l k t

-- ---- the order of messages

-- x answers a pending request with its source, or as a ReleaseAck a pending Release, complete unless `early`
abbrev pub has_request_under : {w : ℕ} → Liberties → BeatD w → History w → Bool
has_request_under l x t =
    if is_release_ack x.opcode
    then pending (ReleaseSource x.source) t && not (not l.early && comes_in_release x.source (unfinished channel.C t))
    else pending (RequestSource x.source) t && (not (not l.early && comes_in_request x.source (unfinished channel.A t))
    && admits x.opcode (request_of x.source t))

-- the grow fits the permission held; under `drops` NtoB and NtoT fit any
abbrev pub grows_from_under : Liberties → ℕ → Perm → Bool
grows_from_under l param p = (l.drops && grows_from_none param) || grows_from param p

-- H1, H4 and H5
abbrev pub broken_a_under : {w : ℕ} → Liberties → BeatA w → History w → Option Rule
broken_a_under l x t =
    first_if (pending (RequestSource x.source) t) H1
    (first_if (is_acquire x.opcode && (pending (AcquireOf (block_at x.address)) t || pending
    (ReleaseOf (block_at x.address)) t)) H4
    (first_if (is_acquire x.opcode && not (grows_from_under l x.param (held_under l (block_at x.address) t))) H5 None))

-- the report is NtoN: None is held
abbrev pub reports_none : ℕ → Bool
reports_none param = param == report_code report.NtoN

-- the report starts from this permission
abbrev pub reports_from : Option Report → Perm → Bool
reports_from None p = false
reports_from (Some report) p = same_perm (report_left report) p

-- The prune of a Release starts from the permission held. `reports`: its report does, or with `drops` is NtoN.
abbrev pub releases_from : Liberties → ℕ → Perm → Bool
releases_from l param p =
    if l.reports then (l.drops && reports_none param) || reports_from (report_named param) p else
    prunes_from (prune_of param) p

-- H1 and H13
abbrev pub broken_release_under : {w : ℕ} → Liberties → BeatC w → History w → Option Rule
broken_release_under l x t =
    first_if (pending (ReleaseSource x.source) t) H1
    (first_if (pending (AcquireOf (block_at x.address)) t || (pending (ReleaseOf (block_at x.address)) t || not
    (releases_from l x.param (held_under l (block_at x.address) t)))) H13 None)

-- the ProbeAck has another source than its Probe
abbrev pub has_other_source : {w : ℕ} → BeatC w → Option (BeatB w) → Bool
has_other_source x None = false
has_other_source x (Some probe) = not (x.source == probe.source)

-- the param isn't the report of the Probe's cap and the permission held; under `drops` NtoN is right for any
abbrev pub misreports_under : {w : ℕ} → Liberties → BeatC w → Option (BeatB w) → Perm → Bool
misreports_under l x probe p = not (l.drops && reports_none x.param) && misreports x probe p

-- H10, H11 and H12. `ids`: under H10 a ProbeAck has the source of its Probe.
abbrev pub broken_probe_ack_under : {w : ℕ} → Liberties → BeatC w → History w → Option Rule
broken_probe_ack_under l x t =
    first_if (not (pending (ProbeOf (block_at x.address)) t)
    || ((l.ids && has_other_source x (probe_of (block_at x.address) t))
    || answers_wrong_probe x (probe_of (block_at x.address) t))) H10
    (first_if (pending (ReleaseOf (block_at x.address)) t) H11
    (first_if (misreports_under l x (probe_of (block_at x.address) t) (held_under l (block_at x.address) t)) H12 None))

-- the first H rule that a message on C breaks
abbrev pub broken_c_under : {w : ℕ} → Liberties → BeatC w → History w → Option Rule
broken_c_under l x t =
    if is_release x.opcode then broken_release_under l x t else
    if is_probe_ack x.opcode then broken_probe_ack_under l x t else None

-- `writer`: an AcquireBlock NtoB may be granted toT, as under the second profile
abbrev pub profile_under : Liberties → Profile
profile_under l = if l.writer then profile.Two else profile.One

-- The Grant x doesn't fit its request. `denied`: a denied Grant fits with any cap and without data, unless a Probe of
-- the block is pending.
abbrev pub misgrants_under : {w : ℕ} → Liberties → BeatD w → Option (BeatA w) → History w → Bool
misgrants_under l x None t = false
misgrants_under l x (Some r) t =
    if l.denied && x.denied then pending (ProbeOf (block_at r.address)) t else
    (not (fits_grow (profile_under l) r.opcode r.param x.param)
    || ((is_grant_without_data x.opcode
    && (is_acquire_block r.opcode && not (same_perm (held_under l (block_at r.address) t) perm.Branch)))
    || pending (ProbeOf (block_at r.address)) t))

-- H2, H3, H6 and H7
abbrev pub broken_d_under : {w : ℕ} → Liberties → BeatD w → History w → Option Rule
broken_d_under l x t =
    first_if (not (has_request_under l x t)) H2
    (first_if (not (x.size == size_asked x t)) H3
    (first_if (is_grant x.opcode && misgrants_under l x (request_of x.source t) t) H6
    (first_if (is_grant x.opcode && pending (GrantSink x.sink) t) H7 None)))

-- H8. `early`: the Grant needn't be complete.
abbrev pub broken_e_under : {w : ℕ} → Liberties → BeatE → History w → Option Rule
broken_e_under l x t =
    first_if (not (pending (GrantSink x.sink) t) || (not l.early && comes_in_grant x.sink (unfinished channel.D t))) H8
    None

-- the first H rule that a message breaks at its first beat, after this history of its link
unfoldable pub broken_order_under : {w : ℕ} → Liberties → Beat w → History w → Option Rule
broken_order_under l (beat.A x) t = broken_a_under l x t
broken_order_under l (beat.B x) t = broken_b x t
broken_order_under l (beat.C x) t = broken_c_under l x t
broken_order_under l (beat.D x) t = broken_d_under l x t
broken_order_under l (beat.E x) t = broken_e_under l x t

-- ---- legality of a beat after a history, and of traces

-- the S or H rule that a beat breaks after t, for a beat that breaks no L rule
abbrev pub broken_in_order_under : {w : ℕ} → Liberties → Beat w → History w → Option Rule
broken_in_order_under l x t =
    if begins x t then broken_order_under l x t
    else first_if (breaks_burst x (unfinished (channel_of x) t)) S1 None

-- the first rule that the beat breaks after t, given the L rule that it breaks by itself, if any
abbrev pub broken_given_under : {w : ℕ} → Liberties → Option Rule → Beat w → History w → Option Rule
broken_given_under l (Some r) x t = Some r
broken_given_under l None x t = broken_in_order_under l x t

-- the first rule that the beat breaks after t on a link of this level
unfoldable pub broken_after_under : {w : ℕ} → Liberties → Level → Beat w → History w → Option Rule
broken_after_under l level x t = broken_given_under l (illegal_under l level (channel_of x) x) x t

-- no beat breaks a rule after the beats before it
unfoldable pub is_legal_under : {w : ℕ} → Liberties → Level → History w → Bool
is_legal_under l level [] = true
is_legal_under l level (x ∷ t) = is_none (broken_after_under l level x t) && is_legal_under l level t

-- the first rule that a beat breaks after this history of its link; L1 if the link has no level
abbrev pub broken_at_level_under : {w : ℕ} → Liberties → Option Level → Beat w → History w → Option Rule
broken_at_level_under l None x t = Some L1
broken_at_level_under l (Some level) x t = broken_after_under l level x t

-- the first rule that a beat of a link breaks after the trace t, which has its newest beat first
abbrev pub broken_on_link_under : {w : ℕ} → Liberties → List Level → Link × Beat w → Trace w → Option Rule
broken_on_link_under l levels x t = broken_at_level_under l (slice_get levels x.0.0) x.1 (on_link x.0.0 t)

-- The first beat of the trace that breaks a rule after the earlier beats of its own link: its place and the rule.
-- `before` has the earlier beats, the newest first. The trace has the later ones, the next first.
unfoldable pub fault_from_under : {w : ℕ} → Liberties → List Level → Trace w → Trace w → Option (ℕ × Rule)
fault_from_under l levels before [] = None
fault_from_under l levels before (x ∷ trace) =
    fault_or (broken_on_link_under l levels x before) (length before) (fault_from_under l levels (x ∷ before) trace)

-- the place of the first beat of a trace that breaks a rule, with the rule
abbrev pub first_fault_under : {w : ℕ} → Liberties → List Level → Trace w → Option (ℕ × Rule)
first_fault_under l levels trace = fault_from_under l levels [] trace
