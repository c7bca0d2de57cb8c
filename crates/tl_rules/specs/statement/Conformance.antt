-- The order of messages on a link. The H rules judge the first beat of a message against the history of its link. Then
-- all rules together, over a link and over a recorded trace.
use Rattle.std.specs.Prelude.{ℕ, Bool, true, false, not, List, [], ◌∷◌, ◌==◌, ◌&&◌, ◌||◌, if◌then◌else◌, length, Option}
use Rattle.std.specs.Prelude.{Some, None, is_none, slice_get}
use Rattle.tl_beat.specs.declared.beat.Beat.{Beat}
use Rattle.tl_beat.specs.declared.beat.Beat.TheVariants as beat
use Rattle.tl_beat.specs.declared.beat.BeatA.{BeatA}
use Rattle.tl_beat.specs.declared.beat.BeatB.{BeatB}
use Rattle.tl_beat.specs.declared.beat.BeatC.{BeatC}
use Rattle.tl_beat.specs.declared.beat.BeatD.{BeatD}
use Rattle.tl_beat.specs.declared.beat.BeatE.{BeatE}
use Rattle.tl_beat.specs.declared.beat.Link.{Link}
use Rattle.tl_beat.specs.declared.channel.Channel.TheVariants as channel
use Rattle.tl_beat.specs.declared.opcode.OpA.{OpA}
use Rattle.tl_beat.specs.declared.opcode.OpA.TheVariants as a
use Rattle.tl_beat.specs.declared.opcode.OpB.{OpB}
use Rattle.tl_beat.specs.declared.opcode.OpB.TheVariants as b
use Rattle.tl_beat.specs.declared.opcode.OpD.{OpD}
use Rattle.tl_beat.specs.declared.opcode.OpD.TheVariants as d
use Rattle.tl_beat.specs.statement.Opcode.{c_carries_data}
use Rattle.tl_beat.specs.statement.First.{first_if}
use Rattle.tl_burst.specs.statement.Messages.{History, channel_of, unfinished, breaks_burst}
use Rattle.tl_params.specs.declared.level.Level.{Level}
use Rattle.tl_params.specs.declared.perm.Perm.{Perm}
use Rattle.tl_params.specs.declared.perm.Perm.TheVariants as perm
use Rattle.tl_params.specs.declared.profile.Profile.{Profile}
use Rattle.tl_params.specs.declared.profile.Profile.TheVariants as profile
use Rattle.tl_params.specs.declared.rule.Rule.{Rule}
use Rattle.tl_params.specs.declared.rule.Rule.TheVariants.{L1, S1, H1, H2, H3, H4, H5, H6, H7, H8, H9, H10, H11, H12}
use Rattle.tl_params.specs.declared.rule.Rule.TheVariants.{H13}
use Rattle.tl_rules.specs.statement.History.{begins, block_at, is_acquire, is_probe, is_probe_ack, is_release, is_grant}
use Rattle.tl_rules.specs.statement.History.{is_release_ack, request_of, release_of, probe_of, held, pending}
use Rattle.tl_params.specs.declared.key.Key.TheVariants.{RequestSource, ReleaseSource, AcquireOf, ReleaseOf, GrantSink}
use Rattle.tl_params.specs.declared.key.Key.TheVariants.{GrantAckOf, ProbeOf}
use Rattle.tl_rules.specs.statement.Legality.{illegal}
use Rattle.tl_params.specs.declared.param.Cap.{Cap}
use Rattle.tl_params.specs.declared.param.Cap.TheVariants as cap
use Rattle.tl_params.specs.declared.param.Grow.TheVariants as grow
use Rattle.tl_params.specs.declared.param.Prune.{Prune}
use Rattle.tl_params.specs.statement.Param.{grow_code, cap_code, cap_of, prune_of, prune_left, report_at, report_code}

-- the permissions are the same
abbrev pub same_perm : Perm → Perm → Bool
same_perm perm.None perm.None = true
same_perm perm.Branch perm.Branch = true
same_perm perm.Trunk perm.Trunk = true
same_perm _ _ = false

-- ---- answers to requests

-- a response with this opcode may answer a request with that one
abbrev pub answers : OpD → OpA → Bool
answers d.AccessAck a.PutFullData = true
answers d.AccessAck a.PutPartialData = true
answers d.AccessAckData a.ArithmeticData = true
answers d.AccessAckData a.LogicalData = true
answers d.AccessAckData a.Get = true
answers d.HintAck a.Intent = true
answers d.Grant a.AcquireBlock = true
answers d.GrantData a.AcquireBlock = true
answers d.Grant a.AcquirePerm = true
answers _ _ = false

-- the unfinished burst is of a request with this source, so that request isn't complete
abbrev pub comes_in_request : {w : ℕ} → ℕ → List (Beat w) → Bool
comes_in_request s (beat.A x ∷ burst) = x.source == s
comes_in_request s _ = false

-- the unfinished burst is of a Release with this source
abbrev pub comes_in_release : {w : ℕ} → ℕ → List (Beat w) → Bool
comes_in_release s (beat.C x ∷ burst) = is_release x.opcode && (x.source == s)
comes_in_release s _ = false

-- the unfinished burst is of a Grant with this sink
abbrev pub comes_in_grant : {w : ℕ} → ℕ → List (Beat w) → Bool
comes_in_grant s (beat.D x ∷ burst) = is_grant x.opcode && (x.sink == s)
comes_in_grant s _ = false

-- there is a request, and a response with this opcode may answer it
abbrev pub admits : {w : ℕ} → OpD → Option (BeatA w) → Bool
admits answer None = false
admits answer (Some x) = answers answer x.opcode

-- x answers a complete pending request with its source, or as a ReleaseAck a complete pending Release
abbrev pub has_request : {w : ℕ} → BeatD w → History w → Bool
has_request x t =
    if is_release_ack x.opcode
    then pending (ReleaseSource x.source) t && not (comes_in_release x.source (unfinished channel.C t))
    else pending (RequestSource x.source) t && (not (comes_in_request x.source (unfinished channel.A t)) && admits
    x.opcode (request_of x.source t))

-- the size of a request, 0 if there is none
abbrev pub size_of_request : {w : ℕ} → Option (BeatA w) → ℕ
size_of_request None = 0
size_of_request (Some x) = x.size

-- the size of a Release, 0 if there is none
abbrev pub size_of_release : {w : ℕ} → Option (BeatC w) → ℕ
size_of_release None = 0
size_of_release (Some x) = x.size

-- the size of the request or Release that x answers
abbrev pub size_asked : {w : ℕ} → BeatD w → History w → ℕ
size_asked x t = if is_release_ack x.opcode then size_of_release (release_of x.source t) else size_of_request
    (request_of x.source t)

-- ---- permissions

-- the grow fits the permission held: BtoT grows from None and Branch, NtoB and NtoT from None
abbrev pub grows_from : ℕ → Perm → Bool
grows_from param p = if param == grow_code grow.BtoT then not (same_perm p perm.Trunk) else same_perm p perm.None

-- the cap answers the grow: toB answers NtoB, toT the others. Under the second profile toT may also answer an
-- AcquireBlock NtoB.
abbrev pub fits_grow : Profile → OpA → ℕ → ℕ → Bool
fits_grow profile.Two a.AcquireBlock param given =
    if param == grow_code grow.NtoB
    then (given == cap_code cap.ToT) || (given == cap_code cap.ToB)
    else given == cap_code cap.ToT
fits_grow _ opcode param given = if param == grow_code grow.NtoB then given == cap_code cap.ToB else given == cap_code
    cap.ToT

-- the opcode is Grant, which carries no data
abbrev pub is_grant_without_data : OpD → Bool
is_grant_without_data d.Grant = true
is_grant_without_data _ = false

-- the opcode is AcquireBlock, which asks for the block's data too
abbrev pub is_acquire_block : OpA → Bool
is_acquire_block a.AcquireBlock = true
is_acquire_block _ = false

-- the Grant x doesn't fit its request r: its cap doesn't answer the grow, or it has no data for an AcquireBlock and
-- Branch isn't held, or a Probe of the block is pending
abbrev pub misgrants : {w : ℕ} → Profile → BeatD w → Option (BeatA w) → History w → Bool
misgrants p x None t = false
misgrants p x (Some r) t =
    not (fits_grow p r.opcode r.param x.param)
    || ((is_grant_without_data
    x.opcode && (is_acquire_block r.opcode && not (same_perm (held (block_at r.address) t) perm.Branch)))
    || pending (ProbeOf (block_at r.address)) t)

-- the opcode is ProbeBlock, which asks for the data of a dirty copy
abbrev pub is_probe_block : OpB → Bool
is_probe_block b.ProbeBlock = true
is_probe_block _ = false

-- x carries data, and its Probe is a ProbePerm
abbrev pub answers_wrong_probe : {w : ℕ} → BeatC w → Option (BeatB w) → Bool
answers_wrong_probe x None = false
answers_wrong_probe x (Some probe) = c_carries_data x.opcode && not (is_probe_block probe.opcode)

-- the param is the report of this cap and the permission held
abbrev pub is_report_at : ℕ → Option Cap → Perm → Bool
is_report_at param None p = false
is_report_at param (Some cap) p = param == report_code (report_at cap p)

-- the param isn't the report of the Probe's cap and the permission held
abbrev pub misreports : {w : ℕ} → BeatC w → Option (BeatB w) → Perm → Bool
misreports x None p = false
misreports x (Some probe) p = not (is_report_at x.param (cap_of probe.param) p)

-- the prune starts from this permission
abbrev pub prunes_from : Option Prune → Perm → Bool
prunes_from None p = false
prunes_from (Some prune) p = same_perm (prune_left prune) p

-- ---- the order of messages: the first H rule that a message breaks at its first beat

-- The first of H1, H4 and H5 that a message on A breaks. H1: its source is pending. H4: an Acquire or a Release of the
-- block of an Acquire is pending. H5: the grow of an Acquire doesn't fit the permission held.
abbrev pub broken_a : {w : ℕ} → BeatA w → History w → Option Rule
broken_a x t =
    first_if (pending (RequestSource x.source) t) H1
    (first_if (is_acquire x.opcode && (pending (AcquireOf (block_at x.address)) t || pending
    (ReleaseOf (block_at x.address)) t)) H4
    (first_if (is_acquire x.opcode && not (grows_from x.param (held (block_at x.address) t))) H5 None))

-- H9: a Probe or a GrantAck of the Probe's block is pending
abbrev pub broken_b : {w : ℕ} → BeatB w → History w → Option Rule
broken_b x t =
    first_if (is_probe x.opcode && (pending (ProbeOf (block_at x.address)) t || pending
    (GrantAckOf (block_at x.address)) t)) H9 None

-- The first of H1 and H13 that a Release breaks. H1: its source is pending. H13: an Acquire or a Release of its block
-- is pending, or the prune doesn't start from the permission held.
abbrev pub broken_release : {w : ℕ} → BeatC w → History w → Option Rule
broken_release x t =
    first_if (pending (ReleaseSource x.source) t) H1
    (first_if (pending (AcquireOf (block_at x.address)) t
    || (pending (ReleaseOf (block_at x.address)) t || not
    (prunes_from (prune_of x.param) (held (block_at x.address) t)))) H13 None)

-- The first of H10, H11 and H12 that a ProbeAck breaks. H10: no Probe of the block is pending, or data answer a
-- ProbePerm. H11: a Release of the block is pending. H12: the param isn't the report of cap and permission.
abbrev pub broken_probe_ack : {w : ℕ} → BeatC w → History w → Option Rule
broken_probe_ack x t =
    first_if (not (pending (ProbeOf (block_at x.address)) t) || answers_wrong_probe x (probe_of (block_at x.address) t))
    H10
    (first_if (pending (ReleaseOf (block_at x.address)) t) H11
    (first_if (misreports x (probe_of (block_at x.address) t) (held (block_at x.address) t)) H12 None))

-- the first H rule that a message on C breaks
abbrev pub broken_c : {w : ℕ} → BeatC w → History w → Option Rule
broken_c x t =
    if is_release x.opcode then broken_release x t else
    if is_probe_ack x.opcode then broken_probe_ack x t else None

-- The first of H2, H3, H6 and H7 that a response breaks. H2: it answers no complete pending request. H3: its size isn't
-- the request's. H6: the Grant doesn't fit its request. H7: its sink is pending.
abbrev pub broken_d : {w : ℕ} → Profile → BeatD w → History w → Option Rule
broken_d p x t =
    first_if (not (has_request x t)) H2
    (first_if (not (x.size == size_asked x t)) H3
    (first_if (is_grant x.opcode && misgrants p x (request_of x.source t) t) H6
    (first_if (is_grant x.opcode && pending (GrantSink x.sink) t) H7 None)))

-- H8: no complete Grant with the sink of the GrantAck is pending
abbrev pub broken_e : {w : ℕ} → BeatE → History w → Option Rule
broken_e x t = first_if (not (pending (GrantSink x.sink) t) || comes_in_grant x.sink (unfinished channel.D t)) H8 None

-- the first H rule that a message breaks at its first beat, after this history of its link
unfoldable pub broken_order : {w : ℕ} → Profile → Beat w → History w → Option Rule
broken_order p (beat.A x) t = broken_a x t
broken_order p (beat.B x) t = broken_b x t
broken_order p (beat.C x) t = broken_c x t
broken_order p (beat.D x) t = broken_d p x t
broken_order p (beat.E x) t = broken_e x t

-- ---- legality of a beat after a history

-- the S or H rule that a beat breaks after t, for a beat that breaks no L rule
abbrev pub broken_in_order : {w : ℕ} → Profile → Beat w → History w → Option Rule
broken_in_order p x t =
    if begins x t then broken_order p x t
    else first_if (breaks_burst x (unfinished (channel_of x) t)) S1 None

-- the first rule that the beat breaks after t, given the L rule that it breaks by itself, if any
abbrev pub broken_given : {w : ℕ} → Profile → Option Rule → Beat w → History w → Option Rule
broken_given p (Some r) x t = Some r
broken_given p None x t = broken_in_order p x t

-- the first rule that the beat breaks after t on a link of this level
unfoldable pub broken_after : {w : ℕ} → Level → Profile → Beat w → History w → Option Rule
broken_after l p x t = broken_given p (illegal l (channel_of x) x) x t

-- no beat breaks a rule after the beats before it
unfoldable pub is_legal : {w : ℕ} → Level → Profile → History w → Bool
is_legal l p [] = true
is_legal l p (x ∷ t) = is_none (broken_after l p x t) && is_legal l p t

-- ---- traces over links

-- a recorded trace: beats, each with its link
abbrev pub Trace : ℕ → Type 0
Trace w = List (Link × Beat w)

-- the beats of link n, in the order of the trace
unfoldable pub on_link : {w : ℕ} → ℕ → Trace w → History w
on_link n [] = []
on_link n (x ∷ t) = if x.0.0 == n then x.1 ∷ on_link n t else on_link n t

-- the first rule that a beat breaks after this history of its link; L1 if the link has no level
abbrev pub broken_at_level : {w : ℕ} → Option Level → Profile → Beat w → History w → Option Rule
broken_at_level None p x t = Some L1
broken_at_level (Some l) p x t = broken_after l p x t

-- the first rule that a beat of a link breaks after the trace t, which has its newest beat first
abbrev pub broken_on_link : {w : ℕ} → List Level → Profile → Link × Beat w → Trace w → Option Rule
broken_on_link levels p x t = broken_at_level (slice_get levels x.0.0) p x.1 (on_link x.0.0 t)

-- this fault at place i, if it is one, otherwise the first of the rest
abbrev pub fault_or : Option Rule → ℕ → Option (ℕ × Rule) → Option (ℕ × Rule)
fault_or None i rest = rest
fault_or (Some rule) i rest = Some (i, rule)

-- The first beat of the trace that breaks a rule after the earlier beats of its own link: its place and the rule.
-- `before` has the earlier beats, the newest first. The trace has the later ones, the next first.
unfoldable pub fault_from : {w : ℕ} → List Level → Profile → Trace w → Trace w → Option (ℕ × Rule)
fault_from levels p before [] = None
fault_from levels p before (x ∷ trace) =
    fault_or (broken_on_link levels p x before) (length before) (fault_from levels p (x ∷ before) trace)

-- the place of the first beat of a trace that breaks a rule, with the rule
abbrev pub first_fault : {w : ℕ} → List Level → Profile → Trace w → Option (ℕ × Rule)
first_fault levels p trace = fault_from levels p [] trace
