-- Cleanings: Releases by which a client writes its copy back and keeps it (`reports`).
use Rattle.std.specs.Prelude.{ℕ, Bool, false, not, List, [], ◌∷◌, ◌&&◌, ◌||◌, if◌then◌else◌, Option, Some, None}
use Rattle.std.specs.Prelude.{length, replicate, slice_index_or, slice_set}
use Rattle.tl_beat.specs.declared.beat.Beat.{Beat}
use Rattle.tl_beat.specs.declared.beat.Beat.TheVariants as beat
use Rattle.tl_beat.specs.declared.beat.BeatC.{BeatC}
use Rattle.tl_beat.specs.declared.beat.Link.{Link}
use Rattle.tl_beat.specs.declared.channel.Channel.{Channel}
use Rattle.tl_beat.specs.statement.First.{first_if}
use Rattle.tl_burst.specs.statement.Messages.{breaks_burst}
use Rattle.tl_burst.specs.statement.Part.{completes, is_empty}
use Rattle.tl_params.specs.declared.config.Config.{Config}
use Rattle.tl_params.specs.declared.key.Key.TheVariants.{AcquireOf}
use Rattle.tl_params.specs.declared.level.Level.{Level}
use Rattle.tl_params.specs.declared.liberties.Liberties.{Liberties}
use Rattle.tl_params.specs.declared.param.Report.{Report}
use Rattle.tl_params.specs.declared.rule.Rule.{Rule}
use Rattle.tl_params.specs.declared.rule.Rule.TheVariants.{S1, H13, A1, A2, A3}
use Rattle.tl_params.specs.statement.Param.{report_left, report_named, report_right}
use Rattle.tl_rules.specs.statement.Admission.{is_outside, is_spoiled}
use Rattle.tl_rules.specs.statement.Conformance.{Trace, on_link, same_perm}
use Rattle.tl_rules.specs.statement.History.{block_at, is_release, pending}
use Rattle.tl_rules.specs.statement.Liberties.{illegal_under, releases_from, reports_none}
use Rattle.tl_manager.specs.statement.End.{End, fresh, with_memory}
use Rattle.tl_manager.specs.statement.Handing.{release_ack}
use Rattle.tl_manager.specs.statement.Holders.{has_copy, recorded}
use Rattle.tl_manager.specs.statement.Offer.{Judgement, Breaks, Waits, Passes, Reception, Refused, Stalled, Sent, breaks_or}
use Rattle.tl_manager.specs.statement.Offer.{open_level, refused}
use Rattle.tl_manager.specs.statement.Reaction.{written}
use Rattle.tl_partner.specs.statement.Dropping.{after_drop, is_reporting}

-- ---- the beats of a cleaning

-- there is a report, and it leaves the permission from which it starts
abbrev pub keeps_held : Option Report → Bool
keeps_held None = false
keeps_held (Some report) = same_perm (report_left report) (report_right report)

-- the beat is of a Release or ReleaseData whose report leaves the permission from which it starts
abbrev pub is_cleaning : {w : ℕ} → Liberties → Beat w → Bool
is_cleaning l (beat.C x) = l.reports && (is_release x.opcode && keeps_held (report_named x.param))
is_cleaning l x = false

-- the beat begins a cleaning, or comes on channel C while a cleaning is unfinished; `burst` has its beats
abbrev pub is_of_cleaning : {w : ℕ} → Liberties → Beat w → List (Beat w) → Bool
is_of_cleaning l (beat.C x) burst = not (is_empty burst) || is_cleaning l (beat.C x)
is_of_cleaning l x burst = false

-- ---- the end of a manager whose clients have liberties

-- the manager's end, and the beats of each link's unfinished cleaning, the newest first
pub record PartnerEnd (w : ℕ) : Type 0 where
  pub manager : End w
  pub cleanings : List (List (Beat w))

-- the end at the start: nothing taken, and no cleaning unfinished
abbrev pub fresh_partner : {w : ℕ} → Config → PartnerEnd w
fresh_partner config = record { manager = fresh; cleanings = replicate (length config.clients.items) [] }

-- the beats of a link's unfinished cleaning, the newest first
abbrev pub cleaning_on : {w : ℕ} → Link → PartnerEnd w → List (Beat w)
cleaning_on link e = slice_index_or e.cleanings link.0 []

-- ---- judging

-- The rule of order that a cleaning breaks at its first beat: S1 while another message of channel C is unfinished; H13
-- while an Acquire of its block is pending, or if it doesn't start from the permission recorded.
abbrev pub cleaning_rule : {w : ℕ} → Liberties → Link → Beat w → Trace w → Option Rule
cleaning_rule l link (beat.C x) t =
    first_if (is_reporting link t) S1
    (first_if (pending (AcquireOf (block_at x.address)) (on_link link.0 t) || not
    (releases_from l x.param (recorded link.0 (block_at x.address) t))) H13 None)
cleaning_rule l link x t = None

-- the rule of order that a beat of a cleaning breaks; `burst` has the earlier beats of the cleaning
abbrev pub cleaning_order : {w : ℕ} → Liberties → Link → Beat w → List (Beat w) → Trace w → Option Rule
cleaning_order l link x burst t =
    if is_empty burst then cleaning_rule l link x t else first_if (breaks_burst x burst) S1 None

-- the judgement of a beat of a cleaning on a link of this level; `burst` has the earlier beats of the cleaning
abbrev pub judged_cleaning : {w : ℕ} → Liberties → Config → Option Level → Link → Channel → Beat w → List (Beat w)
    → Trace w → Judgement
judged_cleaning l config None link ch x burst t = Breaks A3
judged_cleaning l config (Some level) link ch x burst t =
    breaks_or (illegal_under l level ch x)
    (breaks_or (cleaning_order l link x burst t)
    (breaks_or (first_if (is_outside config.blocks x) A1 (first_if (is_spoiled x) A2 None)) Passes))

-- ---- the effect of a cleaning

-- the manager's end after the client said that it holds None of the block
abbrev pub forgotten : {w : ℕ} → Config → Link → ℕ → End w → End w
forgotten config link block e =
    if has_copy (recorded link.0 block e.trace) then after_drop config link block e else e

-- The manager's end after a cleaning with these beats: its data replace the block or, after the report NtoN, the client
-- holds None, whatever was recorded.
abbrev pub cleaned_by : {w : ℕ} → Config → Link → BeatC w → List (Beat w) → End w → End w
cleaned_by config link x beats e =
    if reports_none x.param
    then forgotten config link (block_at x.address) e
    else with_memory (written x beats e.memory) e

-- the manager's end after a cleaning with these beats, the newest of which is x
abbrev pub cleaned : {w : ℕ} → Config → Link → Beat w → List (Beat w) → End w → End w
cleaned config link (beat.C x) beats e = cleaned_by config link x beats e
cleaned config link x beats e = e

-- the answer to the last beat of a cleaning: a ReleaseAck
abbrev pub answer_of_cleaning : {w : ℕ} → Link → Beat w → Reception w
answer_of_cleaning link (beat.C x) = Sent ((link, release_ack x.source) ∷ [])
answer_of_cleaning link x = Sent []

-- the end with this manager, and with these beats as the link's unfinished cleaning
abbrev pub with_cleaning : {w : ℕ} → Link → List (Beat w) → End w → PartnerEnd w → PartnerEnd w
with_cleaning link burst manager e = record { manager = manager; cleanings = slice_set e.cleanings link.0 burst }

-- the end with this link closed
abbrev pub refused_on : {w : ℕ} → Link → PartnerEnd w → PartnerEnd w
refused_on link e = record { manager = refused link e.manager; cleanings = e.cleanings }

-- the answer to a beat of a cleaning with this judgement; a cleaning is answered at its last beat
abbrev pub cleaning_as : {w : ℕ} → Judgement → Config → Link → Beat w → PartnerEnd w → Reception w × PartnerEnd w
cleaning_as (Breaks rule) config link x e = (Refused rule, refused_on link e)
cleaning_as Waits config link x e = (Stalled, e)
cleaning_as Passes config link x e =
    if completes x (cleaning_on link e)
    then (
      answer_of_cleaning link x,
      with_cleaning link [] (cleaned config link x (x ∷ cleaning_on link e) e.manager) e,
    )
    else (Sent [], with_cleaning link (x ∷ cleaning_on link e) e.manager e)

-- the answer to a beat of a cleaning, and the end afterwards
abbrev pub offered_cleaning : {w : ℕ} → Liberties → Config → Link → Channel → Beat w → PartnerEnd w
    → Reception w × PartnerEnd w
offered_cleaning l config link ch x e =
    cleaning_as
    (judged_cleaning l config (open_level config link e.manager) link ch x (cleaning_on link e) e.manager.trace) config
    link x e
