-- The state of a monitor after a trace.
use Rattle.std.specs.Prelude.{ℕ, Bool, true, false, List, [], ◌∷◌, ◌≡◌, ◌<◌, if◌then◌else◌, length, map, nat_lt}
use Rattle.std.specs.Prelude.{slice_index_or, Option, Some, None, Result, Ok, Err, ⊤}
use Rattle.tl_beat.specs.declared.beat.Beat.{Beat}
use Rattle.tl_beat.specs.declared.beat.Link.{Link}
use Rattle.tl_params.specs.declared.level.Level.{Level}
use Rattle.tl_params.specs.declared.liberties.Liberties.{Liberties}
use Rattle.tl_params.specs.declared.perm.Perm.{Perm}
use Rattle.tl_params.specs.declared.perm.Perm.TheVariants as perm
use Rattle.tl_params.specs.declared.profile.Profile.{Profile}
use Rattle.tl_params.specs.declared.rule.Rule.{Rule}
use Rattle.tl_params.specs.statement.Config.{IsCount}
use Rattle.tl_params.specs.statement.Liberties.{liberties_of}
use Rattle.tl_rules.specs.statement.Liberties.{broken_on_link_under, first_fault_under, held_under}
use Rattle.tl_rules.specs.statement.Conformance.{Trace, on_link, broken_on_link, first_fault}
use Rattle.tl_rules.specs.statement.History.{begins, held}
use Rattle.tl_rules.specs.statement.OpenMessages.{open_probe, open_request}
use Rattle.tl_rules.specs.declared.past.Probe.{Probe}
use Rattle.tl_rules.specs.declared.past.Request.{Request}
use Rattle.tl_monitor.specs.code.Keeps.{Keeps}
use Rattle.tl_monitor.specs.declared.monitor.Monitor.{Monitor}
use Rattle.tl_monitor.specs.declared.monitor.MonitoredLink.{MonitoredLink}
use Rattle.tl_monitor.specs.declared.fault.MonitorFault.{MonitorFault}
use Rattle.tl_monitor.specs.declared.fault.MonitorFault.TheVariants as monitor
use Rattle.tl_monitor.specs.declared.fault.TraceFault.{TraceFault}
use Rattle.tl_monitor.specs.declared.fault.TraceFault.TheVariants as trace

-- the levels of links, in their order
abbrev pub levels_of : List MonitoredLink → List Level
levels_of links = map (λ link. link.level) links

-- The monitor has these levels and liberties, and for each link the state after the trace, whose newest beat is first.
-- It is closed after a refusal by a rule.
pub record KnowsUnder {w : ℕ} (m : Monitor w) (levels : List Level) (l : Liberties) (t : Trace w) (closed : Bool) : Type 0
  where
    pub levels_are : levels_of m.links.items ≡ levels
    pub liberties_are : m.liberties ≡ l
    pub closed_is : m.closed ≡ closed
    pub links_are : (n : ℕ) (d : MonitoredLink) → n < length levels
        → Keeps l (slice_index_or m.links.items n d).state (on_link n t)

-- the same for a monitor of a profile
unfoldable pub Knows : {w : ℕ} → Monitor w → List Level → Profile → Trace w → Bool → Type 0
Knows m levels p t closed = KnowsUnder m levels (liberties_of p) t closed

-- the request with this source that is pending and complete on a link; none on a link without a level
abbrev pub request_on : {w : ℕ} → List Level → Link → ℕ → Trace w → Option Request
request_on levels link source t = if nat_lt link.0 (length levels) then open_request source (on_link link.0 t) else None

-- the pending Probe of a block on a link; none on a link without a level
abbrev pub probe_on : {w : ℕ} → List Level → Link → ℕ → Trace w → Option Probe
probe_on levels link block t = if nat_lt link.0 (length levels) then open_probe block (on_link link.0 t) else None

-- the permission held of a block on a link; None on a link without a level
abbrev pub held_on : {w : ℕ} → List Level → Link → ℕ → Trace w → Perm
held_on levels link block t = if nat_lt link.0 (length levels) then held block (on_link link.0 t) else perm.None

-- the same under liberties
abbrev pub held_on_under : {w : ℕ} → Liberties → List Level → Link → ℕ → Trace w → Perm
held_on_under l levels link block t =
    if nat_lt link.0 (length levels) then held_under l block (on_link link.0 t) else perm.None

-- the beat begins a message on its link; it doesn't on a link without a level
abbrev pub begins_on : {w : ℕ} → List Level → Link → Beat w → Trace w → Bool
begins_on levels link x t = if nat_lt link.0 (length levels) then begins x (on_link link.0 t) else false

-- a new monitor with these liberties, or the reason why there is none
abbrev pub IsNewUnder : {w : ℕ} → List Level → Liberties → Result (Monitor w) MonitorFault → Type 0
IsNewUnder levels l (Ok m) = IsCount (length levels) × KnowsUnder m levels l [] false
IsNewUnder levels l (Err monitor.Levels) = ¬ IsCount (length levels)
IsNewUnder levels l (Err monitor.Memory) = IsCount (length levels)
IsNewUnder levels l (Err _) = ⊥

-- a new monitor of a profile, or the reason why there is none
abbrev pub IsNew : {w : ℕ} → List Level → Profile → Result (Monitor w) MonitorFault → Type 0
IsNew levels p (Ok m) = IsCount (length levels) × Knows m levels p [] false
IsNew levels p (Err monitor.Levels) = ¬ IsCount (length levels)
IsNew levels p (Err monitor.Memory) = IsCount (length levels)
IsNew levels p (Err _) = ⊥

-- the fault of a beat by the rule that it breaks
abbrev pub broken : Option Rule → Option MonitorFault
broken None = None
broken (Some rule) = Some (monitor.Broken rule)

-- the fault of a beat, apart from Memory: Closed after a refusal, or else the first rule that it breaks on its link
abbrev pub fault_of : {w : ℕ} → List Level → Profile → Trace w → Bool → Link × Beat w → Option MonitorFault
fault_of levels p t true x = Some monitor.Closed
fault_of levels p t false x = broken (broken_on_link levels p x t)

-- the same under liberties
abbrev pub fault_under : {w : ℕ} → List Level → Liberties → Trace w → Bool → Link × Beat w → Option MonitorFault
fault_under levels l t true x = Some monitor.Closed
fault_under levels l t false x = broken (broken_on_link_under l levels x t)

-- the answer to a beat with this fault, or with none; it is Memory only if there is none
abbrev pub Answers : Option MonitorFault → Result ⊤ MonitorFault → Type 0
Answers fault (Ok u) = fault ≡ None
Answers fault (Err monitor.Memory) = fault ≡ None
Answers fault (Err e) = fault ≡ Some e

-- the trace after an answer: only a beat that was taken is added
abbrev pub recorded_after : {w : ℕ} → Result ⊤ MonitorFault → Link × Beat w → Trace w → Trace w
recorded_after (Ok u) x t = x ∷ t
recorded_after (Err e) x t = t

-- whether the monitor is closed after an answer
abbrev pub closed_after : Result ⊤ MonitorFault → Bool
closed_after (Ok u) = false
closed_after (Err monitor.Memory) = false
closed_after (Err e) = true

-- the answer to a trace with this first fault, or with none; with 1 to 16 levels it may also be Memory
abbrev pub AnswersFirst : List Level → Option (ℕ × Rule) → Result ⊤ TraceFault → Type 0
AnswersFirst levels fault (Ok u) = IsCount (length levels) × (fault ≡ None)
AnswersFirst levels fault (Err (trace.At i rule)) = IsCount (length levels) × (fault ≡ Some (i, rule))
AnswersFirst levels fault (Err trace.Levels) = ¬ IsCount (length levels)
AnswersFirst levels fault (Err trace.Memory) = IsCount (length levels)

-- the answer to a trace under liberties
abbrev pub AnswersTraceUnder : {w : ℕ} → List Level → Liberties → Trace w → Result ⊤ TraceFault → Type 0
AnswersTraceUnder levels l beats result = AnswersFirst levels (first_fault_under l levels beats) result

-- the answer to a trace under a profile
abbrev pub AnswersTrace : {w : ℕ} → List Level → Profile → Trace w → Result ⊤ TraceFault → Type 0
AnswersTrace levels p beats result = AnswersFirst levels (first_fault levels p beats) result

-- the fault of a trace if a monitor refuses beat i so
abbrev pub trace_fault_of : ℕ → MonitorFault → TraceFault
trace_fault_of i (monitor.Broken rule) = trace.At i rule
trace_fault_of i _ = trace.Memory
