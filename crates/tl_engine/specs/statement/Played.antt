-- The text and the trace that a schedule plays to.
use Rattle.std.specs.Prelude.{◌≡◌, ◌⊎◌, ℕ, zero, suc, ◌+◌, List, [], ◌∷◌, ◌++◌, map, Option, Some}
use Rattle.std.specs.Prelude.{None}
use Rattle.tl_beat.specs.declared.beat.Link.{Link}
use Rattle.tl_beat.specs.declared.channel.Channel.{Channel}
use Rattle.tl_params.specs.declared.config.ClientConfig.{ClientConfig}
use Rattle.tl_params.specs.declared.config.Config.{Config}
use Rattle.tl_params.specs.declared.header.Version.{Version}
use Rattle.tl_params.specs.statement.Header.{profile_of, width_of}
use Rattle.tl_schedule.specs.declared.line.Line.{Line}
use Rattle.tl_schedule.specs.declared.line.Line.TheVariants as line_of
use Rattle.tl_command.specs.declared.command.RunForm.{RunForm}
use Rattle.tl_command.specs.declared.command.RunForm.TheVariants.{Outcomes, Trace, TraceWithCommits}
use Rattle.tl_schedule.specs.statement.Commits.{commits_of, commits_text}
use Rattle.tl_schedule.specs.statement.EventLine.{SpellsLine, event_fault}
use Rattle.tl_schedule.specs.statement.OutcomeLine.{drained_line, link_of, outcome_line, trace_text}
use Rattle.tl_schedule.specs.statement.Schedule.{SpellsSchedule}
use Rattle.tl_coherence.specs.declared.event.Event.{Event}
use Rattle.tl_coherence.specs.declared.event.Event.TheVariants.{Deliver}
use Rattle.tl_coherence.specs.declared.event.Outcome.{Outcome}
use Rattle.tl_coherence.specs.statement.Draining.{IsDrained}
use Rattle.tl_coherence.specs.statement.Log.{Log, system_after}
use Rattle.tl_coherence.specs.statement.Movable.{drained, next_delivery, with_delivery}
use Rattle.tl_coherence.specs.statement.Step.{stepped}
use Rattle.tl_lines.specs.declared.fault.Fault.TheVariants.{Header, Event as NoEvent}
use Rattle.tl_lines.specs.declared.status.Status.{Status}
use Rattle.tl_lines.specs.declared.status.Status.TheVariants.{Clean, Broken}
use Rattle.tl_engine.specs.statement.CommitsHeader.{commits_header_line}
use Rattle.tl_lines.specs.statement.Fault.{fault_text}
use Rattle.tl_lines.specs.statement.Trace.{header_line}
use Rattle.tl_lines.specs.statement.Width.{bytes_of}

-- ---- the text, as outcomes, as a trace, or as a trace with commits

-- the outcome of an event after the log
abbrev pub outcome_after : {w : ℕ} → Config → Log w → Event w → Outcome w
outcome_after config log event = (stepped config event (system_after config log)).outcome

-- the text of an event after the log: the line of its outcome, or in a trace the line of the beat that moved, if one
-- did; with commits, then the line of each
abbrev pub event_text : {w : ℕ} → RunForm → Log w → Event w → Outcome w → List ℕ
event_text Outcomes log event outcome = outcome_line event outcome
event_text Trace log event outcome = trace_text event outcome
event_text TraceWithCommits log event outcome =
    trace_text event outcome ++ commits_text (link_of event) (commits_of log event outcome)

-- the text of a delivery, if there is one
abbrev pub delivery_text : {w : ℕ} → RunForm → Config → Log w → Option (Link × Channel) → List ℕ
delivery_text form config log None = []
delivery_text form config log (Some d) =
    event_text form log (Deliver d.0 d.1) (outcome_after config log (Deliver d.0 d.1))

-- the text of at most n deliveries, each the next one
unfoldable pub deliveries_text : {w : ℕ} → RunForm → Config → ℕ → Log w → List ℕ
deliveries_text form config zero log = []
deliveries_text form config (suc n) log =
    delivery_text form config log (next_delivery config (system_after config log))
    ++ deliveries_text form config n (with_delivery config (next_delivery config (system_after config log)) log)

-- the number of deliveries, after them; a trace doesn't have it
abbrev pub number_text : RunForm → ℕ → List ℕ
number_text Outcomes n = drained_line n
number_text _ n = []

-- ---- the header of the trace

-- the header of the trace, of the schedule's version; none without a trace
abbrev pub header_text : RunForm → Version → List ClientConfig → List ℕ
header_text Outcomes version clients = []
header_text Trace version clients = header_line version (map (λ client. client.level) clients)
header_text TraceWithCommits version clients = commits_header_line version (map (λ client. client.level) clients)

-- ---- the lines

-- A line of this meaning writes the text after the log, and lengthens the log.
abbrev pub Plays : {w : ℕ} → RunForm → Config → Log w → Line w → List ℕ → Log w → Type 0
Plays form config log (line_of.Event event) text grown =
    (text ≡ event_text form log event (outcome_after config log event))
    × (grown ≡ (event, outcome_after config log event) ∷ log)
Plays form config log line_of.Drain text grown =
    (n : ℕ) × IsDrained config log n × (text ≡ deliveries_text form config n log ++ number_text form n)
    × (grown ≡ drained config n log)

-- The text and status of these lines after the log; the first line has the number n. The first line that spells no
-- event and no `drain` has `line N X`, which ends the text.
unfoldable pub PlayedAfter : {w : ℕ} → RunForm → Config → ℕ → Log w → List (List ℕ) → List ℕ → Status → Type 0
PlayedAfter form config n log [] text status = (text ≡ []) × (status ≡ Clean)
PlayedAfter {w} form config n log (line ∷ lines) text status =
    ((said : Line w) × (first rest : List ℕ) × (grown : Log w) × SpellsLine line said
    × Plays form config log said first grown
    × (text ≡ first ++ rest) × PlayedAfter form config (n + 1) grown lines rest status)
    ⊎ (((said : Line w) → ¬ SpellsLine line said) × (text ≡ fault_text n (NoEvent (event_fault line)))
    × (status ≡ Broken))

-- the line is a header of this version and this configuration
pub record HeadsSchedule (line : List ℕ) (version : Version) (config : Config) : Type 0 where
  pub spelled : SpellsSchedule line version config.blocks config.trackers config.clients.items
  pub of_profile : config.profile ≡ profile_of version

-- The text and status of a whole schedule, in this form. Line 1 is at fault if it is missing or spells no header.
unfoldable pub Played : RunForm → List (List ℕ) → List ℕ → Status → Type 0
Played form [] text status = (text ≡ fault_text 1 Header) × (status ≡ Broken)
Played form (line ∷ lines) text status =
    ((version : Version) × (config : Config) × (rest : List ℕ) × HeadsSchedule line version config
    × (text ≡ header_text form version config.clients.items ++ rest)
    × PlayedAfter {w = bytes_of (width_of version)} form config 2 [] lines rest status)
    ⊎ (((version : Version) (config : Config) → ¬ HeadsSchedule line version config) × (text ≡ fault_text 1 Header)
    × (status ≡ Broken))
