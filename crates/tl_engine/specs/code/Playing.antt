-- What a handler of schedules knows.
use Rattle.std.specs.Prelude.{◌≡◌, ℕ, ◌+◌, ◌==◌, if◌then◌else◌, ⊤, List, [], ◌∷◌, ◌++◌, length, Option, Some, None}
use Rattle.tl_command.specs.declared.command.RunForm.{RunForm}
use Rattle.tl_command.specs.declared.command.RunForm.TheVariants.{Outcomes, Trace, TraceWithCommits}
use Rattle.tl_params.specs.declared.config.Config.{Config}
use Rattle.tl_params.specs.declared.header.Version.{Version}
use Rattle.tl_schedule.specs.code.Storing.{Remembers}
use Rattle.tl_schedule.specs.declared.line.Line.{Line}
use Rattle.tl_schedule.specs.declared.whole.WholeStores.{WholeStores}
use Rattle.tl_schedule.specs.statement.Commits.{asked_commit, at_most_one, commits_text}
use Rattle.tl_schedule.specs.statement.EventLine.{SpellsLine, event_fault}
use Rattle.tl_schedule.specs.statement.OutcomeLine.{answer_line, asked_size, link_of}
use Rattle.tl_client.specs.declared.reply.Reply.{Reply}
use Rattle.tl_coherence.specs.declared.event.Event.{Event}
use Rattle.tl_coherence.specs.declared.event.Outcome.{Outcome}
use Rattle.tl_coherence.specs.statement.Draining.{IsDrained}
use Rattle.tl_coherence.specs.statement.Log.{Log}
use Rattle.tl_coherence.specs.statement.Movable.{drained}
use Rattle.tl_lines.specs.declared.fault.Fault.{Fault}
use Rattle.tl_lines.specs.declared.fault.Fault.TheVariants.{Event as NoEvent}
use Rattle.tl_engine.specs.declared.play.Player.{Player}
use Rattle.tl_engine.specs.declared.run_lines.RunLines.{RunLines}
use Rattle.tl_engine.specs.declared.run_lines.RunLines.TheVariants.{Waiting, Four, Eight, Sixteen}
use Rattle.tl_lines.specs.declared.status.Status.{Status}
use Rattle.tl_engine.specs.statement.Played.{HeadsSchedule, Played, PlayedAfter, Plays, deliveries_text, event_text}
use Rattle.tl_engine.specs.statement.Played.{outcome_after}
use Rattle.tl_engine.specs.statement.PlayableWorld.{HasHappened}
use Rattle.tl_world.specs.statement.Answered.{answered}

-- what is written of the answer to a Load or a Store
abbrev pub asked_text : {w : ℕ} → RunForm → Event w → Option Reply → List ℕ
asked_text Outcomes event answer = answer_line (asked_size event) answer
asked_text Trace event answer = []
asked_text {w} TraceWithCommits event answer =
    commits_text (link_of event) (at_most_one (asked_commit event (answered {w = w} answer)))

-- what is kept beside a world for the text
abbrev pub Keeps : {w : ℕ} → RunForm → WholeStores → Log w → Type 0
Keeps TraceWithCommits stores log = Remembers stores log
Keeps _ stores log = ⊤

-- What is written of an event after any log follows the text, and the event is noted where that is needed.
abbrev pub Writes : {w : ℕ} → RunForm → WholeStores → WholeStores → Event w → Outcome w → List ℕ → List ℕ → Type 0
Writes {w} form old new event outcome was is =
    (log : Log w) → Keeps form old log
    → (is ≡ was ++ event_text form log event outcome) × Keeps form new ((event, outcome) ∷ log)

-- all this has happened to the world of a player
abbrev pub HasPlayed : {w : ℕ} → RunForm → Config → Player w → Log w → Type 0
HasPlayed form config player log = HasHappened config player.world log × Keeps form player.stores log

-- An event has happened to a world, and what is written of it follows the text.
abbrev pub Happens : {w : ℕ} → RunForm → Player w → Player w → Event w → List ℕ → List ℕ → Type 0
Happens {w} form old new event was is =
    (config : Config) (log : Log w) → HasPlayed form config old log
    → (is ≡ was ++ event_text form log event (outcome_after config log event))
    × HasPlayed form config new ((event, outcome_after config log event) ∷ log)

-- All outstanding beats were delivered, each delivery the next one, and what is written of them follows the text.
abbrev pub Drains : {w : ℕ} → RunForm → Player w → Player w → List ℕ → List ℕ → ℕ → Type 0
Drains {w} form old new was is n =
    (config : Config) (log : Log w) → HasPlayed form config old log
    → IsDrained config log n × (is ≡ was ++ deliveries_text form config n log)
    × HasPlayed form config new (drained config n log)

-- The event of the line was run.
abbrev pub PlaysOn : {w : ℕ} → RunForm → Player w → Player w → Line w → List ℕ → List ℕ → Type 0
PlaysOn {w} form old new said was is =
    (config : Config) (log : Log w) → HasPlayed form config old log
    → (text : List ℕ) × (grown : Log w) × Plays form config log said text grown × (is ≡ was ++ text)
    × HasPlayed form config new grown

-- A line was played, or it is at fault.
abbrev pub PlaysLine : {w : ℕ} → RunForm → Player w → Player w → List ℕ → List ℕ → List ℕ → Option Fault → Type 0
PlaysLine {w} form old new line was is None = (said : Line w) × SpellsLine line said × PlaysOn form old new said was
    is
PlaysLine {w} form old new line was is (Some fault) = ((said : Line w) → ¬ SpellsLine line said)
    × (fault ≡ NoEvent (event_fault line)) × (is ≡ was)

-- These lines, a header and what has happened, are played with this text so far, so that what follows is
-- played after it.
pub record KnowsPlay {w : ℕ} (form : RunForm) (player : Player w) (lines : List (List ℕ)) (text : List ℕ) : Type 0 where
  pub config : Config
  pub log : Log w
  pub reached : HasPlayed form config player log
  pub before : (more : List (List ℕ)) (rest : List ℕ) (status : Status)
      → PlayedAfter form config (length lines + 1) log more rest status
      → Played form (lines ++ more) (text ++ rest) status

-- the form that a number stands for
abbrev pub form_of : ℕ → RunForm
form_of n = if n == 0 then Outcomes else if n == 1 then Trace else TraceWithCommits

-- after these lines without a fault, this text has been appended
abbrev pub KnowsSchedule : {n : ℕ} → RunLines n → List (List ℕ) → List ℕ → Type 0
KnowsSchedule (Waiting alloc) lines text = (lines ≡ []) × (text ≡ [])
KnowsSchedule {n} (Four player) lines text = KnowsPlay (form_of n) player lines text
KnowsSchedule {n} (Eight player) lines text = KnowsPlay (form_of n) player lines text
KnowsSchedule {n} (Sixteen player) lines text = KnowsPlay (form_of n) player lines text

-- what the first line begins: a handler that knows the header, whose text was appended, or none if
-- it spells no header
abbrev pub Opens : {n : ℕ} → List ℕ → List ℕ → List ℕ → Option (RunLines n) → Type 0
Opens line was is None = ((version : Version) (config : Config) → ¬ HeadsSchedule line version config) × (is ≡ was)
Opens {n} line was is (Some run_lines) = (text : List ℕ) × (is ≡ was ++ text) × KnowsSchedule run_lines (line ∷ []) text
