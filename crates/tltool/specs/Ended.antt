-- How the program ends, by its exit status.
use Rattle.std.specs.Prelude.{◌≡◌, ◌⊎◌, ◌++◌, ℕ, Bool, false, true, List, Option, Result, Ok, Err, IfErr, IfOk, OnErr, OnOk}
use Rattle.std.specs.Io.KnownBytes.{Appends}
use Rattle.tl_chart.specs.declared.window.Window.{Window}
use Rattle.tl_commit_story.specs.statement.Explained.{GivesUpEvents, ReachesBoth as ReachesBothEvents}
use Rattle.tl_command.specs.declared.command.Command.{Command}
use Rattle.tl_command.specs.declared.command.Command.TheVariants.{Coherent, Decode, Explain, Monitor, Run}
use Rattle.tl_command.specs.declared.random.Options.{Options}
use Rattle.tl_command.specs.declared.search.Aim.{Aim}
use Rattle.tl_event_chart.specs.statement.EventCharted.{ChartsEvents, GivesUpChartingEvents}
use Rattle.tl_params.specs.declared.liberties.Liberties.{Liberties}
use Rattle.tl_params.specs.declared.liberties.Liberty.{Liberty}
use Rattle.tl_params.specs.statement.Header.{width_of}
use Rattle.tl_words.specs.declared.words.WordsFault.{WordsFault}
use Rattle.tl_words.specs.declared.words.WordsFault.TheVariants as words
use Rattle.tl_words.specs.Refused.{status_of_usage}
use Rattle.tl_reasons.specs.declared.explain_fault.ExplainFault.{ExplainFault}
use Rattle.tl_lines.specs.declared.status.Status.{Status}
use Rattle.tl_lines.specs.declared.status.ToolFault.{ToolFault}
use Rattle.tl_lines.specs.declared.status.ToolFault.TheVariants.{Memory, Write}
use Rattle.tl_lines.specs.statement.Run.{GivesUpFor, FailsAt, RunsTo}
use Rattle.tl_lines.specs.statement.Parts.{AppendsShort}
use Rattle.tl_engine.specs.statement.Charted.{Charts, GivesUpCharting}
use Rattle.tl_lines.specs.statement.Exit.{exit_status}
use Rattle.tl_reasons.specs.statement.Explained.{Explains}
use Rattle.tl_engine.specs.statement.Told.{text_so_far, text_told}
use Rattle.tl_reasons.specs.statement.Unexplained.{GivesUpExplaining, Reaches}
use Rattle.tl_lines.specs.statement.Width.{bytes_of}
use Rattle.tl_links.specs.statement.Allowed.{FindsAllowed, allowed_line}
use Rattle.tl_lines.specs.statement.JudgedLinks.{JudgedLinks, LinksSoFar}
use Rattle.tl_random.specs.statement.Random.{WritesPart, WritesSchedule}
use Rattle.tl_report.specs.declared.findings.Finding.{Finding}
use Rattle.tl_report.specs.statement.Said.{GivesUpSearching, Searches, all_text, status_of}
use Rattle.tl_wide.specs.declared.width.WideWidth.{WideWidth}
use Rattle.tl_wide.specs.statement.Width.{wide_bytes_of}
use Rattle.tl_wide_event_lines.specs.statement.JudgedWideEvents.{AnySoFar, JudgedAny}
use Rattle.tl_wide_event_story.specs.statement.WideEventsExplained.{GivesUpAny, ReachesBoth as ReachesBothWideEvents}
use Rattle.tl_wide_lines.specs.statement.WideDecoded.{DecodedSoFar, DecodedWide}
use Rattle.tl_wide_story.specs.statement.WideExplained.{GivesUpWide, ReachesBoth}

-- A command's text of these lines, with the status at their end; for `explain` the first line of its text. `monitor`,
-- `coherent` and `explain` also read headers that name liberties, and take further ones; the first two also read
-- headers of wide beats, and of traces with commits.
abbrev pub program_told : Command → Liberties → List (List ℕ) → List ℕ → Status → Type 0
program_told Monitor allow = JudgedAny false allow
program_told (Decode width) allow = text_told (Decode width)
program_told Coherent allow = JudgedAny true allow
program_told (Explain together) allow = JudgedLinks together allow
program_told (Run trace) allow = text_told (Run trace)

-- the text of these lines without a fault, before the end of the input
abbrev pub program_so_far : Command → Liberties → List (List ℕ) → List ℕ → Type 0
program_so_far Monitor allow = AnySoFar false allow
program_so_far (Decode width) allow = text_so_far (Decode width)
program_so_far Coherent allow = AnySoFar true allow
program_so_far (Explain together) allow = LinksSoFar together allow
program_so_far (Run trace) allow = text_so_far (Run trace)

-- the outcome is one that these texts have over the input and the output
abbrev pub IsOutcome : (List (List ℕ) → List ℕ → Status → Type 0) → (List (List ℕ) → List ℕ → Type 0)
    → Option (List ℕ) → Option (List ℕ) → Option (List ℕ) → Option (List ℕ) → Result Status ToolFault → Type 0
IsOutcome tells so_far had left held holds outcome =
    IfOk outcome (RunsTo tells had left held holds) × OnErr outcome (FailsAt tells had left held holds)
    × IfErr outcome (GivesUpFor so_far tells had left held holds)

-- The status is that of an outcome which the command, under these further liberties, has over its input and output.
abbrev pub EndsAs : Command → Liberties → Option (List ℕ) → Option (List ℕ) → Option (List ℕ) → Option (List ℕ) → ℕ
    → Type 0
EndsAs command allow had left held holds status =
    (outcome : Result Status ToolFault) × (status ≡ exit_status outcome)
    × IsOutcome (program_told command allow) (program_so_far command allow) had left held holds outcome

-- The status is that of an outcome of decoding wide beats.
abbrev pub EndsDecoded : WideWidth → Option (List ℕ) → Option (List ℕ) → Option (List ℕ) → Option (List ℕ) → ℕ → Type 0
EndsDecoded width had left held holds status =
    (outcome : Result Status ToolFault) × (status ≡ exit_status outcome)
    × IsOutcome (DecodedWide (wide_bytes_of width)) (DecodedSoFar (wide_bytes_of width)) had left held holds outcome

-- whatever was left of the input
abbrev pub EndsOver : Command → Liberties → Option (List ℕ) → Option (List ℕ) → Option (List ℕ) → ℕ → Type 0
EndsOver command allow had held holds status = (left : Option (List ℕ)) × EndsAs command allow had left held holds status

-- The status is that of an outcome with which a random schedule of these options was written, whole at success and
-- otherwise a beginning of it.
abbrev pub EndsDrawn : Options → Option (List ℕ) → Option (List ℕ) → ℕ → Type 0
EndsDrawn o had holds status =
    (outcome : Result Status ToolFault) × (status ≡ exit_status outcome)
    × OnOk outcome (WritesSchedule (bytes_of (width_of o.version)) o.version o.config o.events had holds)
    × OnErr outcome (WritesPart (bytes_of (width_of o.version)) o.version o.config o.events had holds)

-- the status that an explanation exits with
abbrev pub explain_status : Result Status ExplainFault → ℕ
explain_status (Ok status) = exit_status (Ok status)
explain_status (Err fault) = 3

-- The status is that of an outcome which an explanation, of each link by itself or of all together, which may do this
-- in addition to the liberties of the header, has over the input, as each of two readers gives it, and the output.
abbrev pub EndsExplained : Bool → Liberties → Option (List ℕ) → Option (List ℕ) → Option (List ℕ) → Option (List ℕ)
    → Option (List ℕ) → Option (List ℕ) → ℕ → Type 0
EndsExplained together allow had left had_again left_again held holds status =
    (outcome : Result Status ExplainFault) × (status ≡ explain_status outcome)
    × IfOk outcome (λ judged. (verdict reasons : List ℕ) × Reaches together allow had left verdict judged
    × Explains allow had_again left_again verdict reasons judged × Appends held holds (verdict ++ reasons))
    × IfErr outcome (GivesUpExplaining together allow had left had_again left_again held holds)

-- The same of a trace of wide beats.
abbrev pub EndsExplainedWide : Bool → Liberties → Option (List ℕ) → Option (List ℕ) → Option (List ℕ) → Option (List ℕ)
    → Option (List ℕ) → Option (List ℕ) → ℕ → Type 0
EndsExplainedWide together allow had left had_again left_again held holds status =
    (outcome : Result Status ExplainFault) × (status ≡ explain_status outcome)
    × IfOk outcome (λ judged. (text : List ℕ)
    × ReachesBoth together allow had left had_again left_again text judged × Appends held holds text)
    × IfErr outcome (GivesUpWide together allow had left had_again left_again held holds)

-- The same of a trace with stores and loads.
abbrev pub EndsExplainedCommits : Bool → Liberties → Option (List ℕ) → Option (List ℕ) → Option (List ℕ)
    → Option (List ℕ) → Option (List ℕ) → Option (List ℕ) → ℕ → Type 0
EndsExplainedCommits together allow had left had_again left_again held holds status =
    (outcome : Result Status ExplainFault) × (status ≡ explain_status outcome)
    × IfOk outcome (λ judged. (text : List ℕ)
    × ReachesBothEvents together allow had left had_again left_again text judged × Appends held holds text)
    × IfErr outcome (GivesUpEvents together allow had left had_again left_again held holds)

-- The same of a wide trace with stores and loads.
abbrev pub EndsExplainedWideEvents : Bool → Liberties → Option (List ℕ) → Option (List ℕ) → Option (List ℕ)
    → Option (List ℕ) → Option (List ℕ) → Option (List ℕ) → ℕ → Type 0
EndsExplainedWideEvents together allow had left had_again left_again held holds status =
    (outcome : Result Status ExplainFault) × (status ≡ explain_status outcome)
    × IfOk outcome (λ judged. (text : List ℕ)
    × ReachesBothWideEvents together allow had left had_again left_again text judged × Appends held holds text)
    × IfErr outcome (GivesUpAny together allow had left had_again left_again held holds)

-- For this reason it was given up to say which liberties would allow the beat. Only with `Write` was anything written.
abbrev pub GivesUpAllowing : Liberties → Option (List ℕ) → Option (List ℕ) → Option (List ℕ) → Option (List ℕ) → ToolFault → Type 0
GivesUpAllowing allow had left held holds Write =
    (allowing : List Liberty) × FindsAllowed allow had left allowing × AppendsShort held holds (allowed_line allowing)
GivesUpAllowing allow had left held holds fault = holds ≡ held

-- The status is that of the explanation, and the line that follows names the further liberties which would
-- allow the beat; or the status is that of the fault for which this was given up.
abbrev pub EndsAllowed : ℕ → Liberties → Option (List ℕ) → Option (List ℕ) → Option (List ℕ) → Option (List ℕ) → ℕ
    → Type 0
EndsAllowed explained allow had left held holds status =
    ((allowing : List Liberty) × FindsAllowed allow had left allowing × Appends held holds (allowed_line allowing)
    × (status ≡ explained))
    ⊎ ((fault : ToolFault) × GivesUpAllowing allow had left held holds fault × (status ≡ exit_status (Err fault)))

-- The status is that of an outcome which a chart of a window, whose links have these further liberties, has
-- over the input and the output.
abbrev pub EndsCharted : Liberties → Window → Option (List ℕ) → Option (List ℕ) → Option (List ℕ) → Option (List ℕ) → ℕ
    → Type 0
EndsCharted allow win had left held holds status =
    (outcome : Result Status ToolFault) × (status ≡ exit_status outcome)
    × IfOk outcome (λ judged. (chart : List ℕ) × Charts allow win had left judged chart × Appends held holds chart)
    × IfErr outcome (GivesUpCharting allow win had left held holds)

-- The same of a trace of wide beats, or of one with stores and loads.
abbrev pub EndsChartedEvents : Liberties → Window → Option (List ℕ) → Option (List ℕ) → Option (List ℕ)
    → Option (List ℕ) → ℕ → Type 0
EndsChartedEvents allow win had left held holds status =
    (outcome : Result Status ToolFault) × (status ≡ exit_status outcome)
    × IfOk outcome (λ judged. (chart : List ℕ) × ChartsEvents allow win had left judged chart × Appends held holds chart)
    × IfErr outcome (GivesUpChartingEvents allow win had left held holds)

-- The status is that of an outcome which a search has over the input and the output.
abbrev pub EndsFound : Aim → Option (List ℕ) → Option (List ℕ) → Option (List ℕ) → Option (List ℕ) → ℕ → Type 0
EndsFound aim had left held holds status =
    (outcome : Result Status ToolFault) × (status ≡ exit_status outcome)
    × IfOk outcome (λ judged. (found : List Finding) × (beats : ℕ) × (cells : List ℕ)
    × Searches aim had left found beats cells
    × Appends held holds (all_text aim.together found beats) × (judged ≡ status_of found))
    × IfErr outcome (GivesUpSearching aim had left held holds)

-- The words give no command: the status is that of the usage, or of a writer that failed, or of want of memory.
abbrev pub IsRefused : WordsFault → ℕ → Type 0
IsRefused (words.Usage error) status = (status ≡ status_of_usage error) ⊎ (status ≡ exit_status (Err Write))
IsRefused words.Memory status = status ≡ exit_status (Err Memory)
