-- The verdict below a chart, and the chart of what was read.
use Rattle.std.proofs.Common.{◌≡◌, ◌∙◌, ◌+◌, ◌++◌, ℕ, Bool, false, List, [], ◌∷◌, length, sym, subst}
use Rattle.std.proofs.Common.{append_assoc, inl, inr}
use Rattle.std.specs.Fmt.{decimal}
use Rattle.std.specs.Io.KnownBytes.{Consumes}
use Rattle.std.specs.Prelude.{codes, Option, Some, None}
use Rattle.tl_chart.specs.code.Gathered.{drawn_of}
use Rattle.tl_chart.specs.declared.names.Names.{Names}
use Rattle.tl_chart.specs.declared.note.Note.{Note}
use Rattle.tl_chart.specs.declared.window.Window.{Window}
use Rattle.tl_chart.specs.statement.Chart.{IsChartBeside}
use Rattle.tl_commit_lines.specs.statement.MarkedHeader.{MarkedLinks}
use Rattle.tl_commit_lines.specs.statement.JudgedEvents.{JudgedCommits, JudgedEvents}
use Rattle.tl_commits.specs.statement.Events.{Events}
use Rattle.tl_engine.proofs.ChartedLines.{verdict_ended}
use Rattle.tl_lines.specs.declared.fault.Fault.{Fault}
use Rattle.tl_lines.specs.declared.status.Status.{Status}
use Rattle.tl_engine.specs.statement.Charted.{is_broken}
use Rattle.tl_lines.specs.statement.Fault.{fault_name, fault_text}
use Rattle.tl_lines.specs.statement.Judged.{clean_text}
use Rattle.tl_lines.specs.statement.Lines.{lines_of}
use Rattle.tl_lines.specs.statement.Run.{EndsAs}
use Rattle.tl_event_chart.specs.code.Drawing.{HasNotes}
use Rattle.tl_event_chart.specs.declared.canvas.Canvas.{Canvas}
use Rattle.tl_event_chart.specs.statement.EventCharted.{ChartsEvents, IsChartedBeside}
use Rattle.tl_event_chart.specs.statement.Noted.{AreNoted}
use Rattle.tl_params.specs.declared.liberties.Liberties.{Liberties}
use Rattle.tl_wide.specs.statement.Width.{wide_bytes_of}
use Rattle.tl_wide_event_lines.specs.statement.JudgedWideEvents.{JudgedAny, JudgedWideEvents}
use Rattle.tl_wide_events.specs.statement.Narrowed.{WideEvents}
use Rattle.tl_wide_lines.specs.statement.JudgedTrace.{JudgedTrace, SaidOf}

-- the text is a line
abbrev IsSaid : List ℕ → Type 0
IsSaid text = (said : List ℕ) × (text ≡ said ++ codes "\n")

fault-said : (n : ℕ) (fault : Fault) (text : List ℕ) → text ≡ fault_text n fault → IsSaid text
unfolding fault_text
fault-said n fault text is = (
  codes "line " ++ decimal n ++ codes " " ++ fault_name fault,
  is ∙ joined (codes "line ") (decimal n) (codes " ") (fault_name fault) (codes "\n"),
)
  where
    joined : (a b c d e : List ℕ) → a ++ b ++ c ++ d ++ e ≡ (a ++ b ++ c ++ d) ++ e
    joined a b c d e = simp append_assoc

clean-said : (n : ℕ) (text : List ℕ) → text ≡ clean_text n → IsSaid text
unfolding clean_text
clean-said n text is =
    (codes "clean " ++ decimal n, is ∙ sym (append_assoc (codes "clean ") (decimal n) (codes "\n")))

events-said : (w : ℕ) (links : MarkedLinks) (may : Liberties) (e : Events w) (lines : List (List ℕ))
    (text : List ℕ) (status : Status) → JudgedEvents w false links may e lines text status → IsSaid text
unfolding JudgedEvents
events-said w links may e [] text status (is, clean) = clean-said (length e) text is
events-said w links may e (line ∷ lines) text status (inl (link, x, spells, good, judged)) =
    events-said w links may ((link, x) ∷ e) lines text status judged
events-said w links may e (line ∷ lines) text status (inr (found, at, is, broken)) =
    fault-said (length e + 2) found text is

wide-said : (w count : ℕ) (found : Option (ℕ × Fault)) (rest : List (List ℕ)) (text : List ℕ) (status : Status)
    → SaidOf w false count found rest text status → IsSaid text
wide-said w count (Some found) rest text status (is, broken) = fault-said (found.0 + 2) found.1 text is
wide-said w count None [] text status (is, clean) = clean-said count text is
wide-said w count None (line ∷ rest) text status (of_line, fault, is, broken) = fault-said (count + 2) _ text is

trace-said : (allow : Liberties) (lines : List (List ℕ)) (text : List ℕ) (status : Status)
    → JudgedTrace false allow lines text status → IsSaid text
trace-said allow [] text status judged = verdict_ended allow [] text status judged
trace-said allow (line ∷ lines) text status (inl (width, may, levels, names, judged)) =
    wide-said _ _ _ judged.rest text status judged.said
trace-said allow (line ∷ lines) text status (inr (none, judged)) =
    verdict_ended allow (line ∷ lines) text status judged

commits-said : (allow : Liberties) (lines : List (List ℕ)) (text : List ℕ) (status : Status)
    → JudgedCommits false allow lines text status → IsSaid text
commits-said allow [] text status judged = trace-said allow [] text status judged
commits-said allow (line ∷ lines) text status (inl (width, may, links, names, judged)) =
    events-said _ links may [] lines text status judged
commits-said allow (line ∷ lines) text status (inr (none, judged)) =
    trace-said allow (line ∷ lines) text status judged

wide-events-said : (w : ℕ) (links : MarkedLinks) (may : Liberties) (t : WideEvents w) (lines : List (List ℕ))
    (text : List ℕ) (status : Status) → JudgedWideEvents w false links may t lines text status → IsSaid text
unfolding JudgedWideEvents
wide-events-said w links may t [] text status (is, clean) = clean-said (length t) text is
wide-events-said w links may t (line ∷ lines) text status (inl (link, x, spells, good, judged)) =
    wide-events-said w links may ((link, x) ∷ t) lines text status judged
wide-events-said w links may t (line ∷ lines) text status (inr (found, at, is, broken)) =
    fault-said (length t + 2) found text is

-- a verdict is a line
pub verdict-said : (allow : Liberties) (lines : List (List ℕ)) (text : List ℕ) (status : Status)
    → JudgedAny false allow lines text status → IsSaid text
verdict-said allow [] text status judged = commits-said allow [] text status judged
verdict-said allow (line ∷ lines) text status (inl (width, may, links, names, judged)) =
    wide-events-said (wide_bytes_of width) links may [] lines text status judged
verdict-said allow (line ∷ lines) text status (inr (none, judged)) =
    commits-said allow (line ∷ lines) text status judged

-- ---- the chart

-- the chart of a picture of these lines
pub charted-beside : (win : Window) (lines : List (List ℕ)) (canvas : Canvas) (names : Names) (notes : List Note)
    (text said verdict : List ℕ) (broken : Bool) (status : Status) (old chart : List ℕ) → HasNotes canvas win lines
    → notes ≡ canvas.notes.items → verdict ≡ said ++ codes "\n" → text ≡ said → broken ≡ is_broken status → old ≡ []
    → IsChartBeside names notes canvas.gatherer.window (drawn_of canvas.gatherer) canvas.fault text broken old chart
    → IsChartedBeside win lines verdict status chart
charted-beside win lines canvas names notes text said verdict broken status old chart has notes_are ended text_is
    broken_is empty is = record {
      names = names;
      notes = notes;
      noted = subst (AreNoted win lines) (sym notes_are) has.noted;
      drawn_in = canvas.gatherer.window;
      begins = has.window_is.first_is;
      drawing = drawn_of canvas.gatherer;
      fault = canvas.fault;
      said = said;
      verdict_is = ended;
      is_chart = subst (λ (o : List ℕ). IsChartBeside names notes canvas.gatherer.window (drawn_of canvas.gatherer)
          canvas.fault said (is_broken status) o chart) empty
          (subst (λ (b : Bool). IsChartBeside names notes canvas.gatherer.window (drawn_of canvas.gatherer)
          canvas.fault said b old chart) broken_is
          (subst (λ (t : List ℕ). IsChartBeside names notes canvas.gatherer.window (drawn_of canvas.gatherer)
          canvas.fault t broken old chart) text_is is));
    }

-- what was read has its verdict, and this chart
pub charts-events : (allow : Liberties) (win : Window) (had left : Option (List ℕ)) (canvas : Canvas)
    (verdict text : List ℕ) (status : Status) (chart : List ℕ) → (read : List ℕ) × Consumes had left read
    × JudgedAny false allow (lines_of read) verdict status
    × EndsAs (JudgedAny false allow) left read verdict status × HasNotes canvas win (lines_of read)
    → text ≡ verdict
    → ((asked : Window) (lines : List (List ℕ)) (said : List ℕ) → HasNotes canvas asked lines
    → text ≡ said ++ codes "\n" → IsChartedBeside asked lines text status chart)
    → ChartsEvents allow win had left status chart
charts-events allow win had left canvas verdict text status chart (read, consumed, judged, ended, has) same charted_so =
    let (said, is) = verdict-said allow (lines_of read) verdict status judged in (
      read,
      verdict,
      consumed,
      judged,
      ended,
      subst (λ (t : List ℕ). IsChartedBeside win (lines_of read) t status chart) same
          (charted_so win (lines_of read) said has (same ∙ is)),
    )
