-- The text that `chart` writes of a trace of wide beats, or of one with stores and loads, and its faults.
use Rattle.std.specs.Prelude.{◌≡◌, ℕ, false, List, [], ◌++◌, codes, Option}
use Rattle.std.specs.Io.KnownBytes.{Consumes}
use Rattle.tl_chart.specs.declared.arrow.Arrow.{Arrow}
use Rattle.tl_chart.specs.declared.names.Names.{Names}
use Rattle.tl_chart.specs.declared.note.Note.{Note}
use Rattle.tl_chart.specs.declared.window.Window.{Window}
use Rattle.tl_chart.specs.statement.Chart.{IsChartBeside}
use Rattle.tl_chart.specs.statement.Drawn.{Drawn}
use Rattle.tl_lines.specs.declared.status.Status.{Status}
use Rattle.tl_lines.specs.declared.status.ToolFault.{ToolFault}
use Rattle.tl_lines.specs.declared.status.ToolFault.TheVariants.{Write}
use Rattle.tl_engine.specs.statement.Charted.{is_broken}
use Rattle.tl_lines.specs.statement.Lines.{lines_of}
use Rattle.tl_lines.specs.statement.Parts.{AppendsShort}
use Rattle.tl_lines.specs.statement.Run.{EndsAs}
use Rattle.tl_event_chart.specs.statement.Noted.{AreNoted}
use Rattle.tl_params.specs.declared.liberties.Liberties.{Liberties}
use Rattle.tl_wide_event_lines.specs.statement.JudgedWideEvents.{JudgedAny}

-- The text is the chart of a drawing from the first line of the window on, with names, and with this verdict below it.
-- Beside it are notes, each of which is a store or a load of these lines, within the window.
pub record IsChartedBeside (win : Window) (lines : List (List ℕ)) (verdict : List ℕ) (status : Status)
    (chart : List ℕ) : Type 0 where
  pub names : Names
  pub notes : List Note
  pub noted : AreNoted win lines notes
  pub drawn_in : Window
  pub begins : drawn_in.first ≡ win.first
  pub drawing : Drawn
  pub fault : Option Arrow
  pub said : List ℕ
  pub verdict_is : verdict ≡ said ++ codes "\n"
  pub is_chart : IsChartBeside names notes drawn_in drawing fault said (is_broken status) [] chart

-- The verdict and the chart of the input that was read, to its end or to a line at fault that no continuation can mend.
-- The verdict is that of `monitor` with the same `--allow`.
abbrev pub ChartsEvents : Liberties → Window → Option (List ℕ) → Option (List ℕ) → Status → List ℕ → Type 0
ChartsEvents allow win had left status chart =
    (read verdict : List ℕ) × Consumes had left read × JudgedAny false allow (lines_of read) verdict status
    × EndsAs (JudgedAny false allow) left read verdict status × IsChartedBeside win (lines_of read) verdict status
    chart

-- Charting ended with this fault. `Write`: the trace was judged, and the writer took only a front of the chart.
-- Otherwise nothing was written.
abbrev pub GivesUpChartingEvents : Liberties → Window → Option (List ℕ) → Option (List ℕ) → Option (List ℕ)
    → Option (List ℕ) → ToolFault → Type 0
GivesUpChartingEvents allow win had left before after Write =
    (chart : List ℕ) × (status : Status) × ChartsEvents allow win had left status chart
    × AppendsShort before after chart
GivesUpChartingEvents allow win had left before after fault = after ≡ before
