-- The text that `chart` writes of a trace, and its faults.
use Rattle.std.specs.Prelude.{◌≡◌, ◌⊎◌, ℕ, Bool, true, false, List, [], ◌∷◌, ◌++◌, codes, Option, None, Some}
use Rattle.std.specs.Io.KnownBytes.{Consumes}
use Rattle.tl_beat.specs.declared.beat.Beat.{Beat}
use Rattle.tl_beat.specs.declared.beat.Link.{Link}
use Rattle.tl_beat.specs.declared.fault.LineFault.{LineFault}
use Rattle.tl_beat.specs.statement.Line.{Spells, line_fault}
use Rattle.tl_params.specs.declared.level.Level.{Level}
use Rattle.tl_params.specs.declared.liberties.Liberties.{Liberties}
use Rattle.tl_params.specs.declared.width.Width.{Width}
use Rattle.tl_rules.specs.statement.Conformance.{Trace}
use Rattle.tl_rules.specs.statement.History.{held}
use Rattle.tl_rules.specs.statement.Liberties.{held_under}
use Rattle.tl_chart.specs.declared.arrow.Arrow.{Arrow}
use Rattle.tl_chart.specs.declared.window.Window.{Window}
use Rattle.tl_chart.specs.statement.Chart.{IsChart}
use Rattle.tl_chart.specs.statement.Drawn.{Drawn, drawn, fault_drawn}
use Rattle.tl_lines.specs.statement.Lines.{lines_of}
use Rattle.tl_lines.specs.statement.Parts.{AppendsShort}
use Rattle.tl_lines.specs.statement.Run.{EndsAs}
use Rattle.tl_lines.specs.declared.fault.Fault.{Fault}
use Rattle.tl_lines.specs.declared.status.Status.{Status}
use Rattle.tl_lines.specs.declared.status.Status.TheVariants.{Clean, Broken}
use Rattle.tl_lines.specs.declared.status.ToolFault.{ToolFault}
use Rattle.tl_lines.specs.declared.status.ToolFault.TheVariants.{Write}
use Rattle.tl_lines.specs.statement.JudgedLinks.{JudgedLinks, faults_under}
use Rattle.tl_lines.specs.statement.LinksHeader.{NamesAllowed}
use Rattle.tl_lines.specs.statement.Width.{bytes_of}

-- The drawing of the line at fault after the beats of t: its beat, or nothing if it spells none.
abbrev pub DrawsFault : {w : ℕ} → Window → List Level → Liberties → Trace w → List ℕ → Option Arrow → Type 0
DrawsFault {w} win levels may t line arrow =
    ((of_line : LineFault) × (line_fault w line ≡ Some of_line) × (arrow ≡ None))
    ⊎ ((link : Link) × (beat : Beat w) × (fault : Fault) × Spells line link beat
    × (faults_under w levels may (link, beat) t ≡ Some fault)
    × (arrow ≡ fault_drawn (held_under may) win (link, beat) t))

-- The drawing of these lines in a window, after a header of links with these liberties and the beats of t. It has all
-- beats up to the first line at fault, and the beat of that line.
unfoldable pub DrawsAfter : {w : ℕ} → Window → List Level → Liberties → Trace w → List (List ℕ) → Drawn → Option Arrow
    → Type 0
DrawsAfter win levels may t [] d arrow = (d ≡ drawn (held_under may) win t) × (arrow ≡ None)
DrawsAfter {w} win levels may t (line ∷ lines) d arrow =
    ((link : Link) × (beat : Beat w) × Spells line link beat × (faults_under w levels may (link, beat) t ≡ None)
    × DrawsAfter win levels may ((link, beat) ∷ t) lines d arrow)
    ⊎ ((d ≡ drawn (held_under may) win t) × DrawsFault win levels may t line arrow)

-- nothing is drawn
abbrev pub DrawsNothing : Window → Drawn → Option Arrow → Type 0
DrawsNothing win d arrow = (d ≡ drawn {w = 4} held win []) × (arrow ≡ None)

-- The drawing of the lines of a whole trace. Its links have the liberties that the header names and those that are
-- allowed. Nothing is drawn if the first line is no header or is missing.
unfoldable pub Draws : Liberties → Window → List (List ℕ) → Drawn → Option Arrow → Type 0
Draws allow win [] d arrow = DrawsNothing win d arrow
Draws allow win (line ∷ lines) d arrow =
    ((width : Width) × (may : Liberties) × (levels : List Level) × NamesAllowed allow line width may levels
    × DrawsAfter {w = bytes_of width} win levels may [] lines d arrow)
    ⊎ (((width : Width) (may : Liberties) (levels : List Level) → ¬ NamesAllowed allow line width may levels)
    × DrawsNothing win d arrow)

-- a line is at fault
abbrev pub is_broken : Status → Bool
is_broken Clean = false
is_broken Broken = true

-- the text is the chart of these lines in a window, with this verdict below it
abbrev pub IsCharted : Liberties → Window → List (List ℕ) → List ℕ → Status → List ℕ → Type 0
IsCharted allow win lines verdict status chart =
    (d : Drawn) × (arrow : Option Arrow) × (said : List ℕ) × Draws allow win lines d arrow
    × (verdict ≡ said ++ codes "\n")
    × IsChart win d arrow said (is_broken status) [] chart

-- The verdict and the chart of the input that was read, to its end or to a line at fault that no continuation can mend.
-- The verdict is that of `monitor` with the same `--allow`.
abbrev pub Charts : Liberties → Window → Option (List ℕ) → Option (List ℕ) → Status → List ℕ → Type 0
Charts allow win had left status chart =
    (read verdict : List ℕ) × Consumes had left read × JudgedLinks false allow (lines_of read) verdict status
    × EndsAs (JudgedLinks false allow) left read verdict status
    × IsCharted allow win (lines_of read) verdict status chart

-- Charting ended with this fault. `Write`: the trace was judged, and the writer took only a front of the chart.
-- Otherwise nothing was written.
abbrev pub GivesUpCharting : Liberties → Window → Option (List ℕ) → Option (List ℕ) → Option (List ℕ) → Option (List ℕ)
    → ToolFault → Type 0
GivesUpCharting allow win had left before after Write =
    (chart : List ℕ) × (status : Status) × Charts allow win had left status chart × AppendsShort before after chart
GivesUpCharting allow win had left before after fault = after ≡ before
