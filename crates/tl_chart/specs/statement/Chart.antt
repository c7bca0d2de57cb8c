-- A whole chart.
use Rattle.std.specs.Prelude.{ℕ, ◌+◌, Bool, ◌≡◌, List, [], ◌++◌, length, map, Option, Some, None, option_to_list}
use Rattle.std.specs.List.{flat_map}
use Rattle.tl_chart.specs.declared.arrow.Arrow.{Arrow}
use Rattle.tl_chart.specs.declared.mark.Mark.{Mark}
use Rattle.tl_chart.specs.declared.names.Names.{Names}
use Rattle.tl_chart.specs.declared.names.Names.TheVariants.{Own}
use Rattle.tl_chart.specs.declared.note.Note.{Note}
use Rattle.tl_chart.specs.declared.window.Window.{Window}
use Rattle.tl_chart.specs.statement.Drawn.{Drawn}
use Rattle.tl_chart.specs.statement.Picture.{arrows_text, bars_text, link_place, notes_text, row_place, verdict_text}
use Rattle.tl_params.specs.declared.perm.Perm.TheVariants as perm

-- the line of the beat at fault; 0 if it isn't drawn
abbrev pub fault_line : Option Arrow → ℕ
fault_line None = 0
fault_line (Some fault) = fault.first

-- the bars of all links, each beside its lifeline
abbrev pub all_bars_text : List ℕ → List Mark → List ℕ → ℕ → ℕ → List ℕ
all_bars_text rows marks links first bottom =
    flat_map (λ link. bars_text rows first bottom link (link_place links link) perm.None (row_place 0) marks) links

-- the messages that are drawn, and then the beat at fault
abbrev pub messages_drawn : Drawn → Option Arrow → List Arrow
messages_drawn d fault = d.arrows ++ option_to_list fault

-- the lines of the rows: those in which these messages begin, and those of the notes
abbrev pub rows : List Arrow → List Note → List ℕ
rows arrows notes = map (λ m. m.first) arrows ++ map (λ n. n.line) notes

-- Bars, messages, notes and verdict, with these names, and with these lines of the rows and links. `fault` is the line of
-- the beat at fault.
unfoldable pub body_text : Names → List Note → ℕ → List Mark → List Arrow → List ℕ → List ℕ → ℕ → List ℕ → Bool
    → List ℕ
body_text names notes first marks arrows rows links fault verdict broken =
    all_bars_text rows marks links first (row_place (length rows) + 14)
    ++ (arrows_text names rows links first fault arrows
    ++ (notes_text rows links notes ++ verdict_text (row_place (length rows) + 36) broken verdict))

-- The chart of a drawing in a window, with these names and notes, with or without a beat at fault, and with the text of
-- a verdict. After a front, with a lifeline for each link, come the bars of the permissions, the arrows of the messages
-- in order, the beat at fault, the notes, the verdict, and an end.
pub record IsChartBeside (names : Names) (notes : List Note) (win : Window) (d : Drawn) (fault : Option Arrow)
    (verdict : List ℕ) (broken : Bool) (old new : List ℕ) : Type 0 where
  pub links : List ℕ
  pub front : List ℕ
  pub end : List ℕ
  pub is_chart : new ≡ old ++ (front
      ++ (body_text names notes win.first d.marks (messages_drawn d fault) (rows (messages_drawn d fault) notes) links
      (fault_line fault) verdict broken ++ end))

-- the chart of a drawing with the names of its beats, without notes
abbrev pub IsChart : Window → Drawn → Option Arrow → List ℕ → Bool → List ℕ → List ℕ → Type 0
IsChart = IsChartBeside Own []
