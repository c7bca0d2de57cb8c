-- The result for a recorded trace, and the end of a run that reports its situations.
use Rattle.std.specs.Prelude.{◌≡◌, ℕ, Bool, false, true, List, [], ◌∷◌, Option}
use Rattle.std.specs.Prelude.{if◌then◌else◌}
use Rattle.std.specs.Io.KnownBytes.{Consumes}
use Rattle.tl_lines.specs.statement.Lines.{lines_of}
use Rattle.tl_lines.specs.statement.Parts.{AppendsShort}
use Rattle.tl_lines.specs.statement.Run.{EndsAs}
use Rattle.tl_lines.specs.declared.status.Status.{Status}
use Rattle.tl_lines.specs.declared.status.Status.TheVariants.{Broken, Clean}
use Rattle.tl_lines.specs.declared.status.ToolFault.{ToolFault}
use Rattle.tl_lines.specs.declared.status.ToolFault.TheVariants.{Write}
use Rattle.tl_params.specs.declared.liberties.Liberties.{Liberties}
use Rattle.tl_tried.specs.declared.tried.Tried.{Tried}
use Rattle.tl_tried.specs.statement.WideEventCovered.{AnyCovered}
use Rattle.tl_wide_event_lines.specs.statement.JudgedWideEvents.{JudgedAny}

-- The verdict, status, situations and counts of the input that was read, to its end or to a line at fault that no continuation
-- can mend. The verdict and the status are those of `monitor`.
abbrev pub IsTried : Liberties → Option (List ℕ) → Option (List ℕ) → Tried → Type 0
IsTried allow had left tried =
    (read : List ℕ) × Consumes had left read × JudgedAny false allow (lines_of read) tried.verdict.items tried.status
    × EndsAs (JudgedAny false allow) left read tried.verdict.items tried.status
    × AnyCovered allow (lines_of read) (tried.rows.items, tried.cells.items)

-- a line is at fault
abbrev pub is_broken : Status → Bool
is_broken Broken = true
is_broken Clean = false

-- `Broken` if a line of one of these traces is at fault
abbrev pub status_of : List Tried → Status
status_of [] = Clean
status_of (tried ∷ all) = if is_broken tried.status then Broken else status_of all

-- A report ended with this fault. `Write`: the writer took only a front of the text. Otherwise nothing was written.
abbrev pub GivesUpTelling : Option (List ℕ) → Option (List ℕ) → List ℕ → ToolFault → Type 0
GivesUpTelling held holds text Write = AppendsShort held holds text
GivesUpTelling held holds text fault = holds ≡ held
