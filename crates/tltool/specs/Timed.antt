-- How the program ends that explains a trace with times.
use Rattle.std.specs.Prelude.{◌≡◌, ◌⊎◌, ℕ, List, Option, Result, Err}
use Rattle.std.specs.Io.KnownBytes.{Appends}
use Rattle.tl_lines.specs.declared.status.ToolFault.{ToolFault}
use Rattle.tl_lines.specs.declared.status.ToolFault.TheVariants.{Write}
use Rattle.tl_lines.specs.statement.Exit.{exit_status}
use Rattle.tl_lines.specs.statement.Parts.{AppendsShort}
use Rattle.tl_times.specs.statement.Timed.{ReadsTimes, timed}

-- Why nothing more was written: `Write` means that the writer took only a front of the text. Otherwise it took nothing.
abbrev pub GivesUpTiming : List ℕ → Option (List ℕ) → Option (List ℕ) → Option (List ℕ) → Option (List ℕ) → ToolFault
    → Type 0
GivesUpTiming text had left held holds Write =
    (lines : List (List ℕ)) × ReadsTimes had left lines × AppendsShort held holds (timed lines text)
GivesUpTiming text had left held holds fault = holds ≡ held

-- The status is that of the explanation with this text, which was written with the times that were read; or the status
-- is that of the fault for which this was given up.
abbrev pub EndsTimed : ℕ → List ℕ → Option (List ℕ) → Option (List ℕ) → Option (List ℕ) → Option (List ℕ) → ℕ → Type 0
EndsTimed explained text had left held holds status =
    ((lines : List (List ℕ)) × ReadsTimes had left lines × Appends held holds (timed lines text) × (status ≡ explained))
    ⊎ ((fault : ToolFault) × GivesUpTiming text had left held holds fault × (status ≡ exit_status (Err fault)))
