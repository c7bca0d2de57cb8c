-- The text for a file: its name, and the command's text of it.
use Rattle.std.specs.Prelude.{ℕ, Bool, List, ◌++◌, Option}
use Rattle.std.specs.Io.KnownBytes.{Appends, Consumes}
use Rattle.tl_command.specs.declared.command.Command.{Command}
use Rattle.tl_lines.specs.declared.status.Status.{Status}
use Rattle.tl_lines.specs.statement.Lines.{lines_of}
use Rattle.tl_engine.specs.statement.Told.{text_told}
use Rattle.tl_params.specs.statement.Liberties.{no_liberties}
use Rattle.tl_wide_event_lines.specs.statement.JudgedWideEvents.{JudgedAny}

-- the name, a separator and the text of the input are written after the writer's earlier contents
abbrev pub Tells : Command → List ℕ → List ℕ → Option (List ℕ) → Option (List ℕ) → Option (List ℕ) → Option (List ℕ)
    → Status → Type 0
Tells command name separator had left held holds status =
    (read text : List ℕ) × Consumes had left read × Appends held holds ((name ++ separator) ++ text)
    × text_told command (lines_of read) text status

-- the same of the text that a trace of any version is judged, its links together or each by itself
abbrev pub TellsTrace : Bool → List ℕ → List ℕ → Option (List ℕ) → Option (List ℕ) → Option (List ℕ) → Option (List ℕ)
    → Status → Type 0
TellsTrace together name separator had left held holds status =
    (read text : List ℕ) × Consumes had left read × Appends held holds ((name ++ separator) ++ text)
    × JudgedAny together no_liberties (lines_of read) text status
