-- How the program ends that counts the situations of traces.
use Rattle.std.specs.Prelude.{◌≡◌, ◌⊎◌, ◌++◌, ◌∷◌, [], ℕ, List, length, Option, Result, Err, IfErr, IfOk}
use Rattle.std.specs.Io.KnownBytes.{Appends}
use Rattle.tl_command.specs.declared.cover.CoverForm.{CoverForm}
use Rattle.tl_lines.specs.declared.status.Status.{Status}
use Rattle.tl_lines.specs.declared.status.ToolFault.{ToolFault}
use Rattle.tl_lines.specs.statement.Exit.{exit_status}
use Rattle.tl_params.specs.statement.Liberties.{no_liberties}
use Rattle.tl_tried.specs.declared.tried.Tried.{Tried}
use Rattle.tl_tried.specs.statement.Told.{Names, told}
use Rattle.tl_tried.specs.statement.Tried.{GivesUpTelling, IsTried, status_of}

-- One more trace is counted, that of the input. Its links have only the liberties of its header.
abbrev pub AddsTried : Option (List ℕ) → Option (List ℕ) → List Tried → List Tried → Type 0
AddsTried had left old new = (tried : Tried) × IsTried no_liberties had left tried × (new ≡ old ++ tried ∷ [])

-- The status is that of an outcome which writing the counts of these traces, with these names if there are several,
-- has over the output.
abbrev pub EndsTold : CoverForm → Names → List Tried → Option (List ℕ) → Option (List ℕ) → ℕ → Type 0
EndsTold form names all held holds status =
    (outcome : Result Status ToolFault) × (status ≡ exit_status outcome)
    × IfOk outcome (λ judged. (judged ≡ status_of all) × Appends held holds (told form names all))
    × IfErr outcome (GivesUpTelling held holds (told form names all))

-- Nothing was written, and the status is that of an input that can't be read.
abbrev pub EndsUnread : Option (List ℕ) → Option (List ℕ) → ℕ → Type 0
EndsUnread held holds status = (status ≡ exit_status (Err ToolFault.Read)) × (holds ≡ held)

-- The counts of the one trace are written, or nothing is.
abbrev pub EndsCovered : CoverForm → Option (List ℕ) → Option (List ℕ) → Option (List ℕ) → Option (List ℕ) → ℕ → Type 0
EndsCovered form had left held holds status =
    ((all : List Tried) × AddsTried had left [] all × EndsTold form [] all held holds status)
    ⊎ EndsUnread held holds status

-- The counts of as many traces are written as there are names, or none.
abbrev pub EndsCoveredIn : CoverForm → Names → Option (List ℕ) → Option (List ℕ) → ℕ → Type 0
EndsCoveredIn form names held holds status =
    ((all : List Tried) × (length all ≡ length names) × EndsTold form names all held holds status)
    ⊎ EndsUnread held holds status
