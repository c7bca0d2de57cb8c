-- Why a piece of a run was given up. `knows` and `tells` are those of the handler's trait.
use Rattle.std.specs.Prelude.{◌≡◌, ℕ, List, [], ◌++◌, Option}
use Rattle.std.specs.Io.KnownBytes.{IsAtEnd}
use Rattle.tl_lines.specs.declared.lines.Lines.{Lines}
use Rattle.tl_lines.specs.declared.status.Status.{Status}
use Rattle.tl_lines.specs.declared.status.ToolFault.{ToolFault}
use Rattle.tl_lines.specs.declared.status.ToolFault.TheVariants.{Memory, Read, Write}
use Rattle.tl_lines.specs.statement.Lines.{RunsOut}
use Rattle.tl_lines.specs.statement.Parts.{AppendsShort}
use Rattle.tl_lines.specs.statement.Run.{IsOwed}
use Rattle.tl_lines.specs.code.Progress.{Progress}

-- a handler knows these lines with this text
abbrev pub IsKnown : {H : Type 0} → (H → List (List ℕ) → List ℕ → Type 0) → List (List ℕ) → List ℕ → Type 0
IsKnown {H} knows lines text = (handler : H) × knows handler lines text

-- A piece was given up: for want of memory, before anything was written for it; for want of a number for a
-- line; or for a writer, if a part of the text is left to write. The piece is empty at the end alone.
abbrev pub GivesUpPiece : {H : Type 0} → (H → List (List ℕ) → List ℕ → Type 0)
    → (List (List ℕ) → List ℕ → Status → Type 0) → Lines H → List ℕ → Option (List ℕ) → Option (List ℕ) → ToolFault
    → Type 0
GivesUpPiece knows tells state piece held holds Memory = holds ≡ held
GivesUpPiece knows tells state piece held holds Read =
    (read before : List ℕ) → Progress knows state read before → RunsOut (read ++ piece)
GivesUpPiece knows tells state piece held holds Write =
    (read before : List ℕ) → Progress knows state read before
    → (text : List ℕ) × AppendsShort held holds text
    × ((left : Option (List ℕ)) → (piece ≡ [] → IsAtEnd left)
    → IsOwed (IsKnown knows) tells left (read ++ piece) (before ++ text))
