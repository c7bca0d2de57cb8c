-- The pieces of a run: what was read, and what was written for it.
use Rattle.std.specs.Prelude.{◌⊎◌, ℕ, List, ◌++◌, Option}
use Rattle.std.specs.Io.KnownBytes.{IsAtEnd}
use Rattle.tl_lines.specs.declared.lines.Lines.{Lines}
use Rattle.tl_lines.specs.declared.status.Status.{Status}
use Rattle.tl_lines.specs.declared.status.Status.TheVariants.{Clean, Broken}
use Rattle.tl_lines.specs.statement.Lines.{lines_of}
use Rattle.tl_lines.specs.statement.Parts.{AppendsPart}
use Rattle.tl_lines.specs.code.Progress.{Progress}

-- a piece was judged, and this was written for it
abbrev pub Passes : {H : Type 0} → (H → List (List ℕ) → List ℕ → Type 0) → (List (List ℕ) → List ℕ → Status → Type 0)
    → Lines H → Lines H → List ℕ → List ℕ → Status → Type 0
Passes knows tells old new piece said Clean =
    (read before : List ℕ) → Progress knows old read before → Progress knows new (read ++ piece) (before ++ said)
Passes knows tells old new piece said Broken =
    (read before : List ℕ) → Progress knows old read before → (more : List ℕ)
    → tells (lines_of ((read ++ piece) ++ more)) (before ++ said) Broken

-- a piece was given up, and a beginning of its text was written
abbrev pub FailsAfter : {H : Type 0} → (H → List (List ℕ) → List ℕ → Type 0)
    → (List (List ℕ) → List ℕ → Status → Type 0) → Lines H → List ℕ → Option (List ℕ) → Option (List ℕ) → Type 0
FailsAfter knows tells state piece held holds =
    (read before : List ℕ) → Progress knows state read before
    → (text : List ℕ) × (status : Status) × tells (lines_of (read ++ piece)) (before ++ text) status
    × AppendsPart held holds text

-- the result of a line at fault stays the same whatever follows it, or the input is at its end
abbrev pub Stands : {H : Type 0} → (H → List (List ℕ) → Type 0) → Option (List ℕ) → List ℕ → H → Type 0
Stands ends left read handler = ((more : List ℕ) → ends handler (lines_of (read ++ more))) ⊎ IsAtEnd left
