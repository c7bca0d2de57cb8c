-- A whole run: its input, its output, and the reason why it was given up. `tells` has the text of all lines and the
-- status at their end. `so_far` has the text of lines without a fault, before the end of the input.
use Rattle.std.specs.Prelude.{◌≡◌, ◌⊎◌, ◌+◌, ◌<◌, ℕ, List, [], ◌++◌, length, Option}
use Rattle.std.specs.Io.KnownBytes.{IsAtEnd, Consumes, Appends}
use Rattle.tl_lines.specs.declared.fault.Fault.{Fault}
use Rattle.tl_lines.specs.declared.status.Status.{Status}
use Rattle.tl_lines.specs.declared.status.Status.TheVariants.{Clean, Broken}
use Rattle.tl_lines.specs.declared.status.ToolFault.{ToolFault}
use Rattle.tl_lines.specs.declared.status.ToolFault.TheVariants.{Memory, Read, Write}
use Rattle.tl_lines.specs.statement.Fault.{fault_text}
use Rattle.tl_lines.specs.statement.Lines.{lines_of, lines_ended, ended_lines, AreWhole, LacksLf, RunsOut}
use Rattle.tl_lines.specs.statement.Parts.{AppendsPart, AppendsShort}

-- The line at fault is the rest after the last LF of the input: it has no LF and fewer than 256 bytes, so that more
-- bytes could mend it, or it isn't there.
pub record StopsAtRest (read text : List ℕ) : Type 0 where
  pub front : List ℕ
  pub rest : List ℕ
  pub whole : read ≡ front ++ rest
  pub ended : AreWhole front
  pub unended : LacksLf rest
  pub short : length rest < 256
  pub before : List ℕ
  pub fault : Fault
  pub says : text ≡ before ++ fault_text (ended_lines read + 1) fault

-- a run stops at the end of its input, or at a line at fault that no continuation can mend
abbrev pub EndsAs : (List (List ℕ) → List ℕ → Status → Type 0) → Option (List ℕ) → List ℕ → List ℕ → Status → Type 0
EndsAs tells left read text Clean = IsAtEnd left
EndsAs tells left read text Broken =
    ((more : List ℕ) → tells (lines_of (read ++ more)) text Broken) ⊎ (IsAtEnd left × StopsAtRest read text)

-- a run wrote the text of its input
abbrev pub RunsTo : (List (List ℕ) → List ℕ → Status → Type 0) → Option (List ℕ) → Option (List ℕ) → Option (List ℕ)
    → Option (List ℕ) → Status → Type 0
RunsTo tells had left held holds status =
    (read text : List ℕ) × Consumes had left read × Appends held holds text × tells (lines_of read) text status
    × EndsAs tells left read text status

-- a run that was given up wrote a beginning of the text of its input
abbrev pub FailsAt : (List (List ℕ) → List ℕ → Status → Type 0) → Option (List ℕ) → Option (List ℕ) → Option (List ℕ)
    → Option (List ℕ) → Type 0
FailsAt tells had left held holds =
    (read text : List ℕ) × (status : Status) × Consumes had left read × tells (lines_of read) text status
    × AppendsPart held holds text

-- The text was to be written by then: the lines that have ended have it, or it is that of the run.
abbrev pub IsOwed : (List (List ℕ) → List ℕ → Type 0) → (List (List ℕ) → List ℕ → Status → Type 0) → Option (List ℕ)
    → List ℕ → List ℕ → Type 0
IsOwed so_far tells left read text =
    so_far (lines_ended read) text
    ⊎ ((status : Status) × tells (lines_of read) text status × EndsAs tells left read text status)

-- A run was given up for this. `Memory`: the text of the lines that had ended before the last piece was written;
-- the piece is there, or the end, or nothing was read. `Read`: the text of all lines that have ended was written,
-- or no number is left. `Write`: a part of the text is left to write.
abbrev pub GivesUpFor : (List (List ℕ) → List ℕ → Type 0) → (List (List ℕ) → List ℕ → Status → Type 0)
    → Option (List ℕ) → Option (List ℕ) → Option (List ℕ) → Option (List ℕ) → ToolFault → Type 0
GivesUpFor so_far tells had left held holds Memory =
    (read piece text : List ℕ) × Consumes had left (read ++ piece) × Appends held holds text
    × so_far (lines_ended read) text × (piece ≡ [] → (IsAtEnd left) ⊎ (read ≡ []))
GivesUpFor so_far tells had left held holds Read =
    (read : List ℕ) × Consumes had left read
    × (((text : List ℕ) × Appends held holds text × so_far (lines_ended read) text) ⊎ RunsOut read)
GivesUpFor so_far tells had left held holds Write =
    (read text : List ℕ) × Consumes had left read × AppendsShort held holds text × IsOwed so_far tells left read text
