-- The reasons why nothing is explained, by the bytes that were read and written.
use Rattle.std.specs.Prelude.{◌≡◌, ◌⊎◌, ℕ, Bool, List, ◌++◌, Option}
use Rattle.std.specs.Io.KnownBytes.{Consumes}
use Rattle.tl_lines.specs.statement.Lines.{lines_ended, lines_of, RunsOut}
use Rattle.tl_lines.specs.statement.Parts.{AppendsShort}
use Rattle.tl_lines.specs.statement.Run.{EndsAs}
use Rattle.tl_reasons.specs.declared.explain_fault.ExplainFault.{ExplainFault}
use Rattle.tl_reasons.specs.declared.explain_fault.ExplainFault.TheVariants.{Changed, Tool}
use Rattle.tl_lines.specs.declared.status.Status.{Status}
use Rattle.tl_lines.specs.declared.status.ToolFault.TheVariants.{Memory, Read, Write}
use Rattle.tl_reasons.specs.statement.Explained.{Explains}
use Rattle.tl_lines.specs.statement.JudgedLinks.{JudgedLinks, LinksSoFar}
use Rattle.tl_params.specs.declared.liberties.Liberties.{Liberties}

-- ---- a file with two readers, of which the first judges the lines and the second finds the reasons. `tells` has the
-- verdict on all lines, and `so_far` the text of lines without a fault, before the end of the input.

-- The first reading reached its verdict: at the end of the input, or at a line at fault that no continuation can mend.
abbrev pub ReachesBy : (List (List ℕ) → List ℕ → Status → Type 0) → Option (List ℕ) → Option (List ℕ) → List ℕ → Status
    → Type 0
ReachesBy tells had left verdict status =
    (read : List ℕ) × Consumes had left read × tells (lines_of read) verdict status × EndsAs tells left read verdict status

-- The first reading ended with this fault. `Read`: none of the lines that had ended is at fault, or no number is left
-- for a line. `Changed`: it had reached its verdict. `Write`: never.
abbrev pub IsUnjudged : (List (List ℕ) → List ℕ → Type 0) → (List (List ℕ) → List ℕ → Status → Type 0)
    → Option (List ℕ) → Option (List ℕ) → ExplainFault → Type 0
IsUnjudged so_far tells had left (Tool Memory) = (read : List ℕ) × Consumes had left read
IsUnjudged so_far tells had left (Tool Read) =
    (read : List ℕ) × Consumes had left read × (((text : List ℕ) × so_far (lines_ended read) text) ⊎ RunsOut read)
IsUnjudged so_far tells had left (Tool Write) = ⊥
IsUnjudged so_far tells had left Changed = (verdict : List ℕ) × (status : Status) × ReachesBy tells had left verdict status

-- The second reading ended with this fault, after the verdict of the first. `Write`: never.
abbrev pub IsUnreasoned : (List (List ℕ) → List ℕ → Status → Type 0) → Option (List ℕ) → Option (List ℕ) → ExplainFault
    → Type 0
IsUnreasoned tells had left (Tool Write) = ⊥
IsUnreasoned tells had left fault = (verdict : List ℕ) × (status : Status) × ReachesBy tells had left verdict status

-- Nothing was written: the first reading ended with the fault and the second didn't begin, or the first reached its
-- verdict and the second ended with the fault.
abbrev pub GivesUpReading : (List (List ℕ) → List ℕ → Type 0) → (List (List ℕ) → List ℕ → Status → Type 0)
    → Option (List ℕ) → Option (List ℕ) → Option (List ℕ) → Option (List ℕ) → Option (List ℕ) → Option (List ℕ)
    → ExplainFault → Type 0
GivesUpReading so_far tells had left had_again left_again held holds fault =
    (holds ≡ held)
    × (((left_again ≡ had_again) × IsUnjudged so_far tells had left fault) ⊎ IsUnreasoned tells had left fault)

-- ---- the explanation of a trace

-- The first reading, of each link by itself or of all together, reached its verdict. The links have the liberties that
-- the header names and those that are allowed.
abbrev pub Reaches : Bool → Liberties → Option (List ℕ) → Option (List ℕ) → List ℕ → Status → Type 0
Reaches together allow = ReachesBy (JudgedLinks together allow)

-- An explanation of a file with two readers ended with this fault. `Write`: both readings reached their ends, and the
-- writer took only a front of the text. Otherwise nothing was written.
abbrev pub GivesUpExplaining : Bool → Liberties → Option (List ℕ) → Option (List ℕ) → Option (List ℕ) → Option (List ℕ)
    → Option (List ℕ) → Option (List ℕ) → ExplainFault → Type 0
GivesUpExplaining together allow had left had_again left_again held holds (Tool Write) =
    (verdict reasons : List ℕ) × (status : Status) × Reaches together allow had left verdict status
    × Explains allow had_again left_again verdict reasons status × AppendsShort held holds (verdict ++ reasons)
GivesUpExplaining together allow had left had_again left_again held holds fault =
    GivesUpReading (LinksSoFar together allow) (JudgedLinks together allow) had left had_again left_again held holds fault
