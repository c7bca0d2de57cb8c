-- The text of the findings in a trace.
use Rattle.std.specs.Prelude.{◌≡◌, ◌⊎◌, ◌++◌, ℕ, Bool, List, [], ◌∷◌, length, codes, Option}
use Rattle.std.specs.Fmt.{decimal}
use Rattle.std.specs.List.{flat_map}
use Rattle.std.specs.Io.KnownBytes.{Consumes, IsAtEnd}
use Rattle.tl_lines.specs.statement.Lines.{lines_of}
use Rattle.tl_lines.specs.statement.Parts.{AppendsShort}
use Rattle.tl_lines.specs.statement.JudgedSo.{said_by}
use Rattle.tl_lines.specs.declared.status.Status.{Status}
use Rattle.tl_lines.specs.declared.status.Status.TheVariants.{Clean, Broken}
use Rattle.tl_lines.specs.declared.status.ToolFault.{ToolFault}
use Rattle.tl_lines.specs.declared.status.ToolFault.TheVariants.{Write}
use Rattle.tl_lines.specs.statement.Fault.{fault_text}
use Rattle.tl_command.specs.declared.search.Aim.{Aim}
use Rattle.tl_report.specs.declared.findings.Finding.{Finding}
use Rattle.tl_report.specs.statement.Found.{FindsFor}

-- `line N X`
abbrev pub finding_text : Finding → List ℕ
finding_text x = fault_text x.line x.fault

-- the same for each line at fault
abbrev pub faults_text : List Finding → List ℕ
faults_text found = flat_map finding_text found

-- `faults N`: the number of lines at fault
unfoldable pub count_text : ℕ → List ℕ
count_text n = codes "faults " ++ decimal n ++ codes "\n"

-- each line at fault and their number; if there is none, the verdict with the number of beats, for all links together
-- or for each by itself
abbrev pub all_text : Bool → List Finding → ℕ → List ℕ
all_text together [] beats = said_by together beats
all_text together found beats = faults_text found ++ count_text (length found)

-- the first line at fault; if there is none, the verdict with the number of beats
abbrev pub first_by : (ℕ → List ℕ) → List Finding → ℕ → List ℕ
first_by said [] beats = said beats
first_by said (x ∷ found) beats = finding_text x

-- the same for all links together or for each by itself
abbrev pub first_text : Bool → List Finding → ℕ → List ℕ
first_text together = first_by (said_by together)

-- Broken if a line is at fault
abbrev pub status_of : List Finding → Status
status_of [] = Clean
status_of found = Broken

-- A search of the input that was read has these findings. It read to the end of the input, or to a point after which
-- nothing changes them.
abbrev pub Searches : Aim → Option (List ℕ) → Option (List ℕ) → List Finding → ℕ → List ℕ → Type 0
Searches aim had left found beats cells =
    (read : List ℕ) × Consumes had left read × FindsFor aim (lines_of read) found beats cells
    × (((more : List ℕ) → FindsFor aim (lines_of (read ++ more)) found beats cells) ⊎ IsAtEnd left)

-- A search that ended with this error. With `Write` the search itself came to its end, and a part of the text isn't
-- written. With any other error nothing is written.
abbrev pub GivesUpSearching : Aim → Option (List ℕ) → Option (List ℕ) → Option (List ℕ) → Option (List ℕ) → ToolFault
    → Type 0
GivesUpSearching aim had left held holds Write =
    (found : List Finding) × (beats : ℕ) × (cells : List ℕ) × Searches aim had left found beats cells
    × AppendsShort held holds (all_text aim.together found beats)
GivesUpSearching aim had left held holds fault = holds ≡ held
