-- The judgement of a trace, all links together or each by itself.
use Rattle.std.specs.Prelude.{ℕ, Bool, true, false, List}
use Rattle.tl_lines.specs.declared.status.Status.{Status}
use Rattle.tl_lines.specs.statement.Coherent.{coherent_text, faults_together}
use Rattle.tl_lines.specs.statement.Judged.{Faults, JudgedBy, clean_text, faults_of_links}
use Rattle.tl_lines.specs.statement.Trace.{SpellsHeader}

-- the fault of a beat, with all links together or each by itself
abbrev pub faults_by : Bool → Faults
faults_by false = faults_of_links
faults_by true = faults_together

-- the verdict with the number of beats, if none is at fault
abbrev pub said_by : Bool → ℕ → List ℕ
said_by false = clean_text
said_by true = coherent_text

-- a trace is judged so, all links together or each by itself
abbrev pub JudgedSo : Bool → List (List ℕ) → List ℕ → Status → Type 0
JudgedSo together = JudgedBy SpellsHeader (faults_by together) (said_by together)
