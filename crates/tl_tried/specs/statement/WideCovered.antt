-- The situations of a trace with a header of any version. Those of a wide trace are those of the trace that it becomes.
use Rattle.std.specs.Prelude.{◌≡◌, ◌⊎◌, ◌+◌, ◌-◌, ℕ, false, List, [], ◌∷◌, map, Option, Some, None, option_map, ⊤}
use Rattle.tl_beat.specs.declared.fault.LineFault.{LineFault}
use Rattle.tl_cover.specs.declared.row.Row.{Row}
use Rattle.tl_lines.specs.declared.fault.Fault.{Fault}
use Rattle.tl_lines.specs.statement.JudgedLinks.{faults_by}
use Rattle.tl_params.specs.declared.level.Level.{Level}
use Rattle.tl_params.specs.declared.liberties.Liberties.{Liberties}
use Rattle.tl_rules.specs.statement.Conformance.{Trace}
use Rattle.tl_tried.specs.statement.Covered.{AreCovered, Found, found_of}
use Rattle.tl_wide.specs.declared.width.WideWidth.{WideWidth}
use Rattle.tl_wide.specs.statement.Line.{wide_line_fault}
use Rattle.tl_wide.specs.statement.Naming.{WideTrace}
use Rattle.tl_wide.specs.statement.Narrowed.{narrowed}
use Rattle.tl_wide.specs.statement.Verdict.{joined, owner}
use Rattle.tl_wide.specs.statement.Width.{wide_bytes_of}
use Rattle.tl_wide_lines.specs.statement.JudgedTrace.{BeginWith, first_fault_of}
use Rattle.tl_wide_lines.specs.statement.PartFaults.{unless_fault}
use Rattle.tl_wide_lines.specs.statement.WideHeader.{NamesWide}

-- ---- a wide trace

-- The line of the wide beat whose part has this line in the trace of the parts. Line 1 of both traces is the header.
abbrev pub wide_line : {w : ℕ} → List (Trace w) → ℕ → ℕ
wide_line parts line = owner parts (line - 2) + 2

-- a situation of the trace of the parts, with the line of the wide beat in which it first came
abbrev pub at_wide_line : {w : ℕ} → List (Trace w) → Row → Row
at_wide_line parts r = record {
  situation = r.situation;
  count = r.count;
  first = option_map (wide_line parts) r.first;
}

-- the same of all situations; the counts of bins have no lines
abbrev pub at_wide_lines : {w : ℕ} → List (Trace w) → Found → Found
at_wide_lines parts found = (map (at_wide_line parts) found.0, found.1)

-- the beats of t, and after them those of a trace before the first that is at fault; the newest beat of t is first, and
-- so is the next of the trace
unfoldable pub before_fault : {w : ℕ} → List Level → Liberties → Trace w → Trace w → Trace w
before_fault levels may [] t = t
before_fault {w} levels may (x ∷ trace) t =
    unless_fault (faults_by false w levels may x t) t (before_fault levels may trace (x ∷ t))

-- the situations and the counts of the trace that a wide trace becomes, up to its first beat at fault
abbrev pub wide_found : {w : ℕ} → List Level → Liberties → WideTrace w → Found
wide_found levels may trace =
    at_wide_lines (narrowed trace) (found_of may levels (before_fault levels may (joined (narrowed trace)) []))

-- ---- its lines

-- A beat is at fault; or none is, and the next line, if there is one, spells no wide beat of w bytes.
abbrev pub StopsBefore : ℕ → Option (ℕ × Fault) → List (List ℕ) → Type 0
StopsBefore w (Some found) rest = ⊤
StopsBefore w None [] = ⊤
StopsBefore w None (line ∷ rest) = (of_line : LineFault) × (wide_line_fault w line ≡ Some of_line)

-- The situations and counts of the lines after a header of the fifth version, by the wide trace with which they begin.
pub record CoveredWide (w : ℕ) (may : Liberties) (levels : List Level) (lines : List (List ℕ)) (found : Found) : Type 0
  where
    pub trace : WideTrace w
    pub rest : List (List ℕ)
    pub begins : BeginWith trace lines rest
    pub stops : StopsBefore w (first_fault_of false may levels trace) rest
    pub are : found ≡ wide_found levels may trace

-- ---- a trace of any version

-- The situations and counts of a trace, on links with the liberties that its header names and those that are allowed.
-- There are none if the first line is no header or is missing.
abbrev pub TraceCovered : Liberties → List (List ℕ) → Found → Type 0
TraceCovered allow [] found = AreCovered allow [] found
TraceCovered allow (line ∷ lines) found =
    ((width : WideWidth) × (may : Liberties) × (levels : List Level) × NamesWide allow line width may levels
    × CoveredWide (wide_bytes_of width) may levels lines found)
    ⊎ (((width : WideWidth) (may : Liberties) (levels : List Level)
    → ¬ NamesWide allow line width may levels)
    × AreCovered allow (line ∷ lines) found)
