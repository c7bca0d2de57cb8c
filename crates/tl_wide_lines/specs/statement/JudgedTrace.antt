-- The verdict on a trace with a header of any version. A wide trace has the verdict on the trace that it becomes.
use Rattle.std.specs.Prelude.{◌≡◌, ◌⊎◌, ◌+◌, ◌-◌, ◌++◌, ℕ, Bool, true, false, List, [], ◌∷◌, length, Option, Some, None}
use Rattle.std.specs.Prelude.{option_map}
use Rattle.tl_beat.specs.declared.fault.LineFault.{LineFault}
use Rattle.tl_lines.specs.statement.JudgedSo.{said_by}
use Rattle.tl_lines.specs.declared.fault.Fault.{Fault}
use Rattle.tl_lines.specs.declared.fault.Fault.TheVariants as fault
use Rattle.tl_lines.specs.declared.status.Status.{Status}
use Rattle.tl_lines.specs.declared.status.Status.TheVariants.{Clean, Broken}
use Rattle.tl_lines.specs.statement.Coherent.{fault_of_breach}
use Rattle.tl_lines.specs.statement.Fault.{fault_text}
use Rattle.tl_lines.specs.statement.JudgedLinks.{JudgedLinks}
use Rattle.tl_params.specs.declared.level.Level.{Level}
use Rattle.tl_params.specs.declared.liberties.Liberties.{Liberties}
use Rattle.tl_together.specs.declared.breach.Breach.{Breach}
use Rattle.tl_together.specs.statement.Coherence.{first_breach}
use Rattle.tl_wide.specs.declared.width.WideWidth.{WideWidth}
use Rattle.tl_wide.specs.statement.Line.{WideSpells, wide_line_fault}
use Rattle.tl_wide.specs.statement.Naming.{WideTrace}
use Rattle.tl_wide.specs.statement.Narrowed.{narrowed}
use Rattle.tl_wide.specs.statement.Verdict.{Beyond, Breaks, WideFault, fault_of_parts, first_wide_fault, joined}
use Rattle.tl_wide.specs.statement.Width.{wide_bytes_of}
use Rattle.tl_wide_lines.specs.statement.WideHeader.{NamesWide}

-- ---- the first fault of a wide trace

-- the place and the fault of the first wide beat at fault if all links are judged together: the first breach of the
-- trace that the wide one becomes, at the wide beat whose part it is, or too many names
abbrev pub first_wide_breach : {w : ℕ} → List Level → Liberties → WideTrace w → Option (ℕ × WideFault Breach)
first_wide_breach levels may trace =
    fault_of_parts (narrowed trace) (length trace) (first_breach levels may (joined (narrowed trace)))

-- the fault of a wide beat by name: the rule that a part breaks, or F9
abbrev pub wide_fault_shown : {R : Type 0} → (R → Fault) → WideFault R → Fault
wide_fault_shown shown (Breaks rule) = shown rule
wide_fault_shown shown Beyond = fault.Beyond

-- the same with the place of the beat
abbrev pub wide_fault_at : {R : Type 0} → (R → Fault) → Option (ℕ × WideFault R) → Option (ℕ × Fault)
wide_fault_at shown found = option_map (λ x. (x.0, wide_fault_shown shown x.1)) found

-- the first fault of a wide trace, with its links judged together or each by itself
abbrev pub first_fault_of : {w : ℕ} → Bool → Liberties → List Level → WideTrace w → Option (ℕ × Fault)
first_fault_of true may levels trace = wide_fault_at fault_of_breach (first_wide_breach levels may trace)
first_fault_of false may levels trace = wide_fault_at fault.Rule (first_wide_fault may levels trace)

-- ---- its lines

-- the lines begin with those of these wide beats, the next first, and end with the rest
unfoldable pub BeginWith : {w : ℕ} → WideTrace w → List (List ℕ) → List (List ℕ) → Type 0
BeginWith [] lines rest = lines ≡ rest
BeginWith (x ∷ trace) [] rest = ⊥
BeginWith (x ∷ trace) (line ∷ lines) rest = WideSpells line x.0 x.1 × BeginWith trace lines rest

-- The text and the status for `count` wide beats of w bytes with this first fault, and for the lines after them. The
-- header is line 1, and the first beat line 2. If no beat is at fault, the next line, if there is one, spells no wide
-- beat and is at fault itself.
abbrev pub SaidOf : ℕ → Bool → ℕ → Option (ℕ × Fault) → List (List ℕ) → List ℕ → Status → Type 0
SaidOf w together count (Some found) rest text status =
    (text ≡ fault_text (found.0 + 2) found.1) × (status ≡ Broken)
SaidOf w together count None [] text status = (text ≡ said_by together count) × (status ≡ Clean)
SaidOf w together count None (line ∷ rest) text status =
    (of_line : LineFault) × (wide_line_fault w line ≡ Some of_line)
    × (text ≡ fault_text (count + 2) (fault.Line of_line)) × (status ≡ Broken)

-- The text and the status of the lines after a header of the fifth version, by the wide trace with which they begin.
pub record JudgedWide (w : ℕ) (together : Bool) (may : Liberties) (levels : List Level) (lines : List (List ℕ))
    (text : List ℕ) (status : Status) : Type 0 where
  pub trace : WideTrace w
  pub rest : List (List ℕ)
  pub begins : BeginWith trace lines rest
  pub said : SaidOf w together (length trace) (first_fault_of together may levels trace) rest text status

-- ---- a trace of any version

-- The text and the status of a trace, with its links judged together or each by itself. The links have the liberties
-- that the header names and those that are allowed.
abbrev pub JudgedTrace : Bool → Liberties → List (List ℕ) → List ℕ → Status → Type 0
JudgedTrace together allow [] text status = JudgedLinks together allow [] text status
JudgedTrace together allow (line ∷ lines) text status =
    ((width : WideWidth) × (may : Liberties) × (levels : List Level) × NamesWide allow line width may
    levels
    × JudgedWide (wide_bytes_of width) together may levels lines text status)
    ⊎ (((width : WideWidth) (may : Liberties) (levels : List Level)
    → ¬ NamesWide allow line width may levels)
    × JudgedLinks together allow (line ∷ lines) text status)

-- the text for these lines before the end of the input, if none is at fault
abbrev pub TraceSoFar : Bool → Liberties → List (List ℕ) → List ℕ → Type 0
TraceSoFar together allow lines text =
    ((lines ≡ []) × (text ≡ []))
    ⊎ JudgedTrace together allow lines (text ++ said_by together (length lines - 1)) Clean
