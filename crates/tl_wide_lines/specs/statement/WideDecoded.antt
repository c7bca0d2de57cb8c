-- The text that lines of wide beats of w bytes decode to.
use Rattle.std.specs.Prelude.{◌≡◌, ℕ, ◌+◌, List, [], ◌∷◌, ◌++◌, length, Some}
use Rattle.std.specs.List.{flat_map}
use Rattle.tl_beat.specs.declared.fault.LineFault.{LineFault}
use Rattle.tl_lines.specs.declared.fault.Fault.TheVariants.{Line}
use Rattle.tl_lines.specs.declared.status.Status.{Status}
use Rattle.tl_lines.specs.declared.status.Status.TheVariants.{Clean, Broken}
use Rattle.tl_lines.specs.statement.Fault.{fault_text}
use Rattle.tl_wide.specs.statement.Line.{wide_line_fault}
use Rattle.tl_wide.specs.statement.Naming.{WideTrace}
use Rattle.tl_wide_lines.specs.statement.JudgedTrace.{BeginWith}
use Rattle.tl_wide_lines.specs.statement.WideText.{wide_text_of}

-- the readable lines of wide beats
abbrev pub wide_texts : {w : ℕ} → WideTrace w → List ℕ
wide_texts trace = flat_map (λ x. wide_text_of x.0 x.1) trace

-- The text and the status after the lines of `count` wide beats. If no line follows there is no text. The next line, if
-- there is one, spells no wide beat, and has `line N X`, which ends the text.
abbrev pub EndsDecoded : ℕ → ℕ → List (List ℕ) → List ℕ → Status → Type 0
EndsDecoded w count [] text status = (text ≡ []) × (status ≡ Clean)
EndsDecoded w count (line ∷ rest) text status =
    (fault : LineFault) × (wide_line_fault w line ≡ Some fault) × (text ≡ fault_text (count + 1) (Line fault))
    × (status ≡ Broken)

-- The text and the status of these lines: readable lines of the wide beats with which they begin, and then the ending.
pub record DecodedWide (w : ℕ) (lines : List (List ℕ)) (text : List ℕ) (status : Status) : Type 0 where
  pub trace : WideTrace w
  pub rest : List (List ℕ)
  pub begins : BeginWith trace lines rest
  pub ending : List ℕ
  pub ends : EndsDecoded w (length trace) rest ending status
  pub said : text ≡ wide_texts trace ++ ending

-- the text for these lines before the end of the input, if none is at fault
abbrev pub DecodedSoFar : ℕ → List (List ℕ) → List ℕ → Type 0
DecodedSoFar w lines text = DecodedWide w lines text Clean
