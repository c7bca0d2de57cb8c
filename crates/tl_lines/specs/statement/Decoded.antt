-- The text that lines with beats of w bytes decode to.
use Rattle.std.specs.Prelude.{Bool, ◌==◌, ◌||◌, ◌≡◌, ◌⊎◌, ℕ, ◌+◌, List, [], ◌∷◌, ◌++◌, length, Some}
use Rattle.tl_beat.specs.declared.beat.Link.{Link}
use Rattle.tl_beat.specs.declared.beat.Beat.{Beat}
use Rattle.tl_beat.specs.declared.fault.LineFault.{LineFault}
use Rattle.tl_beat.specs.statement.Line.{Spells, line_fault}
use Rattle.tl_lines.specs.declared.fault.Fault.TheVariants.{Line}
use Rattle.tl_lines.specs.declared.status.Status.{Status}
use Rattle.tl_lines.specs.declared.status.Status.TheVariants.{Clean, Broken}
use Rattle.tl_lines.specs.statement.Fault.{fault_text}
use Rattle.tl_explain.specs.statement.Text.{text_of}

-- The text and status of these lines, the first of which has the number n. A line that spells a beat has a readable
-- line. The first line at fault has `line N X`, which ends the text.
unfoldable pub Decodes : ℕ → ℕ → List (List ℕ) → List ℕ → Status → Type 0
Decodes w n [] text status = (text ≡ []) × (status ≡ Clean)
Decodes w n (line ∷ lines) text status =
    ((link : Link) × (beat : Beat w) × (rest : List ℕ) × Spells line link beat × (text ≡ text_of link beat ++ rest)
    × Decodes w (n + 1) lines rest status)
    ⊎ ((fault : LineFault) × (line_fault w line ≡ Some fault) × (text ≡ fault_text n (Line fault)) × (status ≡ Broken))

-- the text and status of a whole input
abbrev pub DecodesTo : ℕ → List (List ℕ) → List ℕ → Status → Type 0
DecodesTo w lines text status = Decodes w 1 lines text status

-- these lines have no fault and this text, and the text of more lines follows it
abbrev pub DecodesBefore : ℕ → List (List ℕ) → List ℕ → Type 0
DecodesBefore w lines text =
    (more : List (List ℕ)) (rest : List ℕ) (status : Status) → Decodes w (length lines + 1) more rest status
    → Decodes w 1 (lines ++ more) (text ++ rest) status

-- a beat has 4, 8 or 16 bytes
abbrev pub is_width : ℕ → Bool
is_width w = (w == 4) || ((w == 8) || (w == 16))
