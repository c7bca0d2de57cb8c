-- What an explanation starts from: what the first reading found.
use Rattle.std.specs.Prelude.{◌≡◌, ℕ, ◌+◌, List, Option, Some, None, ⊤}
use Rattle.tl_beat.specs.declared.fault.LineFault.TheVariants.{F1}
use Rattle.tl_explain.specs.declared.told.Spelling.{Spelling}
use Rattle.tl_reasons.specs.declared.examiner.Found.{Found}
use Rattle.tl_lines.specs.declared.fault.Fault.{Fault}
use Rattle.tl_lines.specs.declared.fault.Fault.TheVariants.{Header as NoHeader, Line}
use Rattle.tl_lines.specs.declared.links_header.LinksHeader.{LinksHeader}
use Rattle.tl_params.specs.declared.liberties.Liberties.{Liberties}
use Rattle.tl_lines.specs.declared.status.Status.{Status}
use Rattle.tl_lines.specs.declared.status.Status.TheVariants.{Clean, Broken}
use Rattle.tl_reasons.specs.statement.Explained.{ExplainsFault}
use Rattle.tl_lines.specs.statement.Fault.{fault_text}

-- what the line after a header and the good lines is at fault for
abbrev pub fault_behind : Option (Fault × Spelling) → Fault
fault_behind None = Line F1
fault_behind (Some fault) = fault.0

-- what was found at fault
abbrev pub fault_in : Option LinksHeader → Option (Fault × Spelling) → Fault
fault_in None fault = NoHeader
fault_in (Some header) fault = fault_behind fault

abbrev pub fault_of : Found → Fault
fault_of found = fault_in found.header found.fault

-- the verdict is the one that was found
abbrev pub IsVerdict : Found → Status → List ℕ → Type 0
IsVerdict found Clean verdict = ⊤
IsVerdict found Broken verdict = verdict ≡ fault_text (found.good + 1) (fault_of found)

-- what was read, and the text after the verdict, explain what was found after a header
abbrev pub ExplainsFound : Liberties → Option (List ℕ) → Option (List ℕ) → ℕ → Option (Fault × Spelling) → List ℕ
    → Status → Type 0
ExplainsFound allow old new good fault reasons Clean = ⊤
ExplainsFound allow old new good fault reasons Broken =
    ExplainsFault allow old new (good + 1) reasons (fault_behind fault)

-- what was read, and the text after the verdict, explain what was found
abbrev pub ExplainsStatus : Liberties → Option (List ℕ) → Option (List ℕ) → Found → List ℕ → Status → Type 0
ExplainsStatus allow old new found reasons Clean = ⊤
ExplainsStatus allow old new found reasons Broken =
    ExplainsFault allow old new (found.good + 1) reasons (fault_of found)
