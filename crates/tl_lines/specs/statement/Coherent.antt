-- The judgement of a trace of all links of a manager together.
use Rattle.std.specs.Prelude.{ℕ, List, ◌++◌, codes, option_map}
use Rattle.std.specs.Fmt.{decimal}
use Rattle.tl_params.specs.statement.Liberties.{liberties_of}
use Rattle.tl_together.specs.declared.breach.Breach.{Breach}
use Rattle.tl_together.specs.declared.breach.Breach.TheVariants.{OfLink, OfMemory}
use Rattle.tl_together.specs.statement.Coherence.{broken_together}
use Rattle.tl_lines.specs.declared.fault.Fault.{Fault}
use Rattle.tl_lines.specs.declared.fault.Fault.TheVariants.{Rule as Breaks, MemoryRule}
use Rattle.tl_lines.specs.declared.status.Status.{Status}
use Rattle.tl_lines.specs.statement.Judged.{Faults, JudgedBy}
use Rattle.tl_lines.specs.statement.Trace.{SpellsHeader}

-- `coherent N`: none of N beats is at fault
unfoldable pub coherent_text : ℕ → List ℕ
coherent_text n = codes "coherent " ++ decimal n ++ codes "\n"

-- the fault of a beat that breaks this rule
abbrev pub fault_of_breach : Breach → Fault
fault_of_breach (OfLink rule) = Breaks rule
fault_of_breach (OfMemory rule) = MemoryRule rule

-- A beat is at fault for the first rule that it breaks after the earlier beats of all links. The rules of its own link
-- come before those of memory.
abbrev pub faults_together : Faults
faults_together w levels p x t = option_map fault_of_breach (broken_together levels (liberties_of p) x t)

-- the text and status of a trace that is judged with all links together
abbrev pub JudgedTogether : List (List ℕ) → List ℕ → Status → Type 0
JudgedTogether = JudgedBy SpellsHeader faults_together coherent_text
