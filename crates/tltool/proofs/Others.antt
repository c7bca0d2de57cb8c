-- Commands but `monitor`, `coherent` and `explain` say what the engine has them say.
use Rattle.std.proofs.Common.{◌≡◌, List, ℕ, refl}
use Rattle.std.specs.Prelude.{Bool, Option, Result}
use Rattle.tl_command.specs.declared.command.Command.{Command}
use Rattle.tl_command.specs.declared.command.Command.TheVariants.{Coherent, Decode, Explain, Monitor, Run}
use Rattle.tl_lines.specs.declared.status.Status.{Status}
use Rattle.tl_lines.specs.declared.status.ToolFault.{ToolFault}
use Rattle.tl_lines.specs.statement.Exit.{exit_status}
use Rattle.tl_engine.specs.statement.Told.{text_so_far, text_told}
use Rattle.tl_params.specs.declared.liberties.Liberties.{Liberties}
use Rattle.tltool.specs.Ended.{EndsAs, IsOutcome}

pub ends_other : (command : Command) (allow : Liberties) (outcome : Result Status ToolFault) (had left held holds : Option (List ℕ))
    (status : ℕ) → (command ≡ Monitor → ⊥) → (command ≡ Coherent → ⊥)
    → ((together : Bool) → command ≡ Explain together → ⊥) → status ≡ exit_status outcome
    → IsOutcome (text_told command) (text_so_far command) had left held holds outcome
    → EndsAs command allow had left held holds status
ends_other Monitor allow outcome had left held holds status other coherent explain same so = absurd (other refl)
ends_other (Decode width) allow outcome had left held holds status other coherent explain same so = (outcome, same, so)
ends_other Coherent allow outcome had left held holds status other coherent explain same so = absurd (coherent refl)
ends_other (Explain together) allow outcome had left held holds status other coherent explain same so =
    absurd (explain together refl)
ends_other (Run trace) allow outcome had left held holds status other coherent explain same so = (outcome, same, so)
