-- What was given up while the liberties were written that would allow what was found.
use Rattle.std.proofs.Common.{◌≡◌, ◌++◌, ◌∙◌, List, [], ℕ, ap, subst, inr}
use Rattle.std.specs.Prelude.{Option, Err}
use Rattle.tl_lines.specs.statement.Parts.{AppendsShort}
use Rattle.tl_lines.specs.declared.status.ToolFault.{ToolFault}
use Rattle.tl_lines.specs.declared.status.ToolFault.TheVariants.{Write}
use Rattle.tl_lines.specs.statement.Exit.{exit_status}
use Rattle.tl_links.specs.statement.Allowed.{FindsAllowed, allowed_line}
use Rattle.tl_params.specs.declared.liberties.Liberties.{Liberties}
use Rattle.tl_params.specs.declared.liberties.Liberty.{Liberty}
use Rattle.tltool.specs.Ended.{EndsAllowed}

pub ends_short : (explained : ℕ) (allow : Liberties) (had left held holds : Option (List ℕ)) (was text bytes : List ℕ)
    (fault : ToolFault) (status : ℕ) → was ≡ []
    → ((allowing : List Liberty) × FindsAllowed allow had left allowing × (text ≡ was ++ allowed_line allowing))
    → bytes ≡ text → AppendsShort held holds bytes → fault ≡ Write → status ≡ exit_status (Err fault)
    → EndsAllowed explained allow had left held holds status
ends_short explained allow had left held holds was text bytes fault status empty (allowing, finds, made) same short failed told =
    inr (
      Write,
      (allowing, finds, subst (AppendsShort held holds) (same ∙ made ∙ ap (λ it. it ++ allowed_line allowing) empty) short),
      told ∙ ap (λ it. exit_status (Err it)) failed,
    )
