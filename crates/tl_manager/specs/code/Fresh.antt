-- A manager that has taken nothing.
use Rattle.std.specs.Prelude.{ℕ, [], false, Some, None, Result, Ok, Err, ◌≡◌, ◌⊎◌}
use Rattle.tl_params.specs.declared.config.Config.{Config}
use Rattle.tl_params.specs.declared.config.NewFault.{NewFault}
use Rattle.tl_params.specs.declared.config.NewFault.TheVariants.{Memory}
use Rattle.tl_params.specs.declared.level.Level.{Level}
use Rattle.tl_params.specs.declared.perm.Perm.{Perm}
use Rattle.tl_params.specs.statement.Config.{config_fault}
use Rattle.tl_manager.specs.code.Knows.{Knows}
use Rattle.tl_manager.specs.statement.End.{fresh}
use Rattle.tl_manager.specs.declared.manager.state.ManagerState.{ManagerState}
use Rattle.tl_manager.specs.declared.manager.link_state.LinkState.{LinkState}

abbrev pub fresh_link_state : {w : ℕ} → Level → LinkState w
fresh_link_state level = record { level = level; requests = []; reports = []; closed = false }

-- what is made of a configuration, or why nothing was made
abbrev pub IsNew : {w : ℕ} {M : Type 0} → (M → ℕ → ℕ → Perm) → Config → Result (ManagerState w M) NewFault → Type 0
IsNew perm_of config (Ok state) = Knows perm_of state config fresh
IsNew perm_of config (Err fault) = (config_fault config ≡ Some fault)
    ⊎ ((config_fault config ≡ None) × (fault ≡ Memory))
