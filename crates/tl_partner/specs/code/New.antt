-- A new manager whose clients have liberties.
use Rattle.std.specs.Prelude.{ℕ, List, Result, Ok, Err, ◌≡◌}
use Rattle.tl_beat.specs.declared.beat.Beat.{Beat}
use Rattle.tl_params.specs.declared.config.Config.{Config}
use Rattle.tl_params.specs.declared.config.NewFault.{NewFault}
use Rattle.tl_params.specs.declared.perm.Perm.{Perm}
use Rattle.tl_manager.specs.code.Fresh.{IsNew}
use Rattle.tl_manager.specs.code.Knows.{Knows}
use Rattle.tl_manager.specs.declared.manager.state.ManagerState.{ManagerState}
use Rattle.tl_manager.specs.statement.End.{fresh}
use Rattle.tl_partner.specs.code.Cleanings.{KnowsPartner}
use Rattle.tl_partner.specs.declared.terms.Terms.{Terms}
use Rattle.tl_partner.specs.statement.Cleaning.{fresh_partner}

-- its manager has taken and handed out nothing, and it has these terms; or why there is none
abbrev pub IsNewLenient : {w : ℕ} {M P : Type 0} → (M → ℕ → ℕ → Perm) → (P → ManagerState w M) → (P → Terms) → Config
    → Terms → Result P NewFault → Type 0
IsNewLenient perm_of manager_of terms_of config terms (Ok lenient) =
    Knows perm_of (manager_of lenient) config fresh × (terms_of lenient ≡ terms)
IsNewLenient {w} perm_of manager_of terms_of config terms (Err fault) = IsNew {w = w} perm_of config (Err fault)

abbrev pub IsNewPartner : {w : ℕ} {M P : Type 0} → (M → ℕ → ℕ → Perm) → (P → ManagerState w M)
    → (P → List (List (Beat w))) → (P → Terms) → Config → Terms → Result P NewFault → Type 0
IsNewPartner perm_of manager_of cleanings_of terms_of config terms (Ok partner) =
    KnowsPartner perm_of (manager_of partner) (cleanings_of partner) config (fresh_partner config) × (terms_of partner
    ≡ terms)
IsNewPartner {w} perm_of manager_of cleanings_of terms_of config terms (Err fault) =
    IsNew {w = w} perm_of config (Err fault)
