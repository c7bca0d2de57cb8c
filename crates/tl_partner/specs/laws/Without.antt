-- Terms without liberties.
use Rattle.std.specs.Prelude.{false, ◌≡◌}
use Rattle.tl_partner.specs.declared.terms.Terms.{Terms}

-- none of the liberties of a partner is granted
pub record GrantsNone (terms : Terms) : Type 0 where
  pub ids : terms.ids ≡ false
  pub drops : terms.drops ≡ false
  pub reports : terms.reports ≡ false
