-- All clients' sources, as a test and as a fact of each.
use Rattle.std.proofs.Common.{◌≡◌, ◌↔◌, Bool, true, List, refl}
use Rattle.std.specs.Prelude.{All}
use Rattle.std.proofs.lemmas.Bool.Decides.{same_from_decides, Decides-by_and}
use Rattle.tl_params.specs.declared.config.ClientConfig.{ClientConfig}
use Rattle.tl_params.specs.statement.Config.{sources_fit, all_sources_fit}

pub fit_where_each : (r : Bool) (clients : List ClientConfig)
    → ((r ≡ true) ↔ All (λ client. sources_fit client ≡ true) clients) → r ≡ all_sources_fit clients
fit_where_each r clients is =
    same_from_decides r (all_sources_fit clients) (is.0, is.1)
    (Decides-by_and sources_fit (λ client. sources_fit client ≡ true) all_sources_fit (λ client. (λ e. e, λ e. e)) refl
    (λ _ _. refl) clients)
