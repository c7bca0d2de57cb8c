-- The clients that are made of a configuration.
use Rattle.std.specs.Prelude.{ℕ, List, ◌≡◌, ◌<◌, length, slice_index_or, Some}
use Rattle.tl_params.specs.declared.config.ClientConfig.{ClientConfig}
use Rattle.tl_params.specs.declared.config.Config.{Config}
use Rattle.tl_params.specs.declared.profile.Profile.{Profile}
use Rattle.tl_client.specs.statement.Endpoint.{EndConfig, Endpoint}
use Rattle.tl_client.specs.statement.Endpoint as client
use Rattle.tl_coherence.specs.statement.System.{terms_at}

-- a new client of such a link
pub record IsHired {w : ℕ} {A : Type 0} (knows : A → Endpoint w → Type 0) (terms : A → EndConfig)
    (config : ClientConfig) (blocks : ℕ) (profile : Profile) (agent : A) : Type 0 where
  pub fresh : knows agent client.fresh
  pub terms_are : terms agent ≡ record {
    level = config.level;
    profile = profile;
    sources = config.sources;
    blocks =
        blocks;
  }

-- the first n clients of a configuration
pub record AreMade {w : ℕ} {A : Type 0} (knows : A → Endpoint w → Type 0) (terms : A → EndConfig) (config : Config)
    (n : ℕ) (agents : List A) : Type 0 where
  pub so_many : length agents ≡ n
  pub fresh : (k : ℕ) (d : A) → k < n → knows (slice_index_or agents k d) client.fresh
  pub terms_are : (k : ℕ) (d : A) → k < n → terms_at config k ≡ Some (terms (slice_index_or agents k d))
