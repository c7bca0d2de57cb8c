-- What a client of any level knows of its end of the link.
use Rattle.std.specs.Prelude.{ℕ, ◌≡◌, None, Result, Ok, Err}
use Rattle.tl_params.specs.declared.config.ClientConfig.{ClientConfig}
use Rattle.tl_params.specs.declared.config.NewFault.{NewFault}
use Rattle.tl_params.specs.declared.profile.Profile.{Profile}
use Rattle.tl_params.specs.statement.Config.{client_fault}
use Rattle.tl_client.specs.declared.any.AnyClient.{AnyClient}
use Rattle.tl_client.specs.declared.any.AnyClient.TheVariants as any
use Rattle.tl_client.specs.statement.Endpoint.{EndConfig, Endpoint, fresh}
use Rattle.tl_client.specs.statement.Fault.{IsFaultAt}
use Rattle.tl_client.specs.code.KnowsCaching.{KnowsCaching, caching_terms}
use Rattle.tl_client.specs.code.KnowsPlain.{KnowsPlain, plain_terms}

abbrev pub any_terms : {w : ℕ} → AnyClient w → EndConfig
any_terms (any.Caching c) = caching_terms c
any_terms (any.Plain p) = plain_terms p

abbrev pub KnowsAny : {w : ℕ} → AnyClient w → Endpoint w → Type 0
KnowsAny (any.Caching c) e = KnowsCaching c e
KnowsAny (any.Plain p) e = KnowsPlain p e

-- what a new client is, or why there is none
abbrev pub IsNewAny : {w : ℕ} → ClientConfig → ℕ → Profile → Result (AnyClient w) NewFault → Type 0
IsNewAny config blocks profile (Ok c) =
    (client_fault config blocks ≡ None)
    × KnowsAny c fresh
    × (any_terms c ≡ record { level = config.level; profile = profile; sources = config.sources; blocks = blocks })
IsNewAny config blocks profile (Err f) = IsFaultAt config.level (client_fault config blocks) f
