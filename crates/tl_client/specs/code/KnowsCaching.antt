-- What a caching client knows of its end of the link.
use Rattle.std.specs.Prelude.{ℕ, Bool, false, ◌≡◌, ◌==◌, Option, Some, None, Result, Ok, Err}
use Rattle.tl_beat.specs.declared.channel.Channel.TheVariants as channel
use Rattle.tl_burst.specs.statement.Messages.{History, unfinished}
use Rattle.tl_params.specs.declared.config.ClientConfig.{ClientConfig}
use Rattle.tl_params.specs.declared.config.NewFault.{NewFault}
use Rattle.tl_params.specs.declared.profile.Profile.{Profile}
use Rattle.tl_params.specs.statement.Config.{client_fault}
use Rattle.tl_rules.specs.statement.Conformance.{comes_in_grant}
use Rattle.tl_rules.specs.statement.History.{held}
use Rattle.tl_client.specs.declared.caching.Caching.{Caching}
use Rattle.tl_client.specs.declared.caching.Granting.{Granting}
use Rattle.tl_client.specs.laws.Accounted.{IsAccounted, comes_granting}
use Rattle.tl_client.specs.statement.Endpoint.{EndConfig, Endpoint, fresh}
use Rattle.tl_client.specs.statement.Fault.{IsFault}
use Rattle.tl_client.specs.laws.Inside.{IsInside}
use Rattle.tl_client.specs.statement.EndpointInvariant.{IsEndpointInvariant}
use Rattle.tl_client.specs.statement.Requests.{open_beat, open_release, fields_of, release_fields}
use Rattle.tl_client.specs.code.Sources.{open_at}
use Rattle.tl_client.specs.code.Table.{held_in, copy_in, waiting_in}

-- what a caching client was made for
abbrev pub caching_terms : {w : ℕ} → Caching w → EndConfig
caching_terms c = record { level = c.config.level; profile = c.profile; sources = c.config.sources; blocks = c.blocks }

-- the Grant that is unfinished is one of the block, or has this sink
abbrev pub is_granting : ℕ → Option Granting → Bool
is_granting k None = false
is_granting k (Some g) = g.block == k

abbrev pub has_sink : ℕ → Option Granting → Bool
has_sink s None = false
has_sink s (Some g) = g.sink == s

-- A caching client knows this end of its link: it keeps what is held of each block with its bytes, the
-- open requests and Releases, the unfinished response, and the mark of a refusal.
pub record KnowsCaching {w : ℕ} (c : Caching w) (e : Endpoint w) : Type 0 where
  pub closed_is : c.closed ≡ e.closed
  pub held_is : (k : ℕ) → held_in c.table k ≡ held k e.past
  pub copies_are : (k : ℕ) → copy_in c.table k ≡ e.copies k
  pub waiting_are : (k : ℕ) → waiting_in c.table k ≡ e.waiting k
  pub requests_are : (s : ℕ) → open_at c.requests s ≡ fields_of (open_beat s e.past)
  pub releases_are : (s : ℕ) → open_at c.releases s ≡ release_fields (open_release s e.past)
  pub response_is : c.responses ≡ unfinished channel.D e.past
  pub granting_is : (k : ℕ) → is_granting k c.granting ≡ comes_granting k (unfinished channel.D e.past) e.past
  pub sink_is : (s : ℕ) → has_sink s c.granting ≡ comes_in_grant s (unfinished channel.D e.past)
  -- what its calls keep
  pub kept : IsEndpointInvariant e
  pub accounted : IsAccounted e.past
  pub inside : IsInside (caching_terms c) e.past

-- what a new caching client is, or why there is none
abbrev pub IsNewCaching : {w : ℕ} → ClientConfig → ℕ → Profile → Result (Caching w) NewFault → Type 0
IsNewCaching config blocks profile (Ok c) =
    (client_fault config blocks ≡ None)
    × KnowsCaching c fresh
    × (caching_terms c ≡ record { level = config.level; profile = profile; sources = config.sources; blocks = blocks })
IsNewCaching config blocks profile (Err f) = IsFault (client_fault config blocks) f

-- it knows an end with this history
abbrev pub KnowsCachingPast : {w : ℕ} → Caching w → History w → Type 0
KnowsCachingPast {w} c t = (e : Endpoint w) × KnowsCaching c e × (e.past ≡ t)
