-- A client's requests, permissions and sources fit its level, its map and its number of sources.
use Rattle.std.specs.Prelude.{ℕ, Bool, true, not, ◌≡◌, ◌<◌, ◌&&◌, nat_le}
use Rattle.tl_burst.specs.statement.Messages.{History}
use Rattle.tl_params.specs.declared.key.Key.TheVariants.{RequestSource, ReleaseSource}
use Rattle.tl_rules.specs.statement.History.{pending, held}
use Rattle.tl_rules.specs.statement.Legality.{has_transfers}
use Rattle.tl_client.specs.statement.Endpoint.{EndConfig}
use Rattle.tl_client.specs.statement.EndpointInvariant.{acquires, holds}
use Rattle.tl_client.specs.statement.Requests.{open_beat}

-- the client may hold the block: its level has transfers, and the block is in the map
abbrev pub is_holdable : EndConfig → ℕ → Bool
is_holdable terms k = has_transfers terms.level && not (nat_le terms.blocks k)

-- the client asks for and holds only blocks that it may hold, and uses only its own sources
pub record IsInside {w : ℕ} (terms : EndConfig) (t : History w) : Type 0 where
  pub acquires_inside : (s k : ℕ) → acquires k (open_beat s t) ≡ true → is_holdable terms k ≡ true
  pub holds_inside : (k : ℕ) → holds (held k t) ≡ true → is_holdable terms k ≡ true
  pub requests_below : (s : ℕ) → pending (RequestSource s) t ≡ true → s < terms.sources
  pub releases_below : (s : ℕ) → pending (ReleaseSource s) t ≡ true → s < terms.sources
