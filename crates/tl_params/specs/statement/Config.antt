-- The limits of a configuration, and the first limit that a configuration breaks.
use Rattle.std.specs.Prelude.{ℕ, Bool, true, not, List, [], ◌∷◌, ◌≤◌, ◌&&◌, if◌then◌else◌, length, Option, Some, None}
use Rattle.tl_params.specs.declared.config.ClientConfig.{ClientConfig}
use Rattle.tl_params.specs.declared.config.Config.{Config}
use Rattle.tl_params.specs.declared.config.NewFault.{NewFault}
use Rattle.tl_params.specs.declared.config.NewFault.TheVariants as fault
use Rattle.tl_params.specs.statement.Range.{is_from_to}

-- a manager has 1 to 16 links
abbrev pub IsCount : ℕ → Type 0
IsCount n = (1 ≤ n) × (n ≤ 16)

-- a configuration has 1 to 16 clients
abbrev pub clients_fit : Config → Bool
clients_fit config = is_from_to 1 16 (length config.clients.items)

-- a map has 1 to 1024 blocks
abbrev pub blocks_fit : ℕ → Bool
blocks_fit blocks = is_from_to 1 1024 blocks

-- a manager has 1 to 8 trackers
abbrev pub trackers_fit : ℕ → Bool
trackers_fit trackers = is_from_to 1 8 trackers

-- a client has 1 to 8 source numbers
abbrev pub sources_fit : ClientConfig → Bool
sources_fit client = is_from_to 1 8 client.sources

-- each client has 1 to 8 source numbers
abbrev pub all_sources_fit : List ClientConfig → Bool
all_sources_fit [] = true
all_sources_fit (client ∷ clients) = sources_fit client && all_sources_fit clients

-- the first limit that a configuration breaks
abbrev pub config_fault : Config → Option NewFault
config_fault config =
    if not (clients_fit config) then Some fault.N1 else
    if not (blocks_fit config.blocks) then Some fault.N2 else
    if not (trackers_fit config.trackers) then Some fault.N3 else
    if not (all_sources_fit config.clients.items) then Some fault.N4 else
    None

-- the first limit that one client, on this many blocks, breaks
abbrev pub client_fault : ClientConfig → ℕ → Option NewFault
client_fault client blocks =
    if not (blocks_fit blocks) then Some fault.N2 else
    if not (sources_fit client) then Some fault.N4 else
    None
