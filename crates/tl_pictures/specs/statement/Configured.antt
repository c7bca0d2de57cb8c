-- The configuration of a manager, by its fields in C.
use Rattle.std.specs.Prelude.{ℕ, Bool, true, ◌&&◌, ◌≡◌, List, [], ◌∷◌, map, nat_lt, nat_le}
use Rattle.tl_params.specs.declared.config.ClientConfig.{ClientConfig}
use Rattle.tl_params.specs.declared.config.Config.{Config}
use Rattle.tl_pictures.specs.declared.config.LinkConfig.{LinkConfig}
use Rattle.tl_pictures.specs.statement.Codes.{level_at, profile_at}

-- the link has a level, and 1 to 8 sources
abbrev pub link_fits : LinkConfig → Bool
link_fits link = nat_lt link.level 3 && nat_le 1 link.sources && nat_le link.sources 8

-- each link has a level, and 1 to 8 sources
abbrev pub links_fit : List LinkConfig → Bool
links_fit [] = true
links_fit (link ∷ links) = link_fits link && links_fit links

-- the configuration of a link's client
abbrev pub client_at : LinkConfig → ClientConfig
client_at link = record { level = level_at link.level; sources = link.sources }

-- the configuration has a client for each link, in order, and the other values as given
abbrev pub IsConfigOf : List LinkConfig → ℕ → ℕ → ℕ → Config → Type 0
IsConfigOf links blocks trackers profile config =
    (config.blocks ≡ blocks) × (config.trackers ≡ trackers) × (config.profile ≡ profile_at profile)
    × (config.clients.items ≡ map client_at links)
