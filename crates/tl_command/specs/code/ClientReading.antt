-- The word of clients read from left to right, as the code goes; only private clauses cite this.
use Rattle.std.specs.Prelude.{ℕ, zero, suc, ◌-◌, List, [], ◌∷◌, Option, Some, None, ◌==◌, ◌&&◌, nat_le, if◌then◌else◌}
use Rattle.std.specs.Prelude.{option_and_then}
use Rattle.tl_params.specs.code.HeaderReading.{onto}
use Rattle.tl_params.specs.declared.config.ClientConfig.{ClientConfig}
use Rattle.tl_params.specs.declared.level.Level.{Level}
use Rattle.tl_params.specs.declared.level.Level.TheVariants as level

-- a level at the front
abbrev pub level_at : List ℕ → Option (Level × List ℕ)
level_at [] = None
level_at (a ∷ []) = if a == 67 then Some (level.C, []) else None
level_at (a ∷ b ∷ rest) =
    if (a == 85) && (b == 76) then Some (level.UL, rest) else
    if (a == 85) && (b == 72) then Some (level.UH, rest) else
    if a == 67 then Some (level.C, b ∷ rest) else None

-- a number of sources at the front, after a colon
abbrev pub sources_at : List ℕ → Option (ℕ × List ℕ)
sources_at [] = None
sources_at (a ∷ []) = None
sources_at (a ∷ b ∷ rest) = if (a == 58) && (nat_le 49 b && nat_le b 56) then Some (b - 48, rest) else None

abbrev pub client_of : Level → ℕ × List ℕ → Option (ClientConfig × List ℕ)
client_of level x = Some (record { level = level; sources = x.0 }, x.1)

-- a client at the front
abbrev pub client_at : List ℕ → Option (ClientConfig × List ℕ)
client_at word = option_and_then (λ l. option_and_then (client_of l.0) (sources_at l.1)) (level_at word)

-- what is read after a client: nothing at the end, others after a comma
abbrev pub behind_client : (List ℕ → Option (List ClientConfig)) → List ℕ → Option (List ClientConfig)
behind_client read [] = Some []
behind_client read (c ∷ rest) = if c == 44 then read rest else None

-- at most n clients
unfoldable pub clients_at : ℕ → List ℕ → Option (List ClientConfig)
clients_at zero word = None
clients_at (suc n) word = option_and_then (λ x. onto x.0 (behind_client (clients_at n) x.1)) (client_at word)
