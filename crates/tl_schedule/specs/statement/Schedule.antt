-- The header of a schedule.
use Rattle.std.specs.Prelude.{◌≡◌, ℕ, List, [], ◌∷◌, ◌++◌, length, codes, IsTrue, Option, Some, None}
use Rattle.std.specs.Fmt.{decimal}
use Rattle.tl_params.specs.declared.config.ClientConfig.{ClientConfig}
use Rattle.tl_params.specs.declared.header.Version.{Version}
use Rattle.tl_params.specs.statement.Config.{all_sources_fit, blocks_fit, trackers_fit}
use Rattle.tl_params.specs.statement.Header.{level_text, version_text}
use Rattle.tl_params.specs.statement.Range.{is_from_to}
use Rattle.tl_schedule.specs.declared.header.Schedule.{Schedule}

-- each client after a space: its level and its number of sources
abbrev pub clients_text : List ClientConfig → List ℕ
clients_text [] = []
clients_text (client ∷ clients) = codes " " ++ level_text client.level ++ codes ":" ++ decimal
    client.sources ++ clients_text clients

-- the word at the front of a schedule
abbrev pub schedule_word : List ℕ
schedule_word = codes "tlsched "

-- the line of a header
abbrev pub schedule_line : Version → ℕ → ℕ → List ClientConfig → List ℕ
schedule_line version blocks trackers clients =
    schedule_word ++ version_text version ++ codes " " ++ decimal blocks ++ codes " " ++ decimal
    trackers ++ clients_text clients ++ codes "\n"

-- the line is that of a header with these values, and they are within their limits
pub record SpellsSchedule (line : List ℕ) (version : Version) (blocks trackers : ℕ) (clients : List ClientConfig) : Type
    0 where
  pub is_line : line ≡ schedule_line version blocks trackers clients
  pub blocks_fit : IsTrue (blocks_fit blocks)
  pub trackers_fit : IsTrue (trackers_fit trackers)
  pub clients_fit : IsTrue (is_from_to 1 16 (length clients))
  pub sources_fit : IsTrue (all_sources_fit clients)

-- the header that was read has these values
abbrev pub IsSchedule : Option Schedule → Version → ℕ → ℕ → List ClientConfig → Type 0
IsSchedule None version blocks trackers clients = ⊥
IsSchedule (Some s) version blocks trackers clients =
    (s.version ≡ version) × (s.config.blocks ≡ blocks) × (s.config.trackers ≡ trackers)
    × (s.config.clients.items ≡ clients)
