-- The header of a schedule read from left to right, as the code goes; only private clauses cite this.
use Rattle.std.specs.Prelude.{◌≡◌, ℕ, ◌+◌, ◌*◌, ◌-◌, List, [], ◌∷◌, Bool, false, Option, Some, None, ◌==◌, ◌&&◌, nat_le}
use Rattle.std.specs.Prelude.{if◌then◌else◌}
use Rattle.tl_params.specs.declared.config.ClientConfig.{ClientConfig}
use Rattle.tl_params.specs.declared.header.Version.{Version}
use Rattle.tl_params.specs.declared.level.Level.{Level}
use Rattle.tl_params.specs.statement.Header.{profile_of}
use Rattle.tl_params.specs.code.HeaderReading.{after_word, level_at, up_to, version_at}
use Rattle.tl_params.specs.statement.Range.{is_from_to}
use Rattle.tl_schedule.specs.declared.header.Schedule.{Schedule}
use Rattle.tl_schedule.specs.statement.Schedule.{schedule_word}
use Rattle.tl_schedule.specs.code.Then.{◌>>=◌}

-- a decimal digit at the front
abbrev pub is_decimal : ℕ → Bool
is_decimal c = nat_le 48 c && nat_le c 57

abbrev pub digit_at : List ℕ → Option (ℕ × List ℕ)
digit_at [] = None
digit_at (c ∷ cs) = if is_decimal c then Some (c - 48, cs) else None

-- the digits at the front, after a number that stands for those before
unfoldable pub decimal_from : ℕ → List ℕ → ℕ × List ℕ
decimal_from number [] = (number, [])
decimal_from number (c ∷ cs) = if is_decimal c then decimal_from (10 * number + (c - 48)) cs else (number, c ∷ cs)

abbrev pub starts_with_zero : List ℕ → Bool
starts_with_zero [] = false
starts_with_zero (c ∷ cs) = c == 48

abbrev pub within : ℕ → ℕ × List ℕ → Option (ℕ × List ℕ)
within limit x = if is_from_to 1 limit x.0 then Some x else None

-- a number from 1 to a limit at the front, without leading zeros
abbrev pub number_at : ℕ → List ℕ → Option (ℕ × List ℕ)
number_at limit bytes = if starts_with_zero bytes then None else within limit (decimal_from 0 bytes)

-- what follows a byte at the front
abbrev pub byte_at : ℕ → List ℕ → Option (List ℕ)
byte_at byte [] = None
byte_at byte (c ∷ cs) = if c == byte then Some cs else None

abbrev pub client_of : Level → ℕ × List ℕ → Option (ClientConfig × List ℕ)
client_of level x = Some (record { level = level; sources = x.0 }, x.1)

-- a client at the front, after a space
abbrev pub client_at : List ℕ → Option (ClientConfig × List ℕ)
client_at bytes = level_at bytes >>= λ l. byte_at 58 l.1 >>= λ s. number_at 8 s >>= client_of l.0

-- at most n clients, up to a line feed at the end
abbrev pub clients_at : ℕ → List ℕ → Option (List ClientConfig)
clients_at = up_to client_at

-- what a header names
pub record Named : Type 0 where
  pub version : Version
  pub blocks : ℕ
  pub trackers : ℕ
  pub clients : List ClientConfig

abbrev pub some_clients : Version → ℕ → ℕ → List ClientConfig → Option Named
some_clients version blocks trackers [] = None
some_clients version blocks trackers (client ∷ clients) =
    Some (record { version = version; blocks = blocks; trackers = trackers; clients = client ∷ clients })

-- what follows the first word
abbrev pub named_at : List ℕ → Option Named
named_at bytes =
    version_at bytes >>= λ v. byte_at 32 v.1 >>= λ s. number_at 1024 s >>= λ b. byte_at 32 b.1 >>= λ t. number_at 8 t
    >>= λ n.
    clients_at 16 n.1 >>= some_clients v.0 b.0 n.0

-- a whole header
abbrev pub header_at : List ℕ → Option Named
header_at line = after_word schedule_word line >>= named_at

abbrev pub named_by : Schedule → Named
named_by s = record {
  version = s.version;
  blocks = s.config.blocks;
  trackers = s.config.trackers;
  clients =
      s.config.clients.items;
}

-- the header that was returned is the one that reading gives
abbrev pub GivesSchedule : Option Schedule → Option Named → Type 0
GivesSchedule None read = read ≡ None
GivesSchedule (Some s) read = (read ≡ Some (named_by s)) × (s.config.profile ≡ profile_of s.version)
