-- The meaning of the words of `random`.
use denote.Ref.{Bor}
use Rattle.std.specs.Prelude.{◌≡◌, ◌^◌, ◌-◌, ℕ, List, Option, Some, None, option_map, if◌then◌else◌, nat_le}
use Rattle.std.specs.Prelude.{codes}
use Rattle.std.specs.Option.{unwrap_or}
use Rattle.std.specs.Str.{bytes_eq}
use Rattle.tl_params.specs.declared.config.ClientConfig.{ClientConfig}
use Rattle.tl_params.specs.declared.header.Version.{Version}
use Rattle.tl_params.specs.declared.header.Version.TheVariants.{First, Second, Third}
use Rattle.tl_params.specs.declared.profile.Profile.{Profile}
use Rattle.tl_params.specs.declared.profile.Profile.TheVariants.{One, Two}
use Rattle.tl_params.specs.declared.width.Width.{Width}
use Rattle.tl_params.specs.declared.width.Width.TheVariants.{Eight}
use Rattle.tl_command.specs.declared.random.Options.{Options}
use Rattle.tl_command.specs.declared.random_words.RandomOption.{RandomOption}
use Rattle.tl_command.specs.declared.random_words.RandomOption.TheVariants as option
use Rattle.tl_command.specs.declared.random_words.RandomWords.{RandomWords}
use Rattle.tl_command.specs.statement.Words.{IsNumber, SpellsClients, Text, width_named}

-- ---- the words

-- the words of the options; None for an option that isn't given
pub record Words : Type 0 where
  pub seed : Option Text
  pub events : Option Text
  pub clients : Option Text
  pub blocks : Option Text
  pub trackers : Option Text
  pub width : Option Text
  pub profile : Option Text
  pub contend : Option Text

-- the text of a word, if there is one
abbrev pub text_of : Option (Bor (List ℕ)) → Option Text
text_of word = option_map (λ s. s.now) word

-- the words in a struct of them
abbrev pub words_of : RandomWords → Words
words_of w = record {
  seed = text_of w.seed;
  events = text_of w.events;
  clients = text_of w.clients;
  blocks = text_of w.blocks;
  trackers = text_of w.trackers;
  width = text_of w.width;
  profile = text_of w.profile;
  contend = text_of w.contend;
}

-- ---- the meaning of each

-- the largest number of 64 bits
abbrev pub most : ℕ
most = 2 ^ 64 - 1

-- the seed, a number of 64 bits; there is no default
abbrev pub IsSeed : Words → ℕ → Type 0
IsSeed w = IsNumber w.seed None 0 most

-- the number of events, a number of 64 bits, 1,000 by default
abbrev pub AreEvents : Words → ℕ → Type 0
AreEvents w = IsNumber w.events (Some 1000) 0 most

-- the number of blocks, 1 to 1,024, 2 by default
abbrev pub AreBlocks : Words → ℕ → Type 0
AreBlocks w = IsNumber w.blocks (Some 2) 1 1024

-- the number of trackers, 1 to 8, 2 by default
abbrev pub AreTrackers : Words → ℕ → Type 0
AreTrackers w = IsNumber w.trackers (Some 2) 1 8

-- the number of contended blocks, from 1 to this many; 2 by default, or 1 of 1 block
abbrev pub contend_named : Option Text → ℕ → ℕ → Type 0
contend_named word blocks = IsNumber word (Some (if nat_le 2 blocks then 2 else 1)) 1 blocks

-- the number of contended blocks by the word of its option
abbrev pub IsContended : Words → ℕ → ℕ → Type 0
IsContended w blocks = contend_named w.contend blocks

-- the clients; three caches and a client of TL-UH by default
abbrev pub AreClients : Words → List ClientConfig → Type 0
AreClients w = SpellsClients (unwrap_or w.clients (codes "C:2,C:2,C:2,UH:1"))

-- the profile of the word; the first without a word
abbrev pub profile_named : Option Text → Option Profile
profile_named None = Some One
profile_named (Some word) = if bytes_eq word (codes "1") then Some One else if bytes_eq word (codes "2") then Some Two
    else None

-- the first version of a header that has the width and the profile
abbrev pub version_with : Width → Profile → Version
version_with width Two = Third width Two
version_with Eight One = First
version_with width One = Second width

-- ---- all words

-- the words mean these options
pub record AreOptions (w : Words) (o : Options) : Type 0 where
  pub seed_is : IsSeed w o.seed
  pub events_are : AreEvents w o.events
  pub clients_are : AreClients w o.config.clients.items
  pub blocks_are : AreBlocks w o.config.blocks
  pub trackers_are : AreTrackers w o.config.trackers
  pub contend_is : IsContended w o.config.blocks o.contend
  pub width : Width
  pub width_is : width_named w.width ≡ Some width
  pub profile_is : profile_named w.profile ≡ Some o.config.profile
  pub version_is : o.version ≡ version_with width o.config.profile

-- the word of this option has no meaning
abbrev pub IsWrong : Words → RandomOption → Type 0
IsWrong w option.Seed = (n : ℕ) → ¬ IsSeed w n
IsWrong w option.Events = (n : ℕ) → ¬ AreEvents w n
IsWrong w option.Clients = (clients : List ClientConfig) → ¬ AreClients w clients
IsWrong w option.Blocks = (n : ℕ) → ¬ AreBlocks w n
IsWrong w option.Trackers = (n : ℕ) → ¬ AreTrackers w n
IsWrong w option.Width = width_named w.width ≡ None
IsWrong w option.Profile = profile_named w.profile ≡ None
IsWrong w option.Contend = (blocks : ℕ) → AreBlocks w blocks → (n : ℕ) → ¬ IsContended w blocks n
