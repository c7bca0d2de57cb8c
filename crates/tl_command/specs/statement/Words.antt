-- The meaning of the words of options.
use Rattle.std.specs.Prelude.{◌≡◌, ◌≤◌, ◌++◌, ℕ, List, [], ◌∷◌, length, codes, true, Option, Some, None, if◌then◌else◌}
use Rattle.std.specs.Fmt.{decimal}
use Rattle.std.specs.Str.{bytes_eq}
use Rattle.tl_params.specs.declared.config.ClientConfig.{ClientConfig}
use Rattle.tl_params.specs.declared.width.Width.{Width}
use Rattle.tl_params.specs.declared.width.Width.TheVariants.{Four, Eight, Sixteen}
use Rattle.tl_params.specs.statement.Config.{IsCount, all_sources_fit}
use Rattle.tl_params.specs.statement.Header.{level_text}
use Rattle.tl_wide.specs.declared.width.WideWidth.{WideWidth}
use Rattle.tl_wide.specs.declared.width.WideWidth.TheVariants as wide

-- a text, as its bytes
abbrev pub Text : Type 0
Text = List ℕ

-- the width of the word; 8 bytes without a word
abbrev pub width_named : Option Text → Option Width
width_named None = Some Eight
width_named (Some word) = if bytes_eq word (codes "4") then Some Four else if bytes_eq word (codes "8") then Some Eight
    else if bytes_eq word (codes "16") then Some Sixteen else None

-- the width of wide beats of the word; 8 bytes without a word
abbrev pub wide_width_named : Option Text → Option WideWidth
wide_width_named None = Some wide.Eight
wide_width_named (Some word) =
    if bytes_eq word (codes "4") then Some wide.Four else if bytes_eq word (codes "8") then Some wide.Eight
    else if bytes_eq word (codes "16") then Some wide.Sixteen else if bytes_eq word (codes "32") then Some wide.ThirtyTwo
    else if bytes_eq word (codes "64") then Some wide.SixtyFour else None

-- ---- numbers

-- the number that the word spells in decimal; the default without a word
abbrev pub IsNamed : Option Text → Option ℕ → ℕ → Type 0
IsNamed None default n = default ≡ Some n
IsNamed (Some word) default n = word ≡ decimal n

-- that number, if it is within these limits
abbrev pub IsNumber : Option Text → Option ℕ → ℕ → ℕ → ℕ → Type 0
IsNumber word default least most n = IsNamed word default n × (least ≤ n) × (n ≤ most)

-- ---- clients

-- the word of a client: its level and its number of sources
abbrev pub client_word : ClientConfig → Text
client_word client = level_text client.level ++ (codes ":" ++ decimal client.sources)

-- the word of clients, with a comma between them
unfoldable pub clients_word : List ClientConfig → Text
clients_word [] = []
clients_word (client ∷ []) = client_word client
clients_word (client ∷ next ∷ others) = client_word client ++ (codes "," ++ clients_word (next ∷ others))

-- the word spells 1 to 16 clients, each with 1 to 8 sources
abbrev pub SpellsClients : Text → List ClientConfig → Type 0
SpellsClients word clients =
    (word ≡ clients_word clients) × IsCount (length clients) × (all_sources_fit clients ≡ true)
