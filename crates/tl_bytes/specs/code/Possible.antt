-- The values that a read may bring, with one value more.
use Rattle.std.specs.Prelude.{ℕ, Bool, false, ◌==◌, ◌&&◌, ◌||◌, List, find, is_some, Option, Some, None}
use Rattle.tl_bytes.specs.code.Tellings.{covers_value}
use Rattle.tl_bytes.specs.declared.known_bytes.KnownBytes.{KnownBytes}
use Rattle.tl_bytes.specs.declared.read_bytes.ReadBytes.{ReadBytes}
use Rattle.tl_bytes.specs.declared.telling.Possible.{Possible}
use Rattle.tl_bytes.specs.statement.KnownBytes.{known_at}

-- one of these lets the byte at a place be all that this value may
abbrev pub is_covered : ℕ → Option ℕ → List Possible → Bool
is_covered place value possible = is_some (find (λ x. (x.place == place) && covers_value x.value value) possible)

-- so do the values of the bytes in a first window, if there was one
abbrev pub covers_first : Option KnownBytes → ℕ → Option ℕ → Bool
covers_first None place value = false
covers_first (Some values) place value = covers_value (known_at values place) value

-- so do the values that are kept
abbrev pub has : ReadBytes → ℕ → Option ℕ → Bool
has read place value = covers_first read.first place value || is_covered place value read.more.items
