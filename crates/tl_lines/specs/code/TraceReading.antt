-- The header of a trace read from left to right, as the code goes; only private clauses cite this.
use Rattle.std.specs.Prelude.{◌≡◌, ℕ, List, [], ◌∷◌, option_and_then, Option, Some, None}
use Rattle.tl_params.specs.declared.header.Version.{Version}
use Rattle.tl_params.specs.declared.level.Level.{Level}
use Rattle.tl_params.specs.declared.profile.Profile.{Profile}
use Rattle.tl_params.specs.declared.width.Width.{Width}
use Rattle.tl_params.specs.statement.Header.{profile_of, width_of}
use Rattle.tl_params.specs.code.HeaderReading.{after_word, level_at, up_to, version_at}
use Rattle.tl_lines.specs.declared.header.Header.{Header}
use Rattle.tl_lines.specs.statement.Trace.{trace_word}

-- at most n levels, up to a line feed at the end
abbrev pub levels_at : ℕ → List ℕ → Option (List Level)
levels_at = up_to level_at

abbrev pub some_levels : Version → List Level → Option ((Width × Profile) × List Level)
some_levels version [] = None
some_levels version (level ∷ levels) = Some ((width_of version, profile_of version), level ∷ levels)

-- what follows the first word
abbrev pub named_at : List ℕ → Option ((Width × Profile) × List Level)
named_at bytes = option_and_then (λ v. option_and_then (some_levels v.0) (levels_at 16 v.1)) (version_at bytes)

-- a whole header
abbrev pub header_at : List ℕ → Option ((Width × Profile) × List Level)
header_at line = option_and_then named_at (after_word trace_word line)

-- the header that was returned is the one that reading gives
abbrev pub GivesHeader : Option Header → Option ((Width × Profile) × List Level) → Type 0
GivesHeader None read = read ≡ None
GivesHeader (Some header) read = read ≡ Some ((header.width, header.profile), header.levels.items)
