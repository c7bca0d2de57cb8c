-- The header of a trace.
use Rattle.std.specs.Prelude.{◌≡◌, ◌≤◌, ℕ, List, [], ◌∷◌, ◌++◌, length, codes, Option, Some, None}
use Rattle.arrayvec.specs.ArrayVec.{ArrayVec}
use Rattle.tl_params.specs.declared.header.Version.{Version}
use Rattle.tl_params.specs.declared.level.Level.{Level}
use Rattle.tl_params.specs.declared.profile.Profile.{Profile}
use Rattle.tl_params.specs.declared.width.Width.{Width}
use Rattle.tl_params.specs.statement.Header.{level_text, profile_of, version_text, width_of}
use Rattle.tl_params.specs.statement.Config.{IsCount}
use Rattle.tl_lines.specs.declared.header.Header.{Header}

-- each level after a space
abbrev pub levels_text : List Level → List ℕ
levels_text [] = []
levels_text (level ∷ levels) = codes " " ++ level_text level ++ levels_text levels

-- the bytes are these levels, at most 16, and an LF
abbrev pub SpellsLevels : List ℕ → List Level → Type 0
SpellsLevels bytes levels = (bytes ≡ levels_text levels ++ codes "\n") × (length levels ≤ 16)

-- these levels were read
abbrev pub AreLevels : Option (ArrayVec Level) → List Level → Type 0
AreLevels None levels = ⊥
AreLevels (Some read) levels = read.items ≡ levels

-- the word at the front of a trace
abbrev pub trace_word : List ℕ
trace_word = codes "tltrace "

-- the line of a header
abbrev pub header_line : Version → List Level → List ℕ
header_line version levels = trace_word ++ version_text version ++ levels_text levels ++ codes "\n"

-- the line is a header of a version with this width and profile, and these levels
pub record SpellsHeader (line : List ℕ) (width : Width) (profile : Profile) (levels : List Level) : Type 0 where
  pub version : Version
  pub is_line : line ≡ header_line version levels
  pub of_width : width_of version ≡ width
  pub of_profile : profile_of version ≡ profile
  pub so_many : IsCount (length levels)

-- the header has these values
abbrev pub IsHeader : Option Header → Width → Profile → List Level → Type 0
IsHeader None width profile levels = ⊥
IsHeader (Some header) width profile levels = (header.width ≡ width) × (header.profile ≡ profile)
    × (header.levels.items ≡ levels)
