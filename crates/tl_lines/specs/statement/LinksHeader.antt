-- The header of a trace that names the liberties of its links.
use Rattle.std.specs.Prelude.{◌≡◌, ◌⊎◌, ◌++◌, ℕ, List, length, codes, Option, Some, None}
use Rattle.arrayvec.specs.ArrayVec.{ArrayVec}
use Rattle.tl_command.specs.statement.LibertyWords.{SpellsLiberties}
use Rattle.tl_lines.specs.statement.Judged.{Headers}
use Rattle.tl_lines.specs.statement.Trace.{SpellsHeader, levels_text}
use Rattle.tl_lines.specs.declared.links_header.LinksHeader.{LinksHeader}
use Rattle.tl_params.specs.declared.level.Level.{Level}
use Rattle.tl_params.specs.declared.liberties.Liberties.{Liberties}
use Rattle.tl_params.specs.declared.profile.Profile.{Profile}
use Rattle.tl_params.specs.declared.width.Width.{Width}
use Rattle.tl_params.specs.statement.Config.{IsCount}
use Rattle.tl_params.specs.statement.Header.{width_text}
use Rattle.tl_params.specs.statement.Liberties.{liberties_of, united}

-- the front of a header of the fourth version, up to the bytes of a beat
abbrev pub fourth_front : Width → List ℕ
fourth_front width = codes "tltrace 4 " ++ width_text width ++ codes " "

-- the bytes are the word that names these liberties, these levels and an LF
pub record SpellsNamed (bytes : List ℕ) (may : Liberties) (levels : List Level) : Type 0 where
  pub word : List ℕ
  pub spells : SpellsLiberties word may
  pub are_bytes : bytes ≡ word ++ (levels_text levels ++ codes "\n")
  pub so_many : IsCount (length levels)

-- these liberties and levels were read
abbrev pub AreNamed : Option (Liberties × ArrayVec Level) → Liberties → List Level → Type 0
AreNamed None may levels = ⊥
AreNamed (Some named) may levels = (named.0 ≡ may) × (named.1.items ≡ levels)

-- the line is a header of the fourth version, with a word that names the liberties
pub record SpellsFourth (line : List ℕ) (width : Width) (may : Liberties) (levels : List Level) : Type 0 where
  pub word : List ℕ
  pub spells : SpellsLiberties word may
  pub is_line : line ≡ fourth_front width ++ (word ++ (levels_text levels ++ codes "\n"))
  pub so_many : IsCount (length levels)

-- the line is a header of any version; the first three name a profile, or have the first
abbrev pub NamesLinks : Headers Liberties
NamesLinks line width may levels =
    ((p : Profile) × SpellsHeader line width p levels × (may ≡ liberties_of p))
    ⊎ SpellsFourth line width may levels

-- the line is a header; its links have the liberties that it names and those that are allowed
abbrev pub NamesAllowed : Liberties → Headers Liberties
NamesAllowed allow line width may levels =
    (own : Liberties) × NamesLinks line width own levels × (may ≡ united own allow)

-- the header has these values
abbrev pub IsLinks : Option LinksHeader → Width → Liberties → List Level → Type 0
IsLinks None width may levels = ⊥
IsLinks (Some header) width may levels = (header.width ≡ width) × (header.may ≡ may) × (header.levels.items ≡ levels)
