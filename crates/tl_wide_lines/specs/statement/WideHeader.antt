-- The header of a trace of wide beats.
use Rattle.std.specs.Prelude.{◌≡◌, ◌++◌, ℕ, List, codes, Option, Some, None}
use Rattle.tl_lines.specs.statement.LinksHeader.{SpellsNamed}
use Rattle.tl_params.specs.declared.level.Level.{Level}
use Rattle.tl_params.specs.declared.liberties.Liberties.{Liberties}
use Rattle.tl_params.specs.statement.Liberties.{united}
use Rattle.tl_wide.specs.declared.width.WideWidth.{WideWidth}
use Rattle.tl_wide.specs.declared.width.WideWidth.TheVariants.{Four, Eight, Sixteen, ThirtyTwo, SixtyFour}
use Rattle.tl_wide_lines.specs.declared.header.WideHeader.{WideHeader}

-- the number of bytes of a wide beat in a header
abbrev pub wide_width_text : WideWidth → List ℕ
wide_width_text Four = codes "4"
wide_width_text Eight = codes "8"
wide_width_text Sixteen = codes "16"
wide_width_text ThirtyTwo = codes "32"
wide_width_text SixtyFour = codes "64"

-- the front of a header of the fifth version, with the number of bytes of a beat
abbrev pub fifth_front : WideWidth → List ℕ
fifth_front width = codes "tltrace 5 " ++ wide_width_text width ++ codes " "

-- the line is a header of the fifth version, whose word names these liberties of the links
abbrev pub SpellsFifth : List ℕ → WideWidth → Liberties → List Level → Type 0
SpellsFifth line width may levels =
    (rest : List ℕ) × (line ≡ fifth_front width ++ rest) × SpellsNamed rest may levels

-- the line is such a header, and its links have the liberties that it names and those that are allowed
abbrev pub NamesWide : Liberties → List ℕ → WideWidth → Liberties → List Level → Type 0
NamesWide allow line width may levels =
    (own : Liberties) × SpellsFifth line width own levels × (may ≡ united own allow)

-- there is a header, with this width, these liberties and these levels
abbrev pub IsWideHeader : Option WideHeader → WideWidth → Liberties → List Level → Type 0
IsWideHeader None width may levels = ⊥
IsWideHeader (Some header) width may levels =
    (header.width ≡ width) × (header.links.may ≡ may) × (header.links.levels.items ≡ levels)
