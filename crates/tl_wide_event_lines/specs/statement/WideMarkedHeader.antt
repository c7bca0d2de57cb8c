-- The header of a wide trace with commits: as that of a narrow one, but for its front.
use Rattle.std.specs.Prelude.{◌≡◌, ◌++◌, ℕ, List, Option, Some, None}
use Rattle.tl_commit_lines.specs.statement.MarkedHeader.{MarkedLinks, SpellsLinks, links_in}
use Rattle.tl_params.specs.declared.liberties.Liberties.{Liberties}
use Rattle.tl_params.specs.statement.Liberties.{united}
use Rattle.tl_wide.specs.declared.width.WideWidth.{WideWidth}
use Rattle.tl_wide_lines.specs.statement.WideHeader.{fifth_front}
use Rattle.tl_wide_event_lines.specs.declared.header.WideCommitHeader.{WideCommitHeader}

-- the line is a header of the fifth version, with these liberties and links
abbrev pub SpellsWideMarked : List ℕ → WideWidth → Liberties → MarkedLinks → Type 0
SpellsWideMarked line width may links =
    (rest : List ℕ) × (line ≡ fifth_front width ++ rest) × SpellsLinks rest may links

-- the line is such a header, and its links have the liberties that it names and those that are allowed
abbrev pub NamesWideMarked : Liberties → List ℕ → WideWidth → Liberties → MarkedLinks → Type 0
NamesWideMarked allow line width may links =
    (own : Liberties) × SpellsWideMarked line width own links × (may ≡ united own allow)

-- there is a header, with this width, these liberties and these links
abbrev pub IsWideMarked : Option WideCommitHeader → WideWidth → Liberties → MarkedLinks → Type 0
IsWideMarked None width may links = ⊥
IsWideMarked (Some header) width may links =
    (header.width ≡ width) × (header.narrow.may ≡ may) × (links_in header.narrow ≡ links)
