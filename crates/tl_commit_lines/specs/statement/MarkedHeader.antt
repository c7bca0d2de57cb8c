-- The header of a trace with commits: all stores of its links of level `C+` are in the trace, and memory was zero
-- before it if the word `zero` is before the levels. It has this word, or the word `commits`, or a link of level `C+`.
use Rattle.std.specs.Prelude.{◌≡◌, ◌++◌, ◌||◌, ℕ, Bool, true, false, List, [], ◌∷◌, length, map, codes, ⊤}
use Rattle.std.specs.Prelude.{Option, Some, None}
use Rattle.std.specs.List.{list_any}
use Rattle.arrayvec.specs.ArrayVec.{ArrayVec}
use Rattle.tl_command.specs.statement.LibertyWords.{SpellsLiberties}
use Rattle.tl_lines.specs.statement.LinksHeader.{fourth_front}
use Rattle.tl_params.specs.declared.level.Level.{Level}
use Rattle.tl_params.specs.declared.level.Level.TheVariants.{C}
use Rattle.tl_params.specs.declared.liberties.Liberties.{Liberties}
use Rattle.tl_params.specs.declared.width.Width.{Width}
use Rattle.tl_params.specs.statement.Config.{IsCount}
use Rattle.tl_params.specs.statement.Header.{level_text}
use Rattle.tl_params.specs.statement.Liberties.{united}
use Rattle.tl_commits.specs.statement.Completeness.{Completeness}
use Rattle.tl_commit_lines.specs.declared.header.CommitHeader.{CommitHeader}
use Rattle.tl_commit_lines.specs.declared.header.MarkedLevel.{MarkedLevel}

-- the mark of a link all of whose stores are in the trace
abbrev pub mark_text : Bool → List ℕ
mark_text true = codes "+"
mark_text false = []

-- the links of a header, and whether memory was zero before the trace
pub record MarkedLinks : Type 0 where
  pub zero : Bool
  pub levels : List MarkedLevel

-- a word, if it is there
abbrev pub word_text : List ℕ → Bool → List ℕ
word_text word true = word
word_text word false = []

-- the word that says so, after a space
abbrev pub zero_text : Bool → List ℕ
zero_text zero = word_text (codes " zero") zero

-- the word that says that stores and loads may be in the trace, after a space
abbrev pub commits_text : Bool → List ℕ
commits_text commits = word_text (codes " commits") commits

-- each level after a space, with its mark
abbrev pub links_text : List MarkedLevel → List ℕ
links_text [] = []
links_text (x ∷ links) = codes " " ++ (level_text x.level ++ (mark_text x.complete ++ links_text links))

-- only caches store: a link with the mark is of level C
abbrev pub AreMarkable : List MarkedLevel → Type 0
AreMarkable [] = ⊤
AreMarkable (x ∷ links) = (x.complete ≡ true → x.level ≡ C) × AreMarkable links

-- one of the links has the mark
abbrev pub some_marked : List MarkedLevel → Bool
some_marked links = list_any (λ x. x.complete) links

-- memory was zero before the trace, or one of the links has the mark
abbrev pub says_commits : MarkedLinks → Bool
says_commits links = links.zero || some_marked links.levels

-- The bytes are the word that names these liberties, the word `commits` or not, the word `zero` if memory was zero, these
-- links and an LF. They say that stores and loads may be in the trace.
pub record SpellsLinks (bytes : List ℕ) (may : Liberties) (links : MarkedLinks) : Type 0 where
  pub word : List ℕ
  pub spells : SpellsLiberties word may
  pub commits : Bool
  pub are_bytes : bytes
      ≡ word ++ (commits_text commits ++ (zero_text links.zero ++ (links_text links.levels ++ codes "\n")))
  pub so_many : IsCount (length links.levels)
  pub markable : AreMarkable links.levels
  pub says : (commits || says_commits links) ≡ true

-- the links that were read
abbrev pub links_read : Bool → ArrayVec MarkedLevel → MarkedLinks
links_read zero levels = record { zero = zero; levels = levels.items }

-- these liberties and links were read
abbrev pub AreMarked : Option (Liberties × Bool × ArrayVec MarkedLevel) → Liberties → MarkedLinks → Type 0
AreMarked None may links = ⊥
AreMarked (Some named) may links = (named.0 ≡ may) × (links_read named.1 named.2 ≡ links)

-- the line is a header of the fourth version, with these liberties and links
abbrev pub SpellsMarked : List ℕ → Width → Liberties → MarkedLinks → Type 0
SpellsMarked line width may links =
    (rest : List ℕ) × (line ≡ fourth_front width ++ rest) × SpellsLinks rest may links

-- the line is such a header, and its links have the liberties that it names and those that are allowed
abbrev pub NamesMarked : Liberties → List ℕ → Width → Liberties → MarkedLinks → Type 0
NamesMarked allow line width may links =
    (own : Liberties) × SpellsMarked line width own links × (may ≡ united own allow)

-- the levels of these links
abbrev pub levels_of : MarkedLinks → List Level
levels_of links = map (λ x. x.level) links.levels

-- of which of them all stores are in the trace, and whether memory was zero before it
abbrev pub complete_of : MarkedLinks → Completeness
complete_of links = record { stores = map (λ x. x.complete) links.levels; zero = links.zero }

-- the links of a header
abbrev pub links_in : CommitHeader → MarkedLinks
links_in header = links_read header.zero header.links

-- there is a header, with this width, these liberties and these links
abbrev pub IsMarkedHeader : Option CommitHeader → Width → Liberties → MarkedLinks → Type 0
IsMarkedHeader None width may links = ⊥
IsMarkedHeader (Some header) width may links =
    (header.width ≡ width) × (header.may ≡ may) × (links_in header ≡ links)
