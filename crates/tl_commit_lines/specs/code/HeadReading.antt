-- The links of a header read from left to right, as the code goes; only private clauses cite this.
use Rattle.std.specs.Prelude.{◌||◌}
use Rattle.std.specs.Prelude.{◌==◌, ◌&&◌, ℕ, Bool, true, false, List, [], ◌∷◌, codes, Option, Some, None}
use Rattle.std.specs.Prelude.{if◌then◌else◌, option_map}
use Rattle.tl_params.specs.code.HeaderReading.{after_word, level_at, up_to}
use Rattle.tl_params.specs.declared.level.Level.{Level}
use Rattle.tl_params.specs.declared.level.Level.TheVariants.{C}
use Rattle.tl_params.specs.declared.liberties.Liberties.{Liberties}
use Rattle.tl_params.specs.declared.width.Width.{Width}
use Rattle.tl_commit_lines.specs.declared.header.CommitHeader.{CommitHeader}
use Rattle.tl_commit_lines.specs.declared.header.MarkedLevel.{MarkedLevel}
use Rattle.tl_commit_lines.specs.statement.MarkedHeader.{MarkedLinks, NamesMarked, links_in, says_commits}

-- a level without the mark
abbrev pub unmarked : Level → MarkedLevel
unmarked level = record { level = level; complete = false }

-- level C with it
abbrev pub marked : MarkedLevel
marked = record { level = C; complete = true }

-- the mark behind level C, if it is there, and the rest
abbrev pub with_mark : Level → List ℕ → MarkedLevel × List ℕ
with_mark C (c ∷ rest) = if c == 43 then (marked, rest) else (unmarked C, c ∷ rest)
with_mark level rest = (unmarked level, rest)

-- a level at the front, after a space, with its mark
abbrev pub marked_at : List ℕ → Option (MarkedLevel × List ℕ)
marked_at bytes = option_map (λ x. with_mark x.0 x.1) (level_at bytes)

-- the links up to the line feed at the end, at most 16
abbrev pub links_at : ℕ → List ℕ → Option (List MarkedLevel)
links_at n bytes = up_to marked_at n bytes

-- whether a word is at the front, and the rest
abbrev pub with_word : List ℕ → Option (List ℕ) → Bool × List ℕ
with_word bytes None = (false, bytes)
with_word bytes (Some rest) = (true, rest)

abbrev pub word_at : List ℕ → List ℕ → Bool × List ℕ
word_at word bytes = with_word bytes (after_word word bytes)

-- the words `commits` and `zero`, after a space
abbrev pub commits_at : List ℕ → Bool × List ℕ
commits_at bytes = word_at (codes " commits") bytes

abbrev pub zero_at : List ℕ → Bool × List ℕ
zero_at bytes = word_at (codes " zero") bytes

-- the links with the word `zero` before them
abbrev pub with_levels : Bool → Option (List MarkedLevel) → Option MarkedLinks
with_levels zero None = None
with_levels zero (Some levels) = Some (record { zero = zero; levels = levels })

abbrev pub marked_links_at : List ℕ → Option MarkedLinks
marked_links_at bytes = with_levels (zero_at bytes).0 (links_at 16 (zero_at bytes).1)

-- the same after the word `commits`, and whether that is there
abbrev pub with_commits : Bool → Option MarkedLinks → Option (Bool × MarkedLinks)
with_commits commits None = None
with_commits commits (Some links) = Some (commits, links)

abbrev pub named_links_at : List ℕ → Option (Bool × MarkedLinks)
named_links_at bytes = with_commits (commits_at bytes).0 (marked_links_at (commits_at bytes).1)

abbrev pub has_some : List MarkedLevel → Bool
has_some [] = false
has_some (x ∷ links) = true

-- there are links, and they are those of a trace with commits
abbrev pub is_named : Bool → MarkedLinks → Bool
is_named commits links = has_some links.levels && (commits || says_commits links)

-- the header of a trace with commits that is judged so, or there is none
abbrev pub ReadsMarked : Liberties → List ℕ → Option CommitHeader → Type 0
ReadsMarked allow line None =
    (width : Width) (may : Liberties) (links : MarkedLinks) → ¬ NamesMarked allow line width may links
ReadsMarked allow line (Some h) = NamesMarked allow line h.width h.may (links_in h)
