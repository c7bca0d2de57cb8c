-- The words that name the liberties of links, in a header and on the command line.
use denote.Ref.{Bor}
use Rattle.std.specs.Prelude.{Option, Some, None, ◌≡◌, ◌≢◌, ◌⊎◌, ◌++◌, ℕ, List, [], ◌∷◌, codes, map}
use Rattle.std.specs.List.{filter}
use Rattle.tl_command.specs.statement.Words.{Text}
use Rattle.tl_params.specs.declared.liberties.Liberties.{Liberties}
use Rattle.tl_params.specs.declared.liberties.Liberty.{Liberty}
use Rattle.tl_params.specs.declared.liberties.Liberty.TheVariants.{Ids, Sinks, Writer, Early, Drops, Reports, Denied}
use Rattle.tl_params.specs.declared.liberties.Liberty.TheVariants.{Uncorrupt}
use Rattle.tl_params.specs.statement.Liberties.{allows, liberty_name, no_liberties, standard_liberties, with_liberty}

-- all liberties, in the order of their names in a word
abbrev pub all_liberties : List Liberty
all_liberties = Ids ∷ Sinks ∷ Writer ∷ Early ∷ Drops ∷ Reports ∷ Denied ∷ Uncorrupt ∷ []

-- names with a comma between them
unfoldable pub joined : List (List ℕ) → List ℕ
joined [] = []
joined (name ∷ []) = name
joined (name ∷ next ∷ names) = name ++ 44 ∷ joined (next ∷ names)

-- the names of the liberties in a set
abbrev pub names_of : Liberties → List (List ℕ)
names_of l = map liberty_name (filter (allows l) all_liberties)

-- The word names this set: `none`; `standard`, all but the last; `standard,uncorrupt`, all eight; or the names of one
-- or more.
abbrev pub SpellsLiberties : List ℕ → Liberties → Type 0
SpellsLiberties word l =
    ((word ≡ codes "none") × (l ≡ no_liberties))
    ⊎ ((word ≡ codes "standard") × (l ≡ standard_liberties))
    ⊎ ((word ≡ codes "standard,uncorrupt") × (l ≡ with_liberty Uncorrupt standard_liberties))
    ⊎ ((names_of l ≢ []) × (word ≡ joined (names_of l)))

-- the first byte isn't a comma
abbrev pub LacksComma : List ℕ → Type 0
LacksComma bytes = (rest : List ℕ) → bytes ≢ 44 ∷ rest

-- these liberties were read, and these bytes are left
abbrev pub IsRead : Option (Liberties × Bor (List ℕ)) → Liberties → List ℕ → Type 0
IsRead None l rest = ⊥
IsRead (Some x) l rest = (x.0 ≡ l) × (x.1.now ≡ rest)

-- the liberties that `--allow` adds to those of the header, by its word; none without it
abbrev pub AreAllowed : Option Text → Liberties → Type 0
AreAllowed None l = l ≡ no_liberties
AreAllowed (Some word) l = SpellsLiberties word l
