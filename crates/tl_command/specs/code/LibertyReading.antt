-- The words of liberties read from left to right, as the code goes; only private clauses cite this.
use denote.Ref.{Bor}
use Rattle.std.specs.Prelude.{◌≡◌, ℕ, Bool, true, false, List, [], ◌∷◌, ◌==◌, codes, Option, Some, None, if◌then◌else◌}
use Rattle.tl_command.specs.statement.LibertyWords.{all_liberties}
use Rattle.tl_params.specs.code.HeaderReading.{after_word}
use Rattle.tl_params.specs.declared.liberties.Liberties.{Liberties}
use Rattle.tl_params.specs.declared.liberties.Liberty.{Liberty}
use Rattle.tl_params.specs.declared.liberties.Liberty.TheVariants.{Uncorrupt}
use Rattle.tl_params.specs.statement.Liberties.{liberty_name, no_liberties, standard_liberties, with_liberty}

-- what was returned is what follows a word
abbrev pub IsAfter : List ℕ → List ℕ → Option (Bor (List ℕ)) → Type 0
IsAfter word bytes None = after_word word bytes ≡ None
IsAfter word bytes (Some rest) = after_word word bytes ≡ Some rest.now

-- what was returned is this mark
abbrev pub GivesMark : Bool × Bool × Bor (List ℕ) → Bool × (Bool × List ℕ) → Type 0
GivesMark given mark = (given.0, (given.1, given.2.now)) ≡ mark

-- whether another name may come, and what is left: after a comma one may
abbrev pub comma_at : List ℕ → Bool × List ℕ
comma_at [] = (false, [])
comma_at (c ∷ rest) = if c == 44 then (true, rest) else (false, c ∷ rest)

-- whether a name is at the front, given the text after it
abbrev pub named_at : List ℕ → Option (List ℕ) → Bool × (Bool × List ℕ)
named_at bytes None = (false, (true, bytes))
named_at bytes (Some after) = (true, comma_at after)

-- whether the name of a liberty is at the front, if one may come
abbrev pub mark_at : Liberty → Bool → List ℕ → Bool × (Bool × List ℕ)
mark_at x false bytes = (false, (false, bytes))
mark_at x true bytes = named_at bytes (after_word (liberty_name x) bytes)

abbrev pub onto_marks : Bool → List Bool × (Bool × List ℕ) → List Bool × (Bool × List ℕ)
onto_marks mark (marks, left) = (mark ∷ marks, left)

-- which of these liberties are named, in their order
unfoldable pub marks_at : List Liberty → Bool × List ℕ → List Bool × (Bool × List ℕ)
marks_at [] left = ([], left)
marks_at (x ∷ xs) (more, bytes) =
    onto_marks (mark_at x more bytes).0 (marks_at xs (mark_at x more bytes).1)

-- the set with these marks
abbrev pub set_of : List Bool → Liberties
set_of (a ∷ b ∷ c ∷ d ∷ e ∷ f ∷ g ∷ h ∷ []) = record { ids = a; sinks = b; writer = c; early = d; drops = e; reports = f; denied = g; uncorrupt = h }
set_of _ = no_liberties

-- names, unless another has to come
abbrev pub names_taken : List Bool × (Bool × List ℕ) → Option (Liberties × List ℕ)
names_taken (marks, (true, rest)) = None
names_taken (marks, (false, rest)) = Some (set_of marks, rest)

abbrev pub names_at : List ℕ → Option (Liberties × List ℕ)
names_at bytes = names_taken (marks_at all_liberties (true, bytes))

-- what follows `standard`
abbrev pub standard_at : List ℕ → Option (List ℕ) → Liberties × List ℕ
standard_at rest None = (standard_liberties, rest)
standard_at rest (Some after) = (with_liberty Uncorrupt standard_liberties, after)

abbrev pub named_or_standard : List ℕ → Option (List ℕ) → Option (Liberties × List ℕ)
named_or_standard bytes None = names_at bytes
named_or_standard bytes (Some rest) = Some (standard_at rest (after_word (codes ",uncorrupt") rest))

abbrev pub named_or_none : List ℕ → Option (List ℕ) → Option (Liberties × List ℕ)
named_or_none bytes None = named_or_standard bytes (after_word (codes "standard") bytes)
named_or_none bytes (Some rest) = Some (no_liberties, rest)

-- a set at the front
abbrev pub liberties_at : List ℕ → Option (Liberties × List ℕ)
liberties_at bytes = named_or_none bytes (after_word (codes "none") bytes)
