-- The first element of a list that passes a test.
use Rattle.std.specs.Prelude.{ℕ, Bool, true, List, [], ◌≡◌, ◌<◌, length, take, filter, slice_index_or, Option, Some}
use Rattle.std.specs.Prelude.{None}

-- this is the place of the first that passes, if one does
abbrev pub IsFirst : {X : Type 0} → (X → Bool) → List X → Option ℕ → Type 0
IsFirst p xs None = filter p xs ≡ []
IsFirst {X} p xs (Some i) =
    (i < length xs) × (filter p (take i xs) ≡ []) × ((d : X) → p (slice_index_or xs i d) ≡ true)
