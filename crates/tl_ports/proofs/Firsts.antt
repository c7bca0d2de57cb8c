-- The first element that passes a test, and the list without it.
use Rattle.std.proofs.Common.{◌≡◌, ◌+◌, ◌<◌, ◌++◌, ◌∷◌, ℕ, Bool, true, false, List, [], length, take, drop, get_or}
use Rattle.std.proofs.Common.{refl, sym, ap, ◌∙◌}
use Rattle.std.specs.Prelude.{filter}
use Rattle.std.proofs.lemmas.List.{take-append-drop, drop_more}
use Rattle.std.proofs.lemmas.List.Elements.{filter-append}

-- a list, cut at one of its elements
pub cut : {X : Type 0} (xs : List X) (i : ℕ) (d : X) → i < length xs → xs ≡ take i xs ++ get_or xs i d ∷ drop (i + 1) xs
cut xs i d lt = sym (take-append-drop i xs) ∙ ap (λ ys. take i xs ++ ys) (drop_more xs i d lt)

-- what passes, from the first on
pub filter_first : {X : Type 0} (p : X → Bool) (xs : List X) (i : ℕ) (d : X) → i < length xs → filter p (take i xs) ≡ []
    → p (get_or xs i d) ≡ true → filter p xs ≡ get_or xs i d ∷ filter p (drop (i + 1) xs)
filter_first p xs i d lt none passes =
    ap (filter p) (cut xs i d lt) ∙ filter-append p (take i xs) (get_or xs i d ∷ drop (i + 1) xs) ∙ rw (none, passes)
    refl

-- without the first
pub filter_rest : {X : Type 0} (p : X → Bool) (xs : List X) (i : ℕ) → filter p (take i xs) ≡ []
    → filter p (take i xs ++ drop (i + 1) xs) ≡ filter p (drop (i + 1) xs)
filter_rest p xs i none = filter-append p (take i xs) (drop (i + 1) xs) ∙ rw none refl

-- one that doesn't pass may go
pub filter_other : {X : Type 0} (p : X → Bool) (xs : List X) (i : ℕ) (d : X) → i < length xs → p (get_or xs i d) ≡ false
    → filter p (take i xs ++ drop (i + 1) xs) ≡ filter p xs
filter_other p xs i d lt fails =
    filter-append p (take i xs) (drop (i + 1) xs)
    ∙ sym (ap (filter p) (cut xs i d lt) ∙ filter-append p (take i xs) (get_or xs i d ∷ drop (i + 1) xs) ∙ rw fails
    refl)
