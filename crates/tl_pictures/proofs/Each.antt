-- A test of each element, as a test of the list.
use Rattle.std.proofs.Common.{◌≡◌, ◌↔◌, Bool, true, List, [], ◌∷◌}
use Rattle.std.specs.Prelude.{All, ◌&&◌}
use Rattle.std.proofs.lemmas.Bool.Decides.{same_from_decides, Decides-by_and}

pub where_each : {X : Type 0} (test : X → Bool) (tests : List X → Bool) → tests [] ≡ true
    → ((x : X) (xs : List X) → tests (x ∷ xs) ≡ (test x && tests xs)) → (r : Bool) (xs : List X)
    → ((r ≡ true) ↔ All (λ x. test x ≡ true) xs) → r ≡ tests xs
where_each test tests none more r xs is =
    same_from_decides r (tests xs) (is.0, is.1)
    (Decides-by_and test (λ x. test x ≡ true) tests (λ x. (λ e. e, λ e. e)) none more xs)
