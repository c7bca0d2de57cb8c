-- What is kept of a list whose elements change as they are tested.
use Rattle.std.proofs.Common.{◌≡◌, ◌∙◌, Bool, List, [], ◌∷◌, refl, map, subst}
use Rattle.std.specs.List.Retain.{RetainsInTurn}
use Rattle.std.specs.Prelude.{filter}

-- the elements as a closure leaves them, of which it keeps those that pass a test
pub retained : {X F : Type 0} (R : F → X → Bool → F → X → Type 0) (f : F) (change : X → X) (test : X → Bool)
    (h : (x : X) (b : Bool) (f' : F) (y : X) → R f x b f' y → (y ≡ change x) × (b ≡ test y) × (f' ≡ f)) (xs ys : List X)
    → RetainsInTurn R f xs ys → ys ≡ filter test (map change xs)
retained R f change test h [] ys is = is
retained {X} {F} R f change test h (x ∷ xs) ys (b, g, y, said, zs, later, made) =
    let (left, kept, same) = h x b g y said in
    let rest : zs ≡ filter test (map change xs) =
    retained R f change test h xs zs (subst (λ (e : F). RetainsInTurn R e xs zs) same later) in
    made ∙ rw (kept, left, rest) refl
