-- A vector of which an element was written as it was is as it was.
use Rattle.std.proofs.Common.{◌≡◌, ℕ, Bool, true, false, List, ap, ◌∙◌}
use Rattle.std.{specs.Bool.OnFalse, specs.Prelude.slice_index_or, specs.Prelude.slice_set, specs.Vec.with_item}
use Rattle.std.{proofs.lemmas.List.set-get_or, specs.Global.Vec, specs.formers.vec.Vec.holding_along}

set-read : {X : Type 0} (xs : List X) (i : ℕ) (x y : X) → x ≡ slice_index_or xs i x → y ≡ x → slice_set xs i y ≡ xs
set-read xs i x y read same = ap (slice_set xs i) (same ∙ read) ∙ set-get_or xs i x

with-read : {X : Type 0} (v : Vec X) (i : ℕ) (x y : X) → x ≡ slice_index_or v.items i x → y ≡ x
    → with_item v i y ≡ v
with-read v i x y read same =
    holding_along v (slice_set v.items i y) v.items (set-read v.items i x y read same) (with_item v i y).ok v.ok

-- what is made of the vector too
pub unchanged-at : {X R : Type 0} (f : Vec X → R) (b : Bool) (v : Vec X) (i : ℕ) (x y : X)
    → x ≡ slice_index_or v.items i x → OnFalse b (y ≡ x) → OnFalse b (f (with_item v i y) ≡ f v)
unchanged-at f true v i x y read same = tt
unchanged-at f false v i x y read same = ap f (with-read v i x y read same)
