-- An Option of a pair.
use Rattle.std.proofs.Common.{◌≡◌, ap}
use Rattle.std.specs.Prelude.{Some}

pub some_pair : {A B : Type 0} (x y : A × B) → Some x ≡ Some y → (x.0 ≡ y.0) × (x.1 ≡ y.1)
some_pair {A} {B} x y e =
    let same : x ≡ y = cc in
    (ap (λ (z : A × B). z.0) same, ap (λ (z : A × B). z.1) same)
