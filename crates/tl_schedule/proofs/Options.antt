-- What is left of a reading that gave something.
use Rattle.std.{proofs.Common.◌≡◌, proofs.Common.refl, specs.Prelude.Option, specs.Prelude.Some, specs.Prelude.None}
use Rattle.tl_schedule.specs.code.Then.{◌>>=◌}

-- each of two readings in a row gave something
pub bind_some : {A B : Type 0} (o : Option A) (f : A → Option B) (y : B) → (o >>= f) ≡ Some y → (x : A) × (o ≡ Some x)
    × (f x ≡ Some y)
bind_some None f y e = absurd cc
bind_some (Some x) f y e = (x, refl, e)
