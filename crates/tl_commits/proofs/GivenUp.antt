-- Beats that give Trunk up.
use Rattle.std.proofs.Common.{◌≡◌, ◌&&◌, Bool, true, false, refl}

pub and-turned : (a b c : Bool) → ((a && b) && c) ≡ (b && (a && c))
and-turned true true c = refl
and-turned true false c = refl
and-turned false true c = refl
and-turned false false c = refl
