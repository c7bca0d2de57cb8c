-- Plain facts of truth values and options.
use Rattle.std.proofs.Common.{◌≡◌, true, false}
use Rattle.std.specs.Prelude.{Some, None}

pub true_false : {X : Type 0} → true ≡ false → X
true_false e = absurd cc

pub none-some : {X Y : Type 0} {x : X} → None ≡ Some x → Y
none-some e = absurd cc

pub some-same : {X : Type 0} {x y : X} → Some x ≡ Some y → x ≡ y
some-same e = cc
