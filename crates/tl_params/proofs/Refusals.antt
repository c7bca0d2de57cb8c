-- What follows from what a call answers that refuses by the first rule or limit that is broken.
use Rattle.std.proofs.Common.{◌≡◌, Option, Some, None, Ok, Err, refl}
use Rattle.tl_params.specs.statement.Refusal.{ok_unless}

pub none_broken : {E : Type 0} (o : Option E) → Ok tt ≡ ok_unless o → o ≡ None
none_broken None e = refl
none_broken (Some broken) e = absurd cc

pub some_broken : {E : Type 0} (o : Option E) (broken : E) → Err broken ≡ ok_unless o → o ≡ Some broken
some_broken None broken e = absurd cc
some_broken (Some other) broken e = let same : broken ≡ other = cc in rw same refl
