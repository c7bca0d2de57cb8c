-- The result of a call that refuses, with the first rule or limit that is broken.
use Rattle.std.specs.Prelude.{⊤, Option, Some, None, Result, Ok, Err}

-- Ok if nothing is broken, otherwise the error
abbrev pub ok_unless : {E : Type 0} → Option E → Result ⊤ E
ok_unless None = Ok tt
ok_unless (Some broken) = Err broken
