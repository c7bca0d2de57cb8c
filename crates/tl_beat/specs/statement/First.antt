-- Ladders of tests: the first that is true decides.
use Rattle.std.specs.Prelude.{Bool, true, false, Option, Some}

-- this if the test is true, and otherwise the rest
abbrev pub first_if : {T : Type 0} → Bool → T → Option T → Option T
first_if true x rest = Some x
first_if false x rest = rest
