-- The result of a call that returns whether it wrote its value, as the result of one that returns the value.
use Rattle.std.specs.Prelude.{Bool, true, false, Option, Some, None, Result, Ok, Err}

-- None if nothing was written, otherwise the value
abbrev pub written : {A E : Type 0} → A → Result Bool E → Result (Option A) E
written value (Err fault) = Err fault
written value (Ok false) = Ok None
written value (Ok true) = Ok (Some value)
