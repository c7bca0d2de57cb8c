-- The beat that made a value of a byte possible.
use Rattle.std.specs.Prelude.{ℕ, [], ◌∷◌, if◌then◌else◌, List, Option, Some, None}
use Rattle.tl_bytes.specs.declared.telling.Telling.{Telling}
use Rattle.tl_bytes.specs.statement.Bytes.{same_value}

-- the number of beats before the one that made this value possible, by the first of these entries that has it
unfoldable pub told_moment : ℕ → List Telling → Option ℕ
told_moment v [] = None
told_moment v (e ∷ more) = if same_value e.value (Some v) then Some e.moment else told_moment v more
