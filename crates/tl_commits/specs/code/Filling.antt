-- Sets of values of a byte, with what a Grant under way has brought.
use Rattle.std.specs.Prelude.{ℕ, ◌||◌, Bool, Option, Some, None}
use Rattle.tl_bytes.specs.statement.Bytes.{could_be}

-- The value v is in a set and is added by what a Grant under way has brought, or is in another if that has brought nothing.
abbrev pub filled : Option (Option ℕ) → Bool → Bool → ℕ → Bool
filled None own held v = held
filled (Some value) own held v = own || could_be v value
