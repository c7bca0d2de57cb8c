-- Bits for tests.
use Rattle.std.specs.Prelude.{ℕ, Bool, true, false}

abbrev pub bit_if : Bool → ℕ
bit_if true = 1
bit_if false = 0
