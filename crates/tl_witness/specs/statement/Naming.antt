-- The lines and the addresses of a trace, as an explanation names them.
use Rattle.std.specs.Prelude.{ℕ, List}
use Rattle.tl_beat.specs.statement.Digits.{digits}

-- the number of the line that a recorded line came from, and the words of a recorded address
pub record Naming : Type 0 where
  pub line : ℕ → ℕ
  pub address : ℕ → List ℕ

-- both as they were recorded
abbrev pub as_recorded : Naming
as_recorded = record { line = λ n. n; address = digits 8 }
