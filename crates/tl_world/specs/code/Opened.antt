-- Counting what is outstanding.
use Rattle.std.specs.Prelude.{ℕ, Bool, ◌+◌, ◌-◌, ◌^◌, if◌then◌else◌, min}

-- a number of at most 16 bits, after one more started or ended
abbrev pub counted : Bool → Bool → ℕ → ℕ
counted starts ends n = if starts then min (n + 1) (2 ^ 16 - 1) else if ends then n - 1 else n
