-- How the lines and the addresses of a wide trace are named that were recorded as those of the beats that it became.
use Rattle.std.specs.Prelude.{ℕ, List, ◌++◌, ◌+◌, ◌-◌, ◌*◌, ◌/◌, ◌%◌, ◌^◌, nat_le, count_by}
use Rattle.tl_beat.specs.statement.Digits.{digits}
use Rattle.tl_witness.specs.statement.Naming.{Naming}

-- The number of the line that a recorded line came from: less by one for each line up to it that is that of a later
-- part
-- of a wide beat. These are the numbers of those lines.
abbrev pub line_of : List ℕ → ℕ → ℕ
line_of later n = n - count_by (λ m. nat_le m n) later

-- an address in the block of one that was written, by its place in the block
abbrev pub address_of : ℕ → ℕ → List ℕ
address_of whole address = digits 8 (whole / 2 ^ 32) ++ digits 8 (whole % 2 ^ 32 / 64 * 64 + address % 64)

-- both
abbrev pub names_of : List ℕ → ℕ → Naming
names_of later whole = record { line = line_of later; address = address_of whole }
