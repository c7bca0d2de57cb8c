-- The values that a response may bring, as they are kept address by address.
use Rattle.std.specs.Prelude.{ℕ, Bool, not, ◌||◌, ◌%◌}
use Rattle.tl_burst.specs.statement.Burst.{reaches}
use Rattle.tl_bytes.specs.statement.Known.{may_bring}
use Rattle.tl_memory.specs.declared.expected.Expected.{Expected}

-- the byte at an address is outside of the request, or one that the response may bring
abbrev pub allows : Expected → ℕ → ℕ → Bool
allows expected address v =
    not (reaches expected.address expected.size address)
    || may_bring expected.bytes (address % 64) v
