-- The bytes of its block that an access reaches.
use Rattle.std.specs.Prelude.{ℕ, ◌+◌, ◌*◌, Bool}
use Rattle.tl_burst.specs.statement.Burst.{reaches}
use Rattle.tl_rules.specs.statement.History.{block_at}

-- an access of this address and size reaches the byte at a place of its block
abbrev pub is_reached : ℕ → ℕ → ℕ → Bool
is_reached address size place = reaches address size (64 * block_at address + place)
