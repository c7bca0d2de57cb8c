-- Which beat showed a value of a byte, by the state of its block.
use Rattle.std.specs.Prelude.{ℕ, Option, Some, None}
use Rattle.tl_bytes.specs.statement.Known.{tellings_of}
use Rattle.tl_bytes.specs.statement.Lines.{told_moment}
use Rattle.tl_memory.specs.declared.block.BlockState.{BlockState}

-- the number of beats before the one that showed this value of the byte at a place; none if nothing is kept
abbrev pub told_by : {w : ℕ} → Option (BlockState w) → ℕ → ℕ → Option ℕ
told_by None place v = None
told_by (Some s) place v = told_moment v (tellings_of s.bytes place)
