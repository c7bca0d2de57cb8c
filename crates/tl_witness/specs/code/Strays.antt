-- Which beats showed which values of bytes, by the state of a judge.
use Rattle.std.specs.Prelude.{ℕ, ◌%◌, Option}
use Rattle.tl_memory.specs.code.Lines.{told_by}
use Rattle.tl_memory.specs.statement.Blocks.{state_in}
use Rattle.tl_rules.specs.statement.History.{block_at}
use Rattle.tl_together.specs.declared.judge.Judge.{Judge}

-- the number of beats before the one that showed this value of the byte at an address
abbrev pub told_of : {w : ℕ} → Judge w → ℕ → ℕ → Option ℕ
told_of j address v = told_by (state_in j.memory.blocks (block_at address)) (address % 64) v
