-- What is known of each block, if one is kept by itself.
use Rattle.std.specs.Prelude.{ℕ, ◌==◌, if◌then◌else◌, List}
use Rattle.tl_rules.specs.declared.table.Block.{Block}
use Rattle.tl_monitor.specs.code.Blocks.{block_in}

pub record Known : Type 0 where
  pub stored : List (List (ℕ × Block))
  pub newest : ℕ
  pub value : Block

abbrev pub known_in : Known → ℕ → Block
known_in b k = if k == b.newest then b.value else block_in b.stored k
