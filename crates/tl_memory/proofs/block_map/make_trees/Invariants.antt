use Rattle.std.proofs.Common.{ℕ, ◌≡◌, ◌≤◌, length}
use Rattle.tl_memory.specs.code.BlockMap.{tree_at}
use Rattle.tl_memory.proofs.block_map.make_trees.Given as goal

abbrev pub invariant-loop : goal.invariant-loop
invariant-loop g l = record {
  same : (i : ℕ) → tree_at l.trees.items i ≡ tree_at l.fn.trees.items i;
  counted : l.counter ≤ length l.trees.items;
}
