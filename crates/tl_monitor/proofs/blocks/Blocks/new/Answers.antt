use Rattle.std.specs.Prelude.{None}
use Rattle.tl_monitor.specs.code.Blocks.{entries_of, with_seen}
use Rattle.tl_monitor.proofs.OpenBlocks.{all-none, new-in, new-open, new-seen}
use Rattle.tl_monitor.proofs.blocks.Blocks.new.Goals as goal

pub invariant_of-result : goal.invariant_of-result
invariant_of-result c =
    let trees = entries_of c.new_trees.result in
    let empty = c.new_trees.ensures.empty in (
      all-none (with_seen trees 0 None) (new-in trees empty),
      new-open trees empty,
      new-seen trees empty,
      c.new_trees.ensures.long,
    )

pub returns : goal.returns
returns c = new-in (entries_of c.new_trees.result) c.new_trees.ensures.empty
