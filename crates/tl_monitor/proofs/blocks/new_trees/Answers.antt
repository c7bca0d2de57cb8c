use Rattle.std.proofs.Common.{rules}
use Rattle.tl_monitor.proofs.OpenBlocks.{new-trees}
use Rattle.tl_monitor.proofs.blocks.new_trees.Goals as goal

pub returns-clause-empty : goal.returns-clause-empty
returns-clause-empty c = new-trees c.from_fn.result c.from_fn.ensures.items.long (λ i d lt. let m =
    (c.from_fn.ensures.items.at i d lt).2.met in search (rules, m))
