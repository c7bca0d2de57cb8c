use Rattle.std.proofs.Common.{rules}
use Rattle.tl_memory.proofs.states.Trees.{entry-changed}
use Rattle.tl_memory.specs.code.BlockMap.{replaced}
use Rattle.tl_memory.proofs.block_map.replace_at.Goals as goal

pub returns-then-tree-len : goal.returns-then-tree-len
returns-then-tree-len g c = entry-changed c.args.trees.now.items c.args.tree c.args.block c.index_mut.result.now
    c.replace_in.new.tree (replaced c.args.value) (search rules) c.index_mut.ensures.value c.replace_in.ensures
