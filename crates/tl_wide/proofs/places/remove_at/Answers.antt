use Rattle.std.specs.Prelude.{None}
use Rattle.std.proofs.Common.{rules}
use Rattle.tl_wide.proofs.Trees.{found-then}
use Rattle.tl_wide.proofs.places.remove_at.Goals as goal

pub returns-then-tree-len : goal.returns-then-tree-len
returns-then-tree-len c = found-then c.args.trees.now.items c.args.tree c.args.name c.index_mut.result.now
    c.remove_in.new.tree None (search rules) c.index_mut.ensures.value c.remove_in.ensures
