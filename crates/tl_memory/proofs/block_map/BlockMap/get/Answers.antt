use Rattle.std.proofs.Common.{◌∙◌, ap}
use Rattle.tl_memory.proofs.states.Trees.{value-read}
use Rattle.tl_memory.specs.statement.BlockMap.{value_in}
use Rattle.tl_memory.proofs.block_map.BlockMap.get.Goals as goal

pub returns : goal.returns
returns g c = c.find_in.ensures
    ∙ value-read c.self.inside.trees.items c.tree_of.result c.args.block c.tree_of.ensures.own
    ∙ ap (λ ts. value_in ts c.args.block) c.self.view_is
