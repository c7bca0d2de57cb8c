use Rattle.std.proofs.Common.{◌∙◌, ◌==◌, ap, refl}
use Rattle.std.specs.Prelude.{if◌then◌else◌}
use Rattle.tl_memory.proofs.states.Trees.{value-changed}
use Rattle.tl_memory.specs.code.BlockMap.{replaced}
use Rattle.tl_memory.specs.statement.BlockMap.{value_in}
use Rattle.tl_memory.proofs.block_map.BlockMap.replace.Goals as goal

pub returns : goal.returns
returns g c = λ k.
    value-changed c.self.inside.trees.items c.self.inside.trees.items c.replace_at.new.trees.items c.tree_of.result
    c.args.block (replaced c.args.value) c.tree_of.ensures.own (λ i. refl) c.replace_at.ensures k
    ∙ ap (λ ts. if k == c.args.block then replaced c.args.value (value_in ts k) else value_in ts k) c.self.view_is
