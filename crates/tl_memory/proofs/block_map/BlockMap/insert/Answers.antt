use Rattle.std.proofs.Common.{◌∙◌, ◌==◌, ap}
use Rattle.std.proofs.lemmas.Result.{on_err_weaker, on_ok_weaker}
use Rattle.std.specs.Prelude.{if◌then◌else◌, Some}
use Rattle.tl_memory.proofs.states.Trees.{on-err, trees-same, value-changed}
use Rattle.tl_memory.specs.statement.BlockMap.{value_in}
use Rattle.tl_memory.proofs.block_map.BlockMap.insert.Goals as goal

pub returns-in_err-make_trees-clause-unchanged : goal.returns-in_err-make_trees-clause-unchanged
returns-in_err-make_trees-clause-unchanged g c = on-err c.from_residual.result
    (trees-same c.self.inside.trees.items c.make_trees.new.trees.items c.make_trees.ensures.same ∙ c.self.view_is)

pub returns-clause-unchanged : goal.returns-clause-unchanged
returns-clause-unchanged g c = on_err_weaker c.insert_at.result
    (λ h. trees-same c.self.inside.trees.items c.insert_at.new.trees.items (λ i. h i ∙ c.make_trees.ensures.same i)
    ∙ c.self.view_is)
    c.insert_at.ensures.same

pub returns-clause-kept : goal.returns-clause-kept
returns-clause-kept g c = on_ok_weaker c.insert_at.result
    (λ h k. value-changed c.self.inside.trees.items c.make_trees.new.trees.items c.insert_at.new.trees.items
    c.tree_of.result c.args.block (λ old. Some c.args.value) c.tree_of.ensures.own c.make_trees.ensures.same h k
    ∙ ap (λ ts. if k == c.args.block then Some c.args.value else value_in ts k) c.self.view_is)
    c.insert_at.ensures.kept
