use Rattle.std.proofs.lemmas.Result.{on_err_weaker, on_ok_weaker}
use Rattle.std.specs.Prelude.{Some}
use Rattle.tl_memory.proofs.states.Trees.{entries-same, entry-changed}
use Rattle.tl_memory.proofs.block_map.insert_at.Goals as goal

pub returns-clause-same : goal.returns-clause-same
returns-clause-same g c = on_err_weaker c.insert_in.result
    (λ h. entries-same c.args.trees.now.items c.args.tree c.index_mut.result.now c.insert_in.new.tree c.requires
    c.index_mut.ensures.value h)
    c.insert_in.ensures.same

pub returns-clause-kept : goal.returns-clause-kept
returns-clause-kept g c = on_ok_weaker c.insert_in.result
    (λ h. entry-changed c.args.trees.now.items c.args.tree c.args.block c.index_mut.result.now c.insert_in.new.tree
    (λ old. Some c.args.value) c.requires c.index_mut.ensures.value h)
    c.insert_in.ensures.kept
