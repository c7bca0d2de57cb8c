use Rattle.std.proofs.lemmas.Result.{on_err_weaker, on_ok_weaker}
use Rattle.std.specs.Prelude.{Some}
use Rattle.tl_wide.proofs.Trees.{found-same, found-then}
use Rattle.tl_wide.proofs.places.insert_at.Goals as goal

pub returns-clause-same : goal.returns-clause-same
returns-clause-same c = on_err_weaker c.insert_in.result
    (λ h. found-same c.args.trees.now.items c.args.tree c.index_mut.result.now c.insert_in.new.tree c.requires
    c.index_mut.ensures.value h)
    c.insert_in.ensures.same

pub returns-clause-more : goal.returns-clause-more
returns-clause-more c = on_ok_weaker c.insert_in.result
    (λ h. found-then c.args.trees.now.items c.args.tree c.args.name c.index_mut.result.now c.insert_in.new.tree
    (Some c.args.place) c.requires c.index_mut.ensures.value h)
    c.insert_in.ensures.more
