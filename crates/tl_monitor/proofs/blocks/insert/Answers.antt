use Rattle.std.proofs.Common.{◌<◌, ◌∙◌, arith, length, rules}
use Rattle.std.specs.Prelude.{slice_set}
use Rattle.std.proofs.lemmas.List.{length-set}
use Rattle.tl_monitor.specs.code.Blocks.{entries_of, tree_of}
use Rattle.tl_monitor.proofs.Inserting.{inserted, other-inserted, other-stands, own-inserted, own-stands}
use Rattle.tl_monitor.proofs.KnownBlocks.{on-err}
use Rattle.tl_monitor.proofs.OpenBlocks.{changed-open, entries-long, stays, tree-read}
use Rattle.tl_monitor.proofs.blocks.insert.Goals as goal

pub insert_in-requires-clause-open : goal.insert_in-requires-clause-open
insert_in-requires-clause-open c =
    let lt : c.tree_of.result < length c.args.trees.now = omega (arith, c.told-trees, c.tree_of.ensures.below) in
    rw (tree-read c.args.trees.now c.index-trees-tree_of.result c.args.block c.tree_of.result c.tree_of.ensures.own lt)
    (c.requires.open (tree_of c.args.block))

pub returns-in_err-insert_in-clause-open : goal.returns-in_err-insert_in-clause-open
returns-in_err-insert_in-clause-open c =
    changed-open c.args.trees.now c.insert_in.new.tree c.args.block c.tree_of.result c.tree_of.ensures.own
    c.told-trees c.requires.open c.insert_in.ensures.open

pub returns-in_err-insert_in-clause-unchanged : goal.returns-in_err-insert_in-clause-unchanged
returns-in_err-insert_in-clause-unchanged c =
    on-err c.from_residual.result
    (stays c.args.trees.now c.index-trees-tree_of.result c.insert_in.new.tree c.args.block c.tree_of.result
    c.tree_of.ensures.own (omega (arith, c.told-trees, c.tree_of.ensures.below))
    c.in_err-insert_in.ensures.unchanged)

pub returns-then-block-last-clause-changed : goal.returns-then-block-last-clause-changed
returns-then-block-last-clause-changed c =
    own-inserted (entries_of c.args.trees.now) _ c.args.last c.args.block c.args.seen c.args.value
    (entries-long c.args.trees.now c.args.last c.told-trees) (search rules)
    (inserted c.args.trees.now c.index-trees-tree_of.result c.insert_in.new.tree c.args.block c.tree_of.result
    c.args.value c.tree_of.ensures.own c.told-trees c.in_ok-insert_in.ensures.changed)
    c.requires.stands

pub returns-then-block-last-clause-stands : goal.returns-then-block-last-clause-stands
returns-then-block-last-clause-stands c =
    own-stands (entries_of c.args.trees.now) _ c.args.last c.args.block c.args.value (search rules) c.requires.some
    (inserted c.args.trees.now c.index-trees-tree_of.result c.insert_in.new.tree c.args.block c.tree_of.result
    c.args.value c.tree_of.ensures.own c.told-trees c.in_ok-insert_in.ensures.changed)

pub returns-then-block-last-clause-open : goal.returns-then-block-last-clause-open
returns-then-block-last-clause-open c =
    changed-open c.args.trees.now c.insert_in.new.tree c.args.block c.tree_of.result c.tree_of.ensures.own
    c.told-trees c.requires.open c.insert_in.ensures.open

pub returns-clause-changed : goal.returns-clause-changed
returns-clause-changed c =
    other-inserted (entries_of c.args.trees.now) _ c.args.last c.args.block c.args.seen c.args.value
    (entries-long c.args.trees.now c.args.last c.told-trees)
    (entries-long (slice_set c.args.trees.now c.tree_of.result c.insert_in.new.tree) c.args.last
    (length-set c.args.trees.now c.tree_of.result c.insert_in.new.tree ∙ c.told-trees)) (search rules)
    (inserted c.args.trees.now c.index-trees-tree_of.result c.insert_in.new.tree c.args.block c.tree_of.result
    c.args.value c.tree_of.ensures.own c.told-trees c.in_ok-insert_in.ensures.changed)
    c.requires.stands

pub returns-clause-stands : goal.returns-clause-stands
returns-clause-stands c =
    other-stands (entries_of c.args.trees.now) _ c.args.last c.args.block c.args.seen c.args.value (search rules)
    (inserted c.args.trees.now c.index-trees-tree_of.result c.insert_in.new.tree c.args.block c.tree_of.result
    c.args.value c.tree_of.ensures.own c.told-trees c.in_ok-insert_in.ensures.changed)
    c.requires.stands

pub returns-clause-open : goal.returns-clause-open
returns-clause-open c =
    changed-open c.args.trees.now c.insert_in.new.tree c.args.block c.tree_of.result c.tree_of.ensures.own
    c.told-trees c.requires.open c.insert_in.ensures.open
