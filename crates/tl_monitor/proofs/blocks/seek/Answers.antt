use Rattle.std.proofs.Common.{◌≡◌, ◌<◌, arith, length, rules, ◌∙◌}
use Rattle.std.specs.Prelude.{slice_set}
use Rattle.std.proofs.lemmas.List.{length-set}
use Rattle.tl_monitor.specs.code.Blocks.{entries_of, value_found, AreOpen}
use Rattle.tl_monitor.proofs.OpenBlocks.{entries-long, found-same, found-stands, read-found, seen-open, stored}
use Rattle.tl_monitor.proofs.blocks.seek.Goals as goal

pub returns-clause-same : goal.returns-clause-same
returns-clause-same c =
    let lt : c.tree_of.result < length c.args.trees.now = omega (arith, c.told-trees, c.tree_of.ensures.below) in
    let is = stored c.args.trees.now c.index-trees-tree_of.result c.store.new.tree c.args.last c.tree_of.result
    c.args.seen c.tree_of.ensures.own lt c.store.ensures in
    let here : c.copied.result ≡ value_found c.index-trees-tree_of-2.result.entries c.args.block = search rules in
    let lt-2 : c.tree_of-2.result < length (slice_set c.args.trees.now c.tree_of.result c.store.new.tree) =
    rw (length-set c.args.trees.now c.tree_of.result c.store.new.tree, c.told-trees) c.tree_of-2.ensures.below in
    let found = read-found _ c.index-trees-tree_of-2.result c.args.block c.tree_of-2.result c.copied.result
    c.tree_of-2.ensures.own lt-2 c.index-trees-tree_of-2.is here in
    found-same _ c.args.block c.copied.result found ∙ is

pub returns-clause-stands : goal.returns-clause-stands
returns-clause-stands c =
    let lt : c.tree_of.result < length c.args.trees.now = omega (arith, c.told-trees, c.tree_of.ensures.below) in
    let is = stored c.args.trees.now c.index-trees-tree_of.result c.store.new.tree c.args.last c.tree_of.result
    c.args.seen c.tree_of.ensures.own lt c.store.ensures in
    let here : c.copied.result ≡ value_found c.index-trees-tree_of-2.result.entries c.args.block = search rules in
    let lt-2 : c.tree_of-2.result < length (slice_set c.args.trees.now c.tree_of.result c.store.new.tree) =
    rw (length-set c.args.trees.now c.tree_of.result c.store.new.tree, c.told-trees) c.tree_of-2.ensures.below in
    let found = read-found (slice_set c.args.trees.now c.tree_of.result c.store.new.tree) c.index-trees-tree_of-2.result
    c.args.block c.tree_of-2.result
    c.copied.result c.tree_of-2.ensures.own lt-2 c.index-trees-tree_of-2.is here in
    let all : AreOpen (entries_of (slice_set c.args.trees.now c.tree_of.result c.store.new.tree)) =
    rw is (seen-open (entries_of c.args.trees.now) c.args.last c.args.seen
    (entries-long c.args.trees.now c.args.last c.told-trees) c.requires.stands c.requires.open) in
    found-stands (entries_of (slice_set c.args.trees.now c.tree_of.result c.store.new.tree)) c.args.block
    c.copied.result all found

pub returns-clause-open : goal.returns-clause-open
returns-clause-open c =
    let lt : c.tree_of.result < length c.args.trees.now = omega (arith, c.told-trees, c.tree_of.ensures.below) in
    let is = stored c.args.trees.now c.index-trees-tree_of.result c.store.new.tree c.args.last c.tree_of.result
    c.args.seen c.tree_of.ensures.own lt c.store.ensures in
    let all : AreOpen (entries_of (slice_set c.args.trees.now c.tree_of.result c.store.new.tree)) =
    rw is (seen-open (entries_of c.args.trees.now) c.args.last c.args.seen
    (entries-long c.args.trees.now c.args.last c.told-trees) c.requires.stands c.requires.open) in
    all
