use Rattle.std.proofs.Common.{◌≡◌, ◌<◌, ap, arith, length, ◌∙◌, rules}
use Rattle.std.specs.Option.{option_copied}
use Rattle.tl_monitor.specs.code.Blocks.{block_or_empty, entries_of, value_found}
use Rattle.tl_monitor.proofs.OpenBlocks.{entries-long, own-said, other-said, read-found}
use Rattle.tl_monitor.proofs.blocks.Blocks.get.Goals as goal

pub returns-then-block-self : goal.returns-then-block-self
returns-then-block-self c =
    let long = entries-long c.self.inside.trees c.self.inside.last c.self.invariant.3 in
    c.or_empty.ensures ∙ ap block_or_empty c.as_ref.ensures.value
    ∙ own-said (entries_of c.self.inside.trees) c.args.self.now c.self.inside.last c.args.block c.self.inside.seen long
    c.self.invariant.2 (search rules) c.if-block-self.true

pub returns-else-block-self : goal.returns-else-block-self
returns-else-block-self c =
    let long = entries-long c.self.inside.trees c.self.inside.last c.self.invariant.3 in
    let here : option_copied c.get.result ≡ value_found c.index-self-tree_of.result.entries c.args.block = search rules
    in
    let lt : c.tree_of.result < length c.self.inside.trees = omega (arith, c.self.invariant.3, c.tree_of.ensures.below)
    in
    let found = read-found c.self.inside.trees c.index-self-tree_of.result c.args.block c.tree_of.result
    (option_copied c.get.result) c.tree_of.ensures.own lt c.index-self-tree_of.is here in
    c.or_empty-else-block-self.ensures ∙ ap block_or_empty found
    ∙ other-said (entries_of c.self.inside.trees) c.args.self.now c.self.inside.last c.args.block c.self.inside.seen
    long c.self.invariant.2 (search rules) (search rules)
