use Rattle.std.proofs.Common.{arith}
use Rattle.std.proofs.lemmas.Result.{IfOk-weaker, on_err_weaker}
use Rattle.tl_monitor.proofs.OpenBlocks.{changed-open, changed-said, changed-stands, stays}
use Rattle.tl_monitor.proofs.blocks.make_room.Goals as goal

pub returns-clause-changed : goal.returns-clause-changed
returns-clause-changed c =
    IfOk-weaker c.make_room_in.result _ _
    (λ new h. changed-said c.args.trees.now c.index-trees-tree_of.result c.make_room_in.new.tree c.args.block
    c.tree_of.result c.args.value new c.tree_of.ensures.own c.told-trees h)
    c.make_room_in.ensures.changed

pub returns-clause-stands : goal.returns-clause-stands
returns-clause-stands c =
    IfOk-weaker c.make_room_in.result _ _
    (λ new h. changed-stands c.args.trees.now c.make_room_in.new.tree c.args.block c.tree_of.result new
    c.tree_of.ensures.own c.told-trees h)
    c.make_room_in.ensures.stands

pub returns-clause-open : goal.returns-clause-open
returns-clause-open c =
    changed-open c.args.trees.now c.make_room_in.new.tree c.args.block c.tree_of.result c.tree_of.ensures.own
    c.told-trees c.requires.open c.make_room_in.ensures.open

pub returns-clause-unchanged : goal.returns-clause-unchanged
returns-clause-unchanged c =
    on_err_weaker c.make_room_in.result
    (stays c.args.trees.now c.index-trees-tree_of.result c.make_room_in.new.tree c.args.block c.tree_of.result
    c.tree_of.ensures.own (omega (arith, c.told-trees, c.tree_of.ensures.below)))
    c.make_room_in.ensures.unchanged
