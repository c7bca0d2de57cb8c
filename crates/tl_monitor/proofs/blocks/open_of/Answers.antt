use Rattle.std.proofs.Common.{ap, ◌∙◌}
use mir.Val.{bool_byte}
use Rattle.tl_monitor.proofs.OpenBlocks.{open-bytes}
use Rattle.tl_monitor.proofs.blocks.open_of.Goals as goal

pub returns-clause-counted : goal.returns-clause-counted
returns-clause-counted c =
    open-bytes c.args.block.now c.from.result c.from-2.result c.from-3.result c.from-4.result c.from-5.result
    (c.from.ensures ∙ ap bool_byte c.is_held.ensures) c.from-2.ensures c.from-3.ensures
    (c.from-4.ensures ∙ ap bool_byte c.is_some.ensures) (c.from-5.ensures ∙ ap bool_byte c.is_some-2.ensures)
