use Rattle.std.proofs.Common.{◌≡◌, ◌++◌, drop}
use Rattle.tl_chart.specs.statement.Picture.{bars_text, row_place}
use Rattle.tl_params.specs.declared.perm.Perm.TheVariants as perm
use Rattle.tl_chart.proofs.bars.append_bars.Given as goal

abbrev pub invariant-loop-mark : goal.invariant-loop-mark
invariant-loop-mark l =
    l.out.items ++ bars_text l.rows l.first l.bottom l.link l.x l.bar.held l.bar.from (drop l.mark-index l.marks)
    ≡ l.initial.out.items ++ bars_text l.rows l.first l.bottom l.link l.x perm.None (row_place 0) l.marks
