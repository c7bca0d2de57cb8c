use Rattle.std.proofs.Common.{arith}
use Rattle.tl_tried.proofs.Summed.{joined_all}
use Rattle.tl_tables.specs.statement.Counts.{cell_sum}
use Rattle.tl_tried.proofs.sum.add_cells.Goals as goal

pub returns : goal.returns
returns c = joined_all cell_sum (λ cell. cell) c.args.sums.now.items c.loop-i.sums.items c.args.cells.now c.loop-i.i
    (omega arith) c.loop-i.invariant.summed
