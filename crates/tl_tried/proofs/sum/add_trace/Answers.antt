use Rattle.std.proofs.Common.{arith}
use Rattle.tl_tried.proofs.Summed.{joined_all}
use Rattle.tl_tried.specs.statement.Sums.{added, sum_of}
use Rattle.tl_tried.proofs.sum.add_trace.Goals as goal

pub returns : goal.returns
returns c = joined_all (added c.args.trace) (sum_of c.args.trace) c.args.sums.now.items c.loop-i.sums.items
    c.args.rows.now c.loop-i.i (omega arith) c.loop-i.invariant.summed
