use Rattle.std.proofs.Common.{arith}
use Rattle.tl_tried.proofs.Summed.{joined_all}
use Rattle.tl_tried.specs.code.WideRows.{first_in, followed}
use Rattle.tl_tried.proofs.wide_rows.follow_rows.Goals as goal

pub returns : goal.returns
returns c = joined_all (followed c.args.line) (first_in c.args.line) c.args.seen.now.items c.loop-i.seen.items
    c.args.rows.now c.loop-i.i (omega arith) c.loop-i.invariant.all
