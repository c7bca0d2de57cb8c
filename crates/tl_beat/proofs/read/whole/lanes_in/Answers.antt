use Rattle.std.proofs.Common.{arith, ◌+◌, ◌-◌}
use Rattle.tl_beat.proofs.WholeLines.{lanes-whole}
use Rattle.tl_beat.proofs.read.whole.lanes_in.Goals as goal

pub returns : goal.returns
returns g c = lanes-whole g.row.W c.args.at (c.args.at + 16 - c.args.at) c.args.line.now c.lanes_of_digits-eight.result
    c.copy_eight.new.lanes c.requires.width (omega arith) c.copy_eight.ensures c.lanes_of_digits-eight.ensures
