use Rattle.std.proofs.Common.{arith, ◌+◌, ◌-◌}
use Rattle.tl_beat.proofs.WholeLines.{sixteen}
use Rattle.tl_beat.proofs.read.whole.sixteen_follow.Goals as goal

pub returns : goal.returns
returns c = sixteen c.args.form.now c.args.line.now c.args.at (c.args.at + 16 - c.args.at) c.follow.result (omega arith)
    c.requires.form c.follow.ensures
