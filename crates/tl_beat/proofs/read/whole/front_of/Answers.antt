use Rattle.tl_beat.proofs.WholeLines.{front-is}
use Rattle.tl_beat.proofs.read.whole.front_of.Goals as goal

pub returns : goal.returns
returns c = front-is c.args.line.now c.front_numbers.result c.requires c.front_numbers.ensures
