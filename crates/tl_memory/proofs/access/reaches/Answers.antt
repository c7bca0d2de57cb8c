use Rattle.std.proofs.Common.{arith}
use Rattle.tl_memory.proofs.values.Lanes.{reach-far}
use Rattle.tl_memory.proofs.access.reaches.Goals as goal

pub returns-then-size-gt6 : goal.returns-then-size-gt6
returns-then-size-gt6 c = λ lt. reach-far c.args.address c.args.size c.args.place lt (omega arith) (omega arith)
