use Rattle.std.proofs.Common.{arith}
use Rattle.tl_burst.proofs.Lanes.{block_size}
use Rattle.tl_schedule.proofs.access.bytes_of.Goals as goal

pub returns-clause-room : goal.returns-clause-room
returns-clause-room c = omega (arith, block_size c.args.size c.requires)
