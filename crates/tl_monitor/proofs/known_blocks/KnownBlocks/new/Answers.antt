use Rattle.std.proofs.Common.{arith}
use Rattle.tl_monitor.proofs.known_blocks.KnownBlocks.new.Goals as goal

pub invariant_of-result : goal.invariant_of-result
invariant_of-result c = (c.new.ensures 0, omega arith)
