use Rattle.std.proofs.Common.{arith}
use Rattle.tl_monitor.proofs.Counts.{counted-le}
use Rattle.tl_monitor.proofs.byte_table.ByteTable.len.Goals as goal

pub returns-clause-few : goal.returns-clause-few
returns-clause-few g c = let few = counted-le c.self.inside.values in omega (arith, few, c.self.invariant)
