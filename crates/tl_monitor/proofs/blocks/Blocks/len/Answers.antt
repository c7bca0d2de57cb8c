use Rattle.std.proofs.Common.{arith}
use Rattle.tl_monitor.specs.code.Blocks.{entries_of, with_seen}
use Rattle.tl_monitor.proofs.OpenBlocks.{all-le}
use Rattle.tl_monitor.proofs.blocks.Blocks.len.Goals as goal

pub returns-clause-few : goal.returns-clause-few
returns-clause-few c = let few =
    all-le (with_seen (entries_of c.self.inside.trees) c.self.inside.last c.self.inside.seen) in
    omega (arith, few, c.self.invariant.0)
