use Rattle.std.proofs.Common.{arith, rules}
use Rattle.tl_monitor.proofs.KnownBlocks.{known-counted, known-le}
use Rattle.tl_monitor.proofs.known_blocks.KnownBlocks.len.Goals as goal

pub returns-clause-counted : goal.returns-clause-counted
returns-clause-counted c =
    known-counted c.args.self.now c.self.inside.stored c.self.inside.newest c.self.inside.value c.len.result
    c.open_of.result (search rules) c.self.invariant.0 c.self.invariant.1 c.len.ensures.counted c.open_of.ensures.counted

pub returns-clause-few : goal.returns-clause-few
returns-clause-few c =
    let all = known-counted c.args.self.now c.self.inside.stored c.self.inside.newest c.self.inside.value c.len.result
    c.open_of.result (search rules) c.self.invariant.0 c.self.invariant.1 c.len.ensures.counted c.open_of.ensures.counted in
    let few = known-le c.args.self.now in
    omega (arith, all, few)
