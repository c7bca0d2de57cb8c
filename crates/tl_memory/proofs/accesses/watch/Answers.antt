use Rattle.std.proofs.Common.{arith}
use Rattle.tl_memory.specs.code.Writers.{IsWatched}
use Rattle.tl_memory.proofs.states.Keeping.{done-all, done-more, done-none}
use Rattle.tl_memory.proofs.accesses.watch.Goals as goal

pub loop-n-init : goal.loop-n-init
loop-n-init g c = done-none (IsWatched c.args.free c.args.moment) c.args.accesses.now.items

pub loop-n-preserved : goal.loop-n-preserved
loop-n-preserved g c = done-more (IsWatched c.args.free c.args.moment) c.loop-n.n c.args.accesses.now.items
    c.loop-n.accesses.items c.index_mut.result.now c.watch.new.self c.loop-n.invariant
    (omega (arith, c.loop-n-test.true, c.len-n-end.ensures)) c.index_mut.ensures.value c.watch.ensures

pub returns : goal.returns
returns g c = done-all (IsWatched c.args.free c.args.moment) c.loop-n.n c.args.accesses.now.items
    c.loop-n.accesses.items c.loop-n.invariant (omega (arith, c.loop-n-test.false, c.len-n-end.ensures))
