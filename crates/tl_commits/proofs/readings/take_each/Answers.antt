use Rattle.std.proofs.Common.{arith}
use Rattle.tl_commits.specs.code.Reading.{IsTakenBy}
use Rattle.tl_memory.proofs.states.Keeping.{done-all, done-more, done-none}
use Rattle.tl_commits.proofs.readings.take_each.Goals as goal

pub loop-n-init : goal.loop-n-init
loop-n-init g c = done-none (IsTakenBy c.args.judge.now c.args.table.now c.args.link c.args.beat.now c.args.shown)
    c.args.readings.now.items

pub loop-n-preserved : goal.loop-n-preserved
loop-n-preserved g c = done-more (IsTakenBy c.args.judge.now c.args.table.now c.args.link c.args.beat.now c.args.shown)
    c.loop-n.n c.args.readings.now.items c.loop-n.readings.items c.index_mut.result.now c.take.new.self
    c.loop-n.invariant (omega (arith, c.loop-n-test.true, c.len-n-end.ensures)) c.index_mut.ensures.value c.take.ensures

pub returns : goal.returns
returns g c = done-all (IsTakenBy c.args.judge.now c.args.table.now c.args.link c.args.beat.now c.args.shown) c.loop-n.n
    c.args.readings.now.items c.loop-n.readings.items c.loop-n.invariant
    (omega (arith, c.loop-n-test.false, c.len-n-end.ensures))
