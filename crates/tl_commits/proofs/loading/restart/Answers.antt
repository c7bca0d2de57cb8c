use Rattle.std.proofs.Common.{arith}
use Rattle.tl_commits.specs.code.Loading.{IsRestarted}
use Rattle.tl_memory.proofs.states.Keeping.{done-all, done-more, done-none}
use Rattle.tl_commits.proofs.loading.restart.Goals as goal

pub loop-n-init : goal.loop-n-init
loop-n-init c = done-none (IsRestarted c.args.link c.args.piece) c.args.loads.now.items

pub loop-n-preserved : goal.loop-n-preserved
loop-n-preserved c = done-more (IsRestarted c.args.link c.args.piece) c.loop-n.n c.args.loads.now.items
    c.loop-n.loads.items c.index.result.now c.restarted.result c.loop-n.invariant
    (omega (arith, c.loop-n-test.true, c.len-n-end.ensures)) c.index.ensures c.restarted.ensures

pub returns : goal.returns
returns c = done-all (IsRestarted c.args.link c.args.piece) c.loop-n.n c.args.loads.now.items c.loop-n.loads.items
    c.loop-n.invariant (omega (arith, c.loop-n-test.false, c.len-n-end.ensures))
