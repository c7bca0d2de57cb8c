use Rattle.std.proofs.Common.{arith}
use Rattle.tl_commits.specs.code.Loading.{IsRenewed}
use Rattle.tl_memory.proofs.states.Keeping.{done-all, done-more, done-none}
use Rattle.tl_commits.proofs.renewing.renew.Goals as goal

pub loop-n-init : goal.loop-n-init
loop-n-init g c = done-none (IsRenewed c.args.judge.now c.args.table.now c.args.complete.now.items) c.args.loads.now.items

pub loop-n-preserved : goal.loop-n-preserved
loop-n-preserved g c = done-more (IsRenewed c.args.judge.now c.args.table.now c.args.complete.now.items) c.loop-n.n
    c.args.loads.now.items c.loop-n.loads.items c.index.result.now c.renewed.result c.loop-n.invariant
    (omega (arith, c.loop-n-test.true, c.len-n-end.ensures)) c.index.ensures c.renewed.ensures

pub returns : goal.returns
returns g c = done-all (IsRenewed c.args.judge.now c.args.table.now c.args.complete.now.items) c.loop-n.n
    c.args.loads.now.items c.loop-n.loads.items c.loop-n.invariant
    (omega (arith, c.loop-n-test.false, c.len-n-end.ensures))
