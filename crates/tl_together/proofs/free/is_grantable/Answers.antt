use Rattle.std.proofs.Common.{arith}
use Rattle.tl_together.proofs.Answered.{grantable_more, grantable_none}
use Rattle.tl_together.proofs.Beside.{free_leaves}
use Rattle.tl_together.proofs.free.is_grantable.Goals as goal

pub loop-n-init : goal.loop-n-init
loop-n-init g c = λ levels may t k e known. grantable_none c.args.link c.args.given c.args.block t

pub loop-n-preserved : goal.loop-n-preserved
loop-n-preserved g c = λ levels may t k e known.
    grantable_more c.loop-n.n c.args.link c.args.given c.granted-granted.result c.args.block t c.loop-n.free
    c.is_own_or_leaves.result c.both-free.result
    (c.granted-granted.ensures levels may t c.args.given k (omega (arith, e, c.loop-n-test.true))
    (λ free. free_leaves c.args.links c.loop-n.n c.args.given c.args.block t (known free)
    (omega (arith, c.loop-n-test.true))))
    (c.loop-n.invariant levels may t k e known) c.is_own_or_leaves.ensures c.both-free.ensures
