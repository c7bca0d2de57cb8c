use Rattle.std.proofs.Common.{refl, arith}
use Rattle.tl_together.proofs.Answered.{free_more, free_none}
use Rattle.tl_together.proofs.free.is_free.Goals as goal

pub loop-n-init : goal.loop-n-init
loop-n-init g c = λ levels may t k e. free_none c.args.given c.args.block t

pub loop-n-preserved : goal.loop-n-preserved
loop-n-preserved g c = λ levels may t k e.
    free_more _ levels may c.loop-n.n _ c.args.given c.held_under-held.result c.args.block t c.loop-n.free
    c.leaves.result c.both-free.result k
    refl (omega (arith, e, c.loop-n-test.true)) (c.held_under-held.ensures levels may t _ k.knows) (c.loop-n.invariant levels may t k e)
    c.leaves.ensures c.both-free.ensures
