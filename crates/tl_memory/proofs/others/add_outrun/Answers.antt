use Rattle.std.proofs.Common.{refl, true}
use Rattle.tl_memory.specs.code.ByteSet.{has_at}
use Rattle.tl_memory.proofs.values.Added.{added-none, added-one}
use Rattle.tl_memory.proofs.others.add_outrun.Goals as goal

pub loop-access-init : goal.loop-access-init
loop-access-init c = λ place v lt small.
    added-none (λ x. true) (λ x. x.write) c.args.outrun.now (has_at c.args.sets.now place v) _ v

pub loop-access-preserved : goal.loop-access-preserved
loop-access-preserved c = λ place v lt small.
    added-one (λ x. true) (λ x. x.write) c.args.outrun.now (has_at c.args.sets.now place v) _ v c.loop-access.access-index
    _ _ _ _ refl c.loop-access-test.true refl (c.loop-access.invariant place v lt small)
    (c.add_write.ensures place v lt small)
