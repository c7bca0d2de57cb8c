use Rattle.std.proofs.Common.{sym, ◌∙◌}
use Rattle.tl_memory.specs.code.ByteSet.{has_at}
use Rattle.tl_commits.proofs.BytesAnswered.{write-next, write-none}
use Rattle.tl_commits.proofs.granting.add_writes.Goals as goal

pub loop-write-preserved : goal.loop-write-preserved
loop-write-preserved c = λ place v lt small.
    write-next place v c.args.writes.now c.loop-write.write-index _ (has_at c.loop-write.sets place v) _
    c.loop-write-test.true (c.add_write.ensures place v lt small) ∙ c.loop-write.invariant place v lt small

pub returns : goal.returns
returns c = λ place v lt small.
    sym (write-none place v c.args.writes.now c.loop-write.write-index (has_at c.loop-write.sets place v)
    c.loop-write-test.false) ∙ c.loop-write.invariant place v lt small
