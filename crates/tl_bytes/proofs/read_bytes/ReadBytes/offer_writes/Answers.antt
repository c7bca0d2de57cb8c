use Rattle.tl_bytes.proofs.Offered.{left-first, left-none, offered-all, offered-next}
use Rattle.tl_bytes.proofs.read_bytes.ReadBytes.offer_writes.Goals as goal

pub loop-write-preserved : goal.loop-write-preserved
loop-write-preserved c = λ at v lt. offered-next _ _ _ _ _ _ (c.loop-write.invariant at v lt)
    (left-first at v c.args.writes.now c.loop-write.write-index _ c.loop-write-test.true)
    (c.in_ok-write.ensures at v lt)

pub returns : goal.returns
returns c = λ at v lt. offered-all _ _ _ (c.loop-write.invariant at v lt)
    (left-none at v c.args.writes.now c.loop-write.write-index c.loop-write-test.false)
