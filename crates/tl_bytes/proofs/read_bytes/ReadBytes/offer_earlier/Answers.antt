use Rattle.tl_bytes.proofs.Offered.{offered-all, offered-next, told-first, told-none}
use Rattle.tl_bytes.proofs.read_bytes.ReadBytes.offer_earlier.Goals as goal

pub loop-told-preserved : goal.loop-told-preserved
loop-told-preserved c = λ at v. offered-next _ _ _ _ _ _ (c.loop-told.invariant at v)
    (told-first at v c.args.earlier.now c.loop-told.told-index _ c.loop-told-test.true) (c.in_ok-offer.ensures at v)

pub returns : goal.returns
returns c = λ at v. offered-all _ _ _ (c.loop-told.invariant at v)
    (told-none at v c.args.earlier.now c.loop-told.told-index c.loop-told-test.false)
