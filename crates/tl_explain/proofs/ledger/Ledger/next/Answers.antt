use Rattle.tl_explain.proofs.Waiting.{next-kept}
use Rattle.tl_explain.proofs.ledger.Ledger.next.Goals as goal

pub loop-pending-preserved : goal.loop-pending-preserved
loop-pending-preserved c =
    next-kept c.args.self.now.pending.items c.as_slice-pending-items.result.now c.loop-pending.pending-index _
    c.args.after.now c.loop-pending.oldest c.or_older-oldest.result c.as_slice-pending-items.ensures.value
    c.loop-pending-test.true c.loop-pending.invariant c.or_older-oldest.ensures
