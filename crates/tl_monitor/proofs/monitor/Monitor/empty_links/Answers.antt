use Rattle.std.proofs.Common.{arith, refl}
use Rattle.tl_monitor.proofs.Knowing.{empty-more}
use Rattle.tl_monitor.proofs.monitor.Monitor.empty_links.Goals as goal

pub loop-level-preserved : goal.loop-level-preserved
loop-level-preserved g c = rw c.in_ok-push.ensures.items
    (empty-more c.args.levels.now c.loop-level.level-index _ c.loop-level.links.items _ c.loop-level.invariant
    (omega arith) refl c.new.ensures)
