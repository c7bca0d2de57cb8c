use Rattle.std.proofs.Common.{take}
use Rattle.tl_monitor.specs.code.Fresh.{AreEmpty}
use Rattle.tl_monitor.proofs.monitor.Monitor.empty_links.Given as goal

abbrev pub invariant-loop-level : goal.invariant-loop-level
invariant-loop-level g l = AreEmpty (take l.level-index l.levels) l.links.items
