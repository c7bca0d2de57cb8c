use Rattle.std.proofs.Common.{take}
use Rattle.tl_report.proofs.KeptLines.{TakesAgain}
use Rattle.tl_report.proofs.kept.Kept.judge_again.Given as goal

abbrev pub invariant-loop-item : goal.invariant-loop-item
invariant-loop-item g l = TakesAgain g.J.Taker.takings l.self l.judge (take l.item-index l.self.taken.items)
