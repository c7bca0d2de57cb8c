use Rattle.std.proofs.Common.{refl}
use Rattle.tl_report.proofs.KeptLines.{refuses_it, takes_it}
use Rattle.tl_report.proofs.kept.KeptLineJudge.take.Goals as goal

pub returns-in_ok-keep-in-None : goal.returns-in_ok-keep-in-None
returns-in_ok-keep-in-None g c =
    takes_it g.J.Taker.takings c.args.self.now _ c.keep.new.self c.args.item refl
    (rw c.in-None.is at c.in_ok-take.ensures) c.in_ok-keep-in-None.ensures c.cell.result c.cell.ensures.cell
    c.cell.ensures.below

pub returns-in_ok-restore-in-Some : goal.returns-in_ok-restore-in-Some
returns-in_ok-restore-in-Some g c =
    refuses_it g.J.Taker.takings c.args.self.now _ c.restore.new.self c.args.item refl c.in-Some.fault
    (rw c.in-Some.is at c.in_ok-take.ensures) c.in_ok-restore-in-Some.ensures
