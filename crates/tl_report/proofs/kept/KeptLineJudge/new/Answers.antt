use Rattle.tl_report.proofs.KeptLines.{begins}
use Rattle.tl_report.proofs.kept.KeptLineJudge.new.Goals as goal

pub returns : goal.returns
returns g c = begins g.J.Taker.takings c.args.aim c.args.judge c.args.links c.start-kept.result c.start-kept.ensures
