use Rattle.tl_report.proofs.KeptLines.{at_line}
use Rattle.tl_report.proofs.kept.KeptLineJudgeLineJudge.judge_line.Goals as goal

pub returns-in-Ok-clause-judges : goal.returns-in-Ok-clause-judges
returns-in-Ok-clause-judges g c =
    at_line g.J.Taker.takings c.args.self.now c.take.new.self c.args.line.now c.in-Ok.item c.take.result
    c.take.ensures (rw c.in-Ok.is at c.read.ensures)
