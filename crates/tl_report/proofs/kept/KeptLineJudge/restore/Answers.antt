use Rattle.std.proofs.Common.{refl, rules}
use Rattle.tl_report.proofs.KeptLines.{restored, unkept}
use Rattle.tl_report.proofs.kept.KeptLineJudge.restore.Goals as goal

pub returns-in-None : goal.returns-in-None
returns-in-None g c = unkept g.J.Taker.takings c.args.self.now (search rules)

pub returns-in_ok-self-in-Some : goal.returns-in_ok-self-in-Some
returns-in_ok-self-in-Some g c =
    restored g.J.Taker.takings c.args.self.now c.in-Some.kept _ (search rules) refl c.in_ok-self-in-Some.ensures
