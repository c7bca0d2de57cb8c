use Rattle.std.proofs.Common.{refl, rules}
use Rattle.tl_report.proofs.KeptLines.{keeps_more, keeps_none}
use Rattle.tl_report.proofs.kept.KeptLineJudge.keep.Goals as goal

pub returns-in-None : goal.returns-in-None
returns-in-None g c = keeps_none g.J.Taker.takings c.args.self.now c.args.item (search rules)

pub returns-in_ok-push-in-Some : goal.returns-in_ok-push-in-Some
returns-in_ok-push-in-Some g c =
    keeps_more g.J.Taker.takings c.args.self.now c.in-Some.kept _ c.args.item _ refl refl (search rules)
    refl refl (search rules)
