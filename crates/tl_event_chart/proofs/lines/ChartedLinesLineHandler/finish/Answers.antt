use Rattle.std.proofs.lemmas.Result.{IfOk-weaker}
use Rattle.tl_wide_event_lines.specs.code.EventWatching.{any_judged_for}
use Rattle.tl_wide_event_lines.specs.statement.JudgedWideEvents.{JudgedAny}
use Rattle.tl_event_chart.proofs.Drawing.{charted-finishes}
use Rattle.tl_event_chart.proofs.lines.ChartedLinesLineHandler.finish.Goals as goal

pub returns-clause-finishes : goal.returns-clause-finishes
returns-clause-finishes c = IfOk-weaker c.finish.result _ _
    (λ fault ends. charted-finishes c.args.self.now c.args.count c.args.out.now.items c.finish.new.out.items
    (JudgedAny (any_judged_for c.args.self.now.lines).0 (any_judged_for c.args.self.now.lines).1) fault ends)
    c.finish.ensures.finishes

pub returns-clause-ends : goal.returns-clause-ends
returns-clause-ends c = λ fault is lines text known. known.1.has
