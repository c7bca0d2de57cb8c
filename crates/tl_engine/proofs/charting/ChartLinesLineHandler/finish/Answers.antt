use Rattle.std.proofs.Common.{rules}
use Rattle.tl_engine.proofs.ChartedLines.{chart_clean, chart_missing, drawn_here}
use Rattle.tl_engine.proofs.charting.ChartLinesLineHandler.finish.Goals as goal

pub returns-in-Waiting-clause-finishes : goal.returns-in-Waiting-clause-finishes
returns-in-Waiting-clause-finishes c = chart_missing c.args.self.now _ _ c.in-Waiting.is _ _

pub returns-in_ok-append_end-in_default-clause-finishes : goal.returns-in_ok-append_end-in_default-clause-finishes
returns-in_ok-append_end-in_default-clause-finishes c =
    chart_clean c.args.self.now c.in_default.not-Waiting _ _ _ (search rules)

pub returns-in-Waiting-clause-ends : goal.returns-in-Waiting-clause-ends
returns-in-Waiting-clause-ends c = λ fault is lines text k. drawn_here c.args.self.now lines text k
