use Rattle.std.proofs.Common.{subst}
use Rattle.tl_engine.specs.code.Charting.{EndsChart, KnowsChart}
use Rattle.tl_lines.specs.code.Judging.{Ends}
use Rattle.tl_engine.specs.declared.charting.ChartJudge.{ChartJudge}
use Rattle.tl_engine.specs.declared.charting.ChartJudge.TheVariants.{Four, Eight, Sixteen}
use Rattle.tl_engine.proofs.ChartedLines.{no_header, no_header_ends, read_ends, read_judged}
use Rattle.tl_engine.proofs.charting.ChartLinesLineHandler.handle_line.Goals as goal

pub returns-in-None-clause-judges : goal.returns-in-None-clause-judges
returns-in-None-clause-judges c = no_header c.args.self.now _ _ c.in-Waiting.is c.args.line.now
    (rw c.in-None.is at c.in_ok-begin-in-Waiting.ensures) _

pub returns-in-None-clause-ends : goal.returns-in-None-clause-ends
returns-in-None-clause-ends c = λ fault is.
    subst (λ (j : ChartJudge). Ends KnowsChart EndsChart c.args.self.now
    (record { allow = c.args.self.now.allow; judge = j }) c.args.line.now) c.in-Waiting.is
    (no_header_ends c.args.self.now _ _ c.in-Waiting.is c.args.line.now
    (rw c.in-None.is at c.in_ok-begin-in-Waiting.ensures))

pub returns-in-Four-clause-judges : goal.returns-in-Four-clause-judges
returns-in-Four-clause-judges c = rw c.in-Four.is (read_judged c.args.self.now.allow Four (λ c lines text k. k)
    (λ c lines text k. k) (λ c lines e. e) c.in-Four.charting c.read.new.self c.args.line.now _ c.read.result
    c.read.ensures)

pub returns-in-Four-clause-ends : goal.returns-in-Four-clause-ends
returns-in-Four-clause-ends c = rw c.in-Four.is (read_ends c.args.self.now.allow Four (λ c lines text k. k)
    (λ c lines text k. k) (λ c lines e. e) c.in-Four.charting c.read.new.self c.args.line.now c.read.result
    c.read.ensures)

pub returns-in-Eight-clause-judges : goal.returns-in-Eight-clause-judges
returns-in-Eight-clause-judges c = rw c.in-Eight.is (read_judged c.args.self.now.allow Eight (λ c lines text k. k)
    (λ c lines text k. k) (λ c lines e. e) c.in-Eight.charting c.read-in-Eight.new.self c.args.line.now _ c.read-in-Eight.result
    c.read-in-Eight.ensures)

pub returns-in-Eight-clause-ends : goal.returns-in-Eight-clause-ends
returns-in-Eight-clause-ends c = rw c.in-Eight.is (read_ends c.args.self.now.allow Eight (λ c lines text k. k)
    (λ c lines text k. k) (λ c lines e. e) c.in-Eight.charting c.read-in-Eight.new.self c.args.line.now c.read-in-Eight.result
    c.read-in-Eight.ensures)

pub returns-in-Sixteen-clause-judges : goal.returns-in-Sixteen-clause-judges
returns-in-Sixteen-clause-judges c = rw c.in-Sixteen.is (read_judged c.args.self.now.allow Sixteen (λ c lines text k. k)
    (λ c lines text k. k) (λ c lines e. e) c.in-Sixteen.charting c.read-in-Sixteen.new.self c.args.line.now _ c.read-in-Sixteen.result
    c.read-in-Sixteen.ensures)

pub returns-in-Sixteen-clause-ends : goal.returns-in-Sixteen-clause-ends
returns-in-Sixteen-clause-ends c = rw c.in-Sixteen.is (read_ends c.args.self.now.allow Sixteen (λ c lines text k. k)
    (λ c lines text k. k) (λ c lines e. e) c.in-Sixteen.charting c.read-in-Sixteen.new.self c.args.line.now c.read-in-Sixteen.result
    c.read-in-Sixteen.ensures)
