use Rattle.std.proofs.lemmas.Result.{err_from_is_err_and}
use Rattle.tl_engine.proofs.ChartedLines.{charts}
use Rattle.tl_engine.proofs.chart.chart_input.Goals as goal

pub returns-clause-ok : goal.returns-clause-ok
returns-clause-ok g c = (
  c.in_ok-chart.chart.items,
  charts c.args.allow c.args.window _ _ c.in_ok-lines.lines c.gather.new.verdict.items _ c.in_ok-lines.status
      c.in_ok-chart.chart.items c.in_ok-lines.ensures.ok
      c.in_ok-lines.ensures.allow c.deref.ensures.value (rw c.in_ok-chart.was at c.drawn-chart.ensures),
  rw c.deref-2.ensures.value at c.in_ok-write_all.ensures.ok,
)

pub returns-in_err-write_all-clause-fault : goal.returns-in_err-write_all-clause-fault
returns-in_err-write_all-clause-fault g c =
    let p = err_from_is_err_and c.from_residual-in_err-write_all.result c.from_residual-in_err-write_all.ensures.1 in
    rw (p.1, p.2, c.in_err-write_all.ensures.fault) (
      c.in_ok-chart.chart.items,
      c.in_ok-lines.status,
      charts c.args.allow c.args.window _ _ c.in_ok-lines.lines c.gather.new.verdict.items _ c.in_ok-lines.status
          c.in_ok-chart.chart.items c.in_ok-lines.ensures.ok
          c.in_ok-lines.ensures.allow c.deref.ensures.value (rw c.in_ok-chart.was at c.drawn-chart.ensures),
      rw c.deref-2.ensures.value at c.in_err-write_all.ensures.err,
    )
