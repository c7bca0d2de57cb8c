use Rattle.std.proofs.Common.{List, [], arith, ◌∙◌, ap}
use Rattle.tl_cover.specs.declared.row.Row.{Row}
use Rattle.tl_tried.specs.statement.Sums.{with_trace}
use Rattle.tl_tried.proofs.Summed.{traces_all, traces_on}
use Rattle.tl_tried.proofs.sum.sums_of.Goals as goal

pub loop-trace-preserved : goal.loop-trace-preserved
loop-trace-preserved c = traces_on c.args.all.now c.loop-trace.trace c.index-all-trace.result c.loop-trace.sums.items
    c.add_trace.new.sums.items [] c.loop-trace-test.true c.index-all-trace.is
    (c.in_ok-add_trace.ensures ∙ ap (λ (rows : List Row). with_trace c.loop-trace.trace c.loop-trace.sums.items rows)
    c.deref.ensures.value) c.loop-trace.invariant

pub returns : goal.returns
returns c = traces_all c.args.all.now c.loop-trace.trace c.loop-trace.sums.items [] (omega arith) c.loop-trace.invariant
