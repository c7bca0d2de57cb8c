use Rattle.std.proofs.Common.{◌∙◌, List, ap, arith, map}
use Rattle.serde_json.specs.Data.{Data, array}
use Rattle.serde_json.specs.View.{items_of, view}
use Rattle.tl_sign_off.proofs.Counted.{counted_all, counted_on}
use Rattle.tl_sign_off.proofs.report.counts_value.Goals as goal

pub loop-cell-preserved : goal.loop-cell-preserved
loop-cell-preserved c = counted_on (map view c.loop-cell.list.items) (map view c.push_count.new.list.items) c.args.cells.now
    c.loop-cell.cell _ (omega arith) c.in_ok-push_count.ensures c.loop-cell.invariant

pub returns : goal.returns
returns c = c.from.ensures ∙ ap (λ (ds : List Data). array (items_of ds))
    (counted_all (map view c.loop-cell.list.items) c.args.cells.now c.loop-cell.cell (omega arith) c.loop-cell.invariant)
