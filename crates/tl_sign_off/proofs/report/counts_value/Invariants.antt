use Rattle.std.proofs.Common.{◌≡◌, ◌++◌, drop, map}
use Rattle.serde_json.specs.View.{view}
use Rattle.tl_sign_off.specs.statement.Report.{counted_from}
use Rattle.tl_sign_off.proofs.report.counts_value.Given as goal

abbrev pub invariant-loop-cell : goal.invariant-loop-cell
invariant-loop-cell l =
    map view l.list.items ++ counted_from l.cell (drop l.cell l.cells) ≡ counted_from 0 l.cells
