use Rattle.std.proofs.Common.{◌≡◌, drop}
use Rattle.tl_cover.specs.statement.Bins.{all_bins}
use Rattle.tl_tables.specs.code.Grid.{cell, sum_from}
use Rattle.tl_tables.proofs.grid.cell.Given as goal

abbrev pub invariant-loop-place : goal.invariant-loop-place
invariant-loop-place l =
    sum_from l.line l.held l.counts l.sum l.place (drop l.place all_bins) ≡ cell l.line l.held l.counts
