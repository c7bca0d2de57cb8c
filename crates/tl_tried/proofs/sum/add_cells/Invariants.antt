use Rattle.std.proofs.Common.{◌≡◌, ◌≤◌, length}
use Rattle.tl_tables.specs.statement.Counts.{cell_sum}
use Rattle.tl_tried.specs.statement.Sums.{with_cells}
use Rattle.tl_tried.proofs.Summed.{so_far}
use Rattle.tl_tried.proofs.sum.add_cells.Given as goal

abbrev pub invariant-loop-i : goal.invariant-loop-i
invariant-loop-i l = record {
  within : l.i ≤ length l.sums.items;
  summed : so_far cell_sum (λ cell. cell) l.sums.items l.cells l.i ≡ with_cells l.initial.sums.items l.cells;
}
