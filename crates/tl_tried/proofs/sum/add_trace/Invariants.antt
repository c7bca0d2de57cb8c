use Rattle.std.proofs.Common.{◌≡◌, ◌≤◌, length}
use Rattle.tl_tried.specs.statement.Sums.{added, sum_of, with_trace}
use Rattle.tl_tried.proofs.Summed.{so_far}
use Rattle.tl_tried.proofs.sum.add_trace.Given as goal

abbrev pub invariant-loop-i : goal.invariant-loop-i
invariant-loop-i l = record {
  within : l.i ≤ length l.sums.items;
  summed : so_far (added l.trace) (sum_of l.trace) l.sums.items l.rows l.i ≡ with_trace l.trace l.initial.sums.items l.rows;
}
