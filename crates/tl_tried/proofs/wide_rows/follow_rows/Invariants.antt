use Rattle.std.proofs.Common.{◌≡◌, ◌≤◌, length}
use Rattle.tl_tried.proofs.Summed.{so_far}
use Rattle.tl_tried.specs.code.WideRows.{first_in, followed}
use Rattle.tl_tried.specs.statement.Sums.{with_each}
use Rattle.tl_tried.proofs.wide_rows.follow_rows.Given as goal

abbrev pub invariant-loop-i : goal.invariant-loop-i
invariant-loop-i l = record {
  within : l.i ≤ length l.seen.items;
  all : so_far (followed l.line) (first_in l.line) l.seen.items l.rows l.i
      ≡ with_each (followed l.line) (first_in l.line) l.initial.seen.items l.rows;
}
