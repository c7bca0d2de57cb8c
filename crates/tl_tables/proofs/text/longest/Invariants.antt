use Rattle.std.proofs.Common.{◌≡◌, ◌≤◌, max, drop}
use Rattle.tl_tables.specs.statement.Tables.{longest}
use Rattle.tl_tables.proofs.text.longest.Given as goal

abbrev pub invariant-loop-cell : goal.invariant-loop-cell
invariant-loop-cell l = record {
  low : 6 ≤ l.longest;
  short : l.longest ≤ 40;
  so_far : max l.longest (longest (drop l.cell-index l.cells)) ≡ longest l.cells;
}
