use Rattle.std.proofs.Common.{◌≡◌, drop}
use Rattle.tl_tables.specs.statement.Tables.{has_count}
use Rattle.tl_tables.proofs.line.has_count.Given as goal

abbrev pub invariant-loop-cell : goal.invariant-loop-cell
invariant-loop-cell l = has_count (drop l.cell-index l.cells) ≡ has_count l.cells
