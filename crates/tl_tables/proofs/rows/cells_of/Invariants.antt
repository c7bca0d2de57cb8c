use Rattle.std.proofs.Common.{◌≡◌, ◌++◌, ◌-◌}
use Rattle.tl_tables.specs.code.Walk.{cell_in, cells_from}
use Rattle.tl_tables.proofs.rows.cells_of.Given as goal

abbrev pub invariant-loop-column : goal.invariant-loop-column
invariant-loop-column l =
    l.cells.items ++ cells_from (cell_in l.run l.counts l.place) l.column (l.columns - l.column)
    ≡ cells_from (cell_in l.run l.counts l.place) 0 l.columns
