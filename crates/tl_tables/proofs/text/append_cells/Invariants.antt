use Rattle.std.proofs.Common.{◌≡◌, ◌++◌, drop}
use Rattle.std.specs.List.{flat_map}
use Rattle.tl_tables.specs.statement.Tables.{cell_text}
use Rattle.tl_tables.proofs.text.append_cells.Given as goal

abbrev pub invariant-loop-cell : goal.invariant-loop-cell
invariant-loop-cell l = l.out.items ++ flat_map (cell_text l.width) (drop l.cell-index l.cells)
    ≡ l.initial.out.items ++ flat_map (cell_text l.width) l.cells
