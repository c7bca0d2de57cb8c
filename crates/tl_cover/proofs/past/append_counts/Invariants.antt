use Rattle.std.proofs.Common.{◌≡◌, ◌++◌, take}
use Rattle.std.specs.Prelude.{map}
use Rattle.tl_cover.specs.statement.Covered.{cell}
use Rattle.tl_cover.proofs.past.append_counts.Given as goal

abbrev pub invariant-loop-row : goal.invariant-loop-row
invariant-loop-row g l =
    l.cells.items ≡ l.initial.cells.items ++ map (cell g.row.W l.liberties l.level) (take l.row-index l.rows)
