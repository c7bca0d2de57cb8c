use Rattle.std.proofs.Common.{◌≡◌, ◌++◌, drop}
use Rattle.std.specs.List.{flat_map}
use Rattle.tl_cover.specs.statement.Covers.{cells_of}
use Rattle.tl_cover.proofs.covering.append_tables.Given as goal

abbrev pub invariant-loop-past : goal.invariant-loop-past
invariant-loop-past g l = l.cells.items ++ flat_map (cells_of g.row.W l.liberties) (drop l.past-index l.pasts)
    ≡ l.initial.cells.items ++ flat_map (cells_of g.row.W l.liberties) l.pasts
