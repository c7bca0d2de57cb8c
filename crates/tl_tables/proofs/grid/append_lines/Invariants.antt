use Rattle.std.proofs.Common.{◌≡◌, ◌++◌, drop}
use Rattle.std.specs.List.{flat_map}
use Rattle.tl_tables.specs.code.Grid.{row_of}
use Rattle.tl_tables.proofs.grid.append_lines.Given as goal

abbrev pub invariant-loop-line : goal.invariant-loop-line
invariant-loop-line l = l.out.items ++ flat_map (row_of l.width l.counts) (drop l.line-index l.lines)
    ≡ l.initial.out.items ++ flat_map (row_of l.width l.counts) l.lines
