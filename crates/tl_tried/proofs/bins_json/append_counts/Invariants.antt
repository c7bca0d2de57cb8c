use Rattle.std.proofs.Common.{◌≡◌, ◌++◌, drop}
use Rattle.tl_tables.specs.statement.Numbered.{numbered}
use Rattle.tl_tried.specs.statement.Told.{cell_of_json}
use Rattle.tl_tried.proofs.bins_json.append_counts.Given as goal

abbrev pub invariant-loop-place : goal.invariant-loop-place
invariant-loop-place l = l.out.items ++ numbered (cell_of_json l.bin) l.place (drop l.place l.cells)
    ≡ l.initial.out.items ++ numbered (cell_of_json l.bin) 0 l.cells
