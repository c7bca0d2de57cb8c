use Rattle.std.proofs.Common.{◌≡◌, ◌++◌, drop}
use Rattle.tl_tables.specs.statement.Numbered.{numbered}
use Rattle.tl_tried.specs.statement.Told.{bin_json}
use Rattle.tl_tried.proofs.bins_json.append_all.Given as goal

abbrev pub invariant-loop-i : goal.invariant-loop-i
invariant-loop-i l = l.out.items ++ numbered (bin_json l.cells) l.i (drop l.i l.bins)
    ≡ l.initial.out.items ++ numbered (bin_json l.cells) 0 l.bins
