use Rattle.std.proofs.Common.{◌≡◌, ◌++◌, drop}
use Rattle.tl_cover.specs.statement.Bins.{all_bins}
use Rattle.tl_tables.specs.code.Walk.{row_of, rows_of}
use Rattle.tl_tables.specs.statement.Numbered.{numbered}
use Rattle.tl_tables.proofs.rows.append_runs.Given as goal

abbrev pub invariant-loop-place : goal.invariant-loop-place
invariant-loop-place l = l.out.items ++ numbered (row_of l.table l.width l.counts) l.place (drop l.place all_bins)
    ≡ l.initial.out.items ++ rows_of l.table l.width l.counts
