use Rattle.std.proofs.Common.{◌≡◌, ◌++◌, drop}
use Rattle.std.specs.List.{flat_map}
use Rattle.std.specs.Prelude.{map}
use Rattle.tl_tables.specs.statement.Tables.{right}
use Rattle.tl_tables.proofs.tables.append_columns.Given as goal

abbrev pub invariant-loop-column : goal.invariant-loop-column
invariant-loop-column l =
    l.out.items ++ flat_map (right l.width) (map (λ s. s.now) (drop l.column-index l.columns))
    ≡ l.initial.out.items ++ flat_map (right l.width) (map (λ s. s.now) l.columns)
