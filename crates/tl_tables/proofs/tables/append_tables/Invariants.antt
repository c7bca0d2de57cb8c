use Rattle.std.proofs.Common.{◌≡◌, ◌++◌, ◌-◌, ◌/◌, length}
use Rattle.tl_tables.specs.statement.Counts.{bin_count}
use Rattle.tl_tables.specs.statement.Numbered.{from_number}
use Rattle.tl_tables.specs.statement.Tables.{counts_on, link_text, tables_text, width}
use Rattle.tl_tables.proofs.tables.append_tables.Given as goal

abbrev pub invariant-loop-link : goal.invariant-loop-link
invariant-loop-link l =
    l.out.items ++ from_number (λ link. link_text (width l.cells) link (counts_on l.cells link)) l.link
    (length l.cells / bin_count - l.link) ≡ l.initial.out.items ++ tables_text l.cells
