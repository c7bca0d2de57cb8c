-- The rows of tables as the code comes upon them are those of the layout.
use Rattle.std.proofs.Common.{◌≡◌, ℕ, List, refl}
use Rattle.std.specs.Prelude.{Option}
use Rattle.tl_tables.specs.code.Grid as grid
use Rattle.tl_tables.specs.code.Walk as walk
use Rattle.tl_tables.specs.declared.table.Table.{Table}
use Rattle.tl_tables.specs.declared.table.Table.TheVariants as table
use Rattle.tl_tables.specs.statement.Layout.{alignments, depths, messages, permissions, waits}
use Rattle.tl_tables.specs.statement.Numbered.{numbered}
use Rattle.tl_tables.specs.statement.Tables.{rows_text}

module _ (w : ℕ) (counts : List (Option ℕ)) where
  pub waits_so : walk.rows_of table.Waits w counts ≡ rows_text w counts waits
  unfolding numbered rows_text
  waits_so = refl

  pub alignments_so : walk.rows_of table.Alignments w counts ≡ rows_text w counts alignments
  unfolding numbered rows_text
  alignments_so = refl

  pub depths_so : walk.rows_of table.Depths w counts ≡ rows_text w counts depths
  unfolding numbered rows_text
  depths_so = refl

  pub permissions_so : grid.rows_of w counts ≡ rows_text w counts permissions
  unfolding rows_text
  permissions_so = refl

  pub messages_so : walk.rows_of table.Messages w counts ≡ rows_text w counts messages
  unfolding numbered rows_text
  messages_so = refl

  pub runs_so : (t : Table) → (t ≡ table.Permissions → ⊥)
      → walk.rows_of t w counts ≡ rows_text w counts (walk.table_of t)
  runs_so table.Messages other = messages_so
  runs_so table.Permissions other = absurd (other refl)
  runs_so table.Waits other = waits_so
  runs_so table.Alignments other = alignments_so
  runs_so table.Depths other = depths_so
