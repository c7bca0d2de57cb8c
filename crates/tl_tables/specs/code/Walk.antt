-- The rows of tables as the code comes upon them, from bin to bin.
use Rattle.std.specs.Prelude.{ℕ, zero, suc, ◌+◌, ◌-◌, ◌==◌, List, [], ◌∷◌}
use Rattle.std.specs.Prelude.{codes, if◌then◌else◌, nat_lt, Option, Some, None}
use Rattle.tl_beat.specs.declared.opcode.OpA.TheVariants as a
use Rattle.tl_beat.specs.declared.opcode.OpD.TheVariants as d
use Rattle.tl_cover.specs.declared.message.MessageKind.{MessageKind}
use Rattle.tl_cover.specs.declared.message.MessageKind.TheVariants as kind
use Rattle.tl_cover.specs.declared.situation.Bytes.{Bytes}
use Rattle.tl_cover.specs.declared.situation.Bytes.TheVariants as bytes
use Rattle.tl_cover.specs.declared.situation.Depth.TheVariants as depth
use Rattle.tl_cover.specs.declared.situation.Situation.{Situation}
use Rattle.tl_cover.specs.declared.situation.Situation.TheVariants.{Aligned, Among, Sent, Waited}
use Rattle.tl_cover.specs.declared.situation.Wait.TheVariants as wait
use Rattle.tl_cover.specs.statement.Bins.{all_bins}
use Rattle.tl_tables.specs.declared.table.Run.{Run}
use Rattle.tl_tables.specs.declared.table.Table.{Table}
use Rattle.tl_tables.specs.declared.table.Table.TheVariants as table
use Rattle.tl_tables.specs.statement.Counts.{cell_at}
use Rattle.tl_tables.specs.statement.Layout as layout
use Rattle.tl_tables.specs.statement.Layout.{Layout, access_head, kind_head, pending_head}
use Rattle.tl_tables.specs.statement.Numbered.{numbered}
use Rattle.tl_tables.specs.statement.Tables.{row_text}

abbrev pub table_of : Table → Layout
table_of table.Messages = layout.messages
table_of table.Permissions = layout.permissions
table_of table.Waits = layout.waits
table_of table.Alignments = layout.alignments
table_of table.Depths = layout.depths

-- the number of columns
abbrev pub columns : Table → ℕ
columns table.Messages = 7
columns table.Permissions = 3
columns table.Waits = 9
columns table.Alignments = 7
columns table.Depths = 6

abbrev run : ℕ → ℕ → Run
run before bins = record { before = before; bins = bins }

-- the row of requests or of responses that begins with a kind of message
abbrev pub messages : MessageKind → Option Run
messages (kind.A opcode param bytes.One) = Some (run 0 7)
messages (kind.A a.ArithmeticData param bytes.Four) = Some (run 2 2)
messages (kind.A a.LogicalData param bytes.Four) = Some (run 2 2)
messages (kind.A a.AcquireBlock param bytes) = Some (run 6 1)
messages (kind.A a.AcquirePerm param bytes) = Some (run 6 1)
messages (kind.B opcode param bytes) = Some (run 6 1)
messages (kind.C opcode param bytes) = Some (run 6 1)
messages (kind.D opcode param bytes.One) = Some (run 0 7)
messages (kind.D d.Grant param bytes) = Some (run 6 1)
messages (kind.D d.GrantData param bytes) = Some (run 6 1)
messages (kind.D d.ReleaseAck param bytes) = Some (run 6 1)
messages kind.E = Some (run 6 1)
messages _ = None

abbrev pub column_of : Bytes → ℕ
column_of bytes.One = 0
column_of bytes.Two = 1
column_of bytes.Four = 2
column_of bytes.Eight = 3
column_of bytes.Sixteen = 4
column_of bytes.ThirtyTwo = 5
column_of bytes.SixtyFour = 6

abbrev pub alignments : Bytes → Bytes → Option Run
alignments size many =
    if column_of many == column_of size then Some (run (column_of size) (7 - column_of size)) else None

abbrev pub run_of : Table → Situation → Option Run
run_of table.Messages (Sent kind) = messages kind
run_of table.Waits (Waited wait.None) = Some (run 0 9)
run_of table.Alignments (Aligned size many) = alignments size many
run_of table.Depths (Among kind depth.One) = Some (run 0 6)
run_of _ _ = None

abbrev pub head_of : Situation → List ℕ
head_of (Sent kind) = kind_head kind
head_of (Aligned size many) = access_head size
head_of (Among kind depth) = pending_head kind
head_of _ = codes "waited"

-- the count in a column of a row whose first bin is at this place
abbrev pub cell_in : Run → List (Option ℕ) → ℕ → ℕ → Option ℕ
cell_in r counts place column =
    if nat_lt column r.before then None else
    if nat_lt (column - r.before) r.bins then cell_at counts (place + (column - r.before)) else None

-- so many counts, from this column on
abbrev pub cells_from : (ℕ → Option ℕ) → ℕ → ℕ → List (Option ℕ)
cells_from cell column zero = []
cells_from cell column (suc n) = cell column ∷ cells_from cell (column + 1) n

abbrev pub row_from : Table → ℕ → List (Option ℕ) → ℕ → Situation → Option Run → List ℕ
row_from t w counts place bin None = []
row_from t w counts place bin (Some r) =
    row_text w (head_of bin) (cells_from (cell_in r counts place) 0 (columns t))

-- the row that begins with the bin at this place, if one does
abbrev pub row_of : Table → ℕ → List (Option ℕ) → ℕ → Situation → List ℕ
row_of t w counts place bin = row_from t w counts place bin (run_of t bin)

abbrev pub rows_of : Table → ℕ → List (Option ℕ) → List ℕ
rows_of t w counts = numbered (row_of t w counts) 0 all_bins
