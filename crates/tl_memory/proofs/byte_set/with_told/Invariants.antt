use Rattle.std.proofs.Common.{◌≡◌, ◌<◌, ◌+◌, ◌||◌, ℕ, drop, length}
use Rattle.tl_bytes.specs.statement.Bytes.{told_as}
use Rattle.tl_bytes.specs.statement.Known.{tellings_at}
use Rattle.tl_memory.specs.code.ByteSet.{has_at}
use Rattle.tl_memory.proofs.byte_set.with_told.Given as goal

abbrev pub invariant-loop-telling : goal.invariant-loop-telling
invariant-loop-telling g l = (length l.all ≡ g.row.N) × ((i v : ℕ) → i < g.row.N → v < 256
    → (has_at l.all i v || told_as v (tellings_at (l.first + i) (drop l.telling-index l.told)))
    ≡ (has_at l.fn.sets i v || told_as v (tellings_at (l.first + i) l.told)))
