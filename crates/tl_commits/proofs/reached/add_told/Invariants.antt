use Rattle.std.proofs.Common.{◌≡◌, ◌<◌, ◌||◌, ℕ, drop, length, true}
use Rattle.tl_bytes.specs.statement.Bytes.{told_as}
use Rattle.tl_bytes.specs.statement.Known.{tellings_at}
use Rattle.tl_memory.specs.code.ByteSet.{has_at}
use Rattle.tl_commits.specs.code.Reached.{is_reached}
use Rattle.tl_commits.proofs.reached.add_told.Given as goal

abbrev pub invariant-loop-telling : goal.invariant-loop-telling
invariant-loop-telling l = (length l.sets ≡ 64) × ((i v : ℕ) → i < 64 → v < 256
    → is_reached l.address l.size i ≡ true
    → (has_at l.sets i v || told_as v (tellings_at i (drop l.telling-index l.told)))
    ≡ (has_at l.fn.sets i v || told_as v (tellings_at i l.told)))
