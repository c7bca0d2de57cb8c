use Rattle.std.proofs.Common.{◌≡◌, ◌<◌, ◌+◌, ◌||◌, ℕ, drop}
use Rattle.tl_bytes.specs.code.Tellings.{left_as}
use Rattle.tl_memory.specs.code.ByteSet.{has_at}
use Rattle.tl_commits.proofs.granting.add_writes.Given as goal

abbrev pub invariant-loop-write : goal.invariant-loop-write
invariant-loop-write l = (place v : ℕ) → place < 64 → v < 256
    → (has_at l.sets place v || left_as place v (drop l.write-index l.writes))
    ≡ (has_at l.fn.sets place v || left_as place v l.writes)
