use Rattle.std.proofs.Common.{◌≡◌, ◌<◌, ◌||◌, ℕ, length}
use Rattle.std.specs.Prelude.{if◌then◌else◌, nat_lt}
use Rattle.tl_bytes.specs.code.Tellings.{leaves}
use Rattle.tl_memory.specs.code.ByteSet.{has_at}
use Rattle.tl_memory.proofs.byte_set.add_write.Given as goal

abbrev pub invariant-loop-place : goal.invariant-loop-place
invariant-loop-place l = (length l.sets ≡ 64) × ((place v : ℕ) → place < 64 → v < 256 → has_at l.sets place v
    ≡ (if nat_lt place l.place then (has_at l.fn.sets place v || leaves place v l.write) else has_at l.fn.sets place v))
