use Rattle.std.proofs.Common.{◌≡◌, ◌<◌, ◌||◌, ℕ, take}
use Rattle.tl_bytes.specs.code.Tellings.{left_as}
use Rattle.tl_memory.specs.code.ByteSet.{has_at}
use Rattle.tl_memory.specs.code.Writers.{writes_outrun}
use Rattle.tl_memory.proofs.others.add_outrun.Given as goal

abbrev pub invariant-loop-access : goal.invariant-loop-access
invariant-loop-access l = (place v : ℕ) → place < 64 → v < 256 → has_at l.sets place v
    ≡ (has_at l.fn.sets place v || left_as place v (writes_outrun (take l.access-index l.outrun)))
