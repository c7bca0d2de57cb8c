use Rattle.std.proofs.Common.{◌≡◌, ◌<◌, ◌≤◌, ℕ, length}
use Rattle.tl_memory.specs.code.ByteSet.{has, has_at}
use Rattle.tl_commits.proofs.reached.put_reached.Given as goal

abbrev pub invariant-loop-place : goal.invariant-loop-place
invariant-loop-place l = (length l.sets ≡ 64)
    × ((i v : ℕ) → l.first ≤ i → i < l.place → has_at l.sets i v ≡ has l.set v)
