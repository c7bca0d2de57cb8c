use Rattle.std.proofs.Common.{◌≡◌, ◌<◌, ℕ, length}
use Rattle.std.specs.Prelude.{if◌then◌else◌, nat_lt}
use Rattle.tl_memory.specs.code.ByteSet.{has_at}
use Rattle.tl_commits.specs.code.Reading.{allows}
use Rattle.tl_commits.proofs.reading.Reading.sets.Given as goal

abbrev pub invariant-loop-place : goal.invariant-loop-place
invariant-loop-place l = (length l.sets ≡ 64) × ((i v : ℕ) → i < 64 → v < 256
    → has_at l.sets i v ≡ (if nat_lt i l.place then allows l.self i v else has_at l.self.found i v))
