use Rattle.std.proofs.Common.{◌≡◌, ◌<◌, ◌+◌, ◌*◌, ℕ, length}
use Rattle.std.specs.Prelude.{if◌then◌else◌, nat_lt}
use Rattle.tl_burst.specs.statement.Messages.{History}
use Rattle.tl_memory.specs.statement.Links.{KnowsMessages}
use Rattle.tl_memory.specs.code.ByteSet.{has_at}
use Rattle.tl_commits.specs.code.Filling.{filled}
use Rattle.tl_commits.specs.statement.Copies.{brought}
use Rattle.tl_commits.proofs.bringing.with_filled.Given as goal

abbrev pub invariant-loop-i : goal.invariant-loop-i
invariant-loop-i g l = (length l.all ≡ 8) × ((t : History g.row.W) → KnowsMessages l.messages t → (i v : ℕ) → i < 8
    → l.first + i < 64 → v < 256 → has_at l.all i v
    ≡ (if nat_lt i l.i
    then filled (brought (64 * l.block + (l.first + i)) t) (has_at l.sets i v) (has_at l.fn.held i v) v
    else has_at l.fn.held i v))
