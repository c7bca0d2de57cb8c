use Rattle.std.proofs.Common.{◌≡◌, ◌+◌, ◌*◌, ◌≤◌, ℕ, Bool, drop}
use Rattle.tl_bytes.specs.statement.Bytes.{each_from}
use Rattle.tl_commits.specs.code.Reading.{AllowsAs}
use Rattle.tl_commits.proofs.reading.Reading.allows_each.Given as goal

abbrev pub invariant-loop-lane : goal.invariant-loop-lane
invariant-loop-lane g l = (block : ℕ) (test : ℕ → ℕ → Bool) → AllowsAs l.self block test → l.first + g.row.W ≤ 64
    → each_from test (64 * block + l.first + l.lane) (drop l.lane l.lanes)
    ≡ each_from test (64 * block + l.first) l.lanes
