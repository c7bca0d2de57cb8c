use Rattle.std.proofs.Common.{◌≡◌, ◌+◌, ◌*◌, ◌≤◌, drop}
use Rattle.tl_rules.specs.statement.History.{block_at}
use Rattle.tl_bytes.specs.statement.Bytes.{each_from}
use Rattle.tl_memory.specs.code.Expected.{allows}
use Rattle.tl_memory.proofs.expected.Expected.allows_all.Given as goal

abbrev pub invariant-loop-lane : goal.invariant-loop-lane
invariant-loop-lane g l = l.first + g.row.W ≤ 64
    → each_from (allows l.self) (64 * block_at l.self.address + l.first + l.lane) (drop l.lane l.lanes)
    ≡ each_from (allows l.self) (64 * block_at l.self.address + l.first) l.lanes
