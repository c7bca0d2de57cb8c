use Rattle.std.proofs.Common.{◌≡◌, ◌+◌, ◌*◌, ◌≤◌, ℕ, drop}
use Rattle.tl_bytes.specs.statement.Bytes.{each_from}
use Rattle.tl_memory.specs.statement.Links.{KnowsMessages}
use Rattle.tl_commits.specs.code.ValueTable.{KnowsTable}
use Rattle.tl_commits.specs.statement.Completeness.{Completeness}
use Rattle.tl_commits.specs.statement.Commits.{may_give}
use Rattle.tl_commits.specs.statement.Copies.{link_beats}
use Rattle.tl_commits.specs.statement.Events.{Events}
use Rattle.tl_commits.proofs.giving_back.gives_each.Given as goal

abbrev pub invariant-loop-lane : goal.invariant-loop-lane
invariant-loop-lane g l = (complete : Completeness) (n link : ℕ) (e : Events g.row.W) → KnowsTable l.table complete n e
    → KnowsMessages l.messages (link_beats link e) → l.first + g.row.W ≤ 64
    → each_from (may_give complete n link e) (64 * l.block + l.first + l.lane) (drop l.lane l.lanes)
    ≡ each_from (may_give complete n link e) (64 * l.block + l.first) l.lanes
