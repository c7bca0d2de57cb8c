use Rattle.std.proofs.Common.{◌≡◌, ◌+◌, ◌*◌, ◌≤◌, ℕ, drop}
use Rattle.tl_bytes.specs.statement.Bytes.{each_from}
use Rattle.tl_commits.specs.code.Granting.{KnowsGrant}
use Rattle.tl_commits.specs.statement.Completeness.{Completeness}
use Rattle.tl_commits.specs.statement.Events.{Events}
use Rattle.tl_commits.specs.statement.True.{may_grant_seen}
use Rattle.tl_commits.proofs.granting.GrantBytes.may_bring_each.Given as goal

abbrev pub invariant-loop-lane : goal.invariant-loop-lane
invariant-loop-lane g l = (w : ℕ) (complete : Completeness) (n block : ℕ) (e : Events w)
    → KnowsGrant l.self complete n block e → l.first + g.row.W ≤ 64
    → each_from (may_grant_seen complete n e) (64 * block + l.first + l.lane) (drop l.lane l.lanes)
    ≡ each_from (may_grant_seen complete n e) (64 * block + l.first) l.lanes
