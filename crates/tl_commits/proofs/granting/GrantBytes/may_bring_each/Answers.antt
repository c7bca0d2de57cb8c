use Rattle.std.proofs.Common.{rules, arith, ap, sym, ◌∙◌, ◌≡◌, ◌+◌, ◌*◌, ◌<◌, length, true, false, get_or}
use Rattle.tl_memory.proofs.values.Lanes.{all-passed, one-failed, one-passed}
use Rattle.tl_commits.specs.statement.True.{may_grant_seen}
use Rattle.tl_commits.proofs.granting.GrantBytes.may_bring_each.Goals as goal

pub returns-then-not-may_bring : goal.returns-then-not-may_bring
returns-then-not-may_bring g c = λ w complete n block e k room.
    let lanes = c.args.lanes.now in
    let lane = c.loop-lane.lane in
    let inside : lane < length lanes = omega (arith, c.told-lanes, c.loop-lane-test.true) in
    let place : c.saturating_add.result ≡ c.args.first + lane =
    omega (arith, c.saturating_add.ensures, room, c.loop-lane-test.true) in
    let at : 64 * block + c.saturating_add.result ≡ 64 * block + c.args.first + lane = omega (arith, place) in
    let small : c.saturating_add.result < 64 = omega (arith, place, room, c.loop-lane-test.true) in
    let off : c.may_bring.result ≡ false = search rules in
    let test = c.may_bring.ensures small ∙ k c.saturating_add.result (get_or lanes lane 0) small in
    sym (one-failed (may_grant_seen complete n e) (64 * block + c.args.first) lane lanes inside
    (ap (λ a. may_grant_seen complete n e a (get_or lanes lane 0)) (sym at) ∙ sym test ∙ off))
    ∙ c.loop-lane.invariant w complete n block e k room

pub loop-lane-preserved : goal.loop-lane-preserved
loop-lane-preserved g c = λ w complete n block e k room.
    let lanes = c.args.lanes.now in
    let lane = c.loop-lane.lane in
    let inside : lane < length lanes = omega (arith, c.told-lanes, c.loop-lane-test.true) in
    let place : c.saturating_add.result ≡ c.args.first + lane =
    omega (arith, c.saturating_add.ensures, room, c.loop-lane-test.true) in
    let at : 64 * block + c.saturating_add.result ≡ 64 * block + c.args.first + lane = omega (arith, place) in
    let small : c.saturating_add.result < 64 = omega (arith, place, room, c.loop-lane-test.true) in
    let on : c.may_bring.result ≡ true = search rules in
    let test = c.may_bring.ensures small ∙ k c.saturating_add.result (get_or lanes lane 0) small in
    sym (one-passed (may_grant_seen complete n e) (64 * block + c.args.first) lane lanes inside
    (ap (λ a. may_grant_seen complete n e a (get_or lanes lane 0)) (sym at) ∙ sym test ∙ on))
    ∙ c.loop-lane.invariant w complete n block e k room

pub returns : goal.returns
returns g c = λ w complete n block e k room.
    sym (all-passed (may_grant_seen complete n e) (64 * block + c.args.first) c.loop-lane.lane c.args.lanes.now
    (omega (arith, c.told-lanes, c.loop-lane-test.false))) ∙ c.loop-lane.invariant w complete n block e k room
