use Rattle.std.proofs.Common.{rules, arith, ap, sym, ◌∙◌, ◌≡◌, ◌+◌, ◌*◌, ◌<◌, length, true, false, get_or}
use Rattle.tl_memory.proofs.values.Lanes.{all-passed, one-failed, one-passed}
use Rattle.tl_commits.specs.statement.Commits.{may_give}
use Rattle.tl_commits.proofs.giving_back.gives_each.Goals as goal

pub returns-then-not-may_give : goal.returns-then-not-may_give
returns-then-not-may_give g c = λ complete n link e k m room.
    let lanes = c.args.lanes.now in
    let lane = c.loop-lane.lane in
    let inside : lane < length lanes = omega (arith, c.told-lanes, c.loop-lane-test.true) in
    let place : c.saturating_add-place.result ≡ c.args.first + lane =
    omega (arith, c.saturating_add-place.ensures, room, c.loop-lane-test.true) in
    let at : 64 * c.args.block + c.saturating_add-place.result ≡ 64 * c.args.block + c.args.first + lane =
    omega (arith, place) in
    let off : c.may_give.result ≡ false = search rules in
    let test = c.may_give.ensures complete n link e k m (omega (arith, place, room, c.loop-lane-test.true)) in
    sym (one-failed (may_give complete n link e) (64 * c.args.block + c.args.first) lane lanes inside
    (ap (λ a. may_give complete n link e a (get_or lanes lane 0)) (sym at) ∙ sym test ∙ off))
    ∙ c.loop-lane.invariant complete n link e k m room

pub loop-lane-preserved : goal.loop-lane-preserved
loop-lane-preserved g c = λ complete n link e k m room.
    let lanes = c.args.lanes.now in
    let lane = c.loop-lane.lane in
    let inside : lane < length lanes = omega (arith, c.told-lanes, c.loop-lane-test.true) in
    let place : c.saturating_add-place.result ≡ c.args.first + lane =
    omega (arith, c.saturating_add-place.ensures, room, c.loop-lane-test.true) in
    let at : 64 * c.args.block + c.saturating_add-place.result ≡ 64 * c.args.block + c.args.first + lane =
    omega (arith, place) in
    let on : c.may_give.result ≡ true = search rules in
    let test = c.may_give.ensures complete n link e k m (omega (arith, place, room, c.loop-lane-test.true)) in
    sym (one-passed (may_give complete n link e) (64 * c.args.block + c.args.first) lane lanes inside
    (ap (λ a. may_give complete n link e a (get_or lanes lane 0)) (sym at) ∙ sym test ∙ on))
    ∙ c.loop-lane.invariant complete n link e k m room

pub returns : goal.returns
returns g c = λ complete n link e k m room.
    sym (all-passed (may_give complete n link e) (64 * c.args.block + c.args.first) c.loop-lane.lane c.args.lanes.now
    (omega (arith, c.told-lanes, c.loop-lane-test.false))) ∙ c.loop-lane.invariant complete n link e k m room
