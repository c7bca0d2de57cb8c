use Rattle.std.proofs.Common.{rules, arith, ap, sym, ◌∙◌, ◌≡◌, ◌+◌, ◌*◌, ◌<◌, length, true, false, get_or}
use Rattle.tl_memory.proofs.values.Lanes.{all-passed, one-failed, one-passed}
use Rattle.tl_commits.proofs.reading.Reading.allows_each.Goals as goal

pub returns-then-not-allows : goal.returns-then-not-allows
returns-then-not-allows g c = λ block test k room.
    let lanes = c.args.lanes.now in
    let lane = c.loop-lane.lane in
    let inside : lane < length lanes = omega (arith, c.told-lanes, c.loop-lane-test.true) in
    let place : c.saturating_add.result ≡ c.args.first + lane =
    omega (arith, c.saturating_add.ensures, room, c.loop-lane-test.true) in
    let at : 64 * block + c.saturating_add.result ≡ 64 * block + c.args.first + lane = omega (arith, place) in
    let small : c.saturating_add.result < 64 = omega (arith, place, room, c.loop-lane-test.true) in
    let off : c.allows.result ≡ false = search rules in
    let judged = c.allows.ensures.allows small
    ∙ k c.saturating_add.result (get_or lanes lane 0) small c.allows.ensures.small in
    sym (one-failed test (64 * block + c.args.first) lane lanes inside
    (ap (λ a. test a (get_or lanes lane 0)) (sym at) ∙ sym judged ∙ off))
    ∙ c.loop-lane.invariant block test k room

pub loop-lane-preserved : goal.loop-lane-preserved
loop-lane-preserved g c = λ block test k room.
    let lanes = c.args.lanes.now in
    let lane = c.loop-lane.lane in
    let inside : lane < length lanes = omega (arith, c.told-lanes, c.loop-lane-test.true) in
    let place : c.saturating_add.result ≡ c.args.first + lane =
    omega (arith, c.saturating_add.ensures, room, c.loop-lane-test.true) in
    let at : 64 * block + c.saturating_add.result ≡ 64 * block + c.args.first + lane = omega (arith, place) in
    let small : c.saturating_add.result < 64 = omega (arith, place, room, c.loop-lane-test.true) in
    let on : c.allows.result ≡ true = search rules in
    let judged = c.allows.ensures.allows small
    ∙ k c.saturating_add.result (get_or lanes lane 0) small c.allows.ensures.small in
    sym (one-passed test (64 * block + c.args.first) lane lanes inside
    (ap (λ a. test a (get_or lanes lane 0)) (sym at) ∙ sym judged ∙ on))
    ∙ c.loop-lane.invariant block test k room

pub returns : goal.returns
returns g c = λ block test k room.
    sym (all-passed test (64 * block + c.args.first) c.loop-lane.lane c.args.lanes.now
    (omega (arith, c.told-lanes, c.loop-lane-test.false))) ∙ c.loop-lane.invariant block test k room
