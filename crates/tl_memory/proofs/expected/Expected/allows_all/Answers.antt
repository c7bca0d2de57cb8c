use Rattle.std.proofs.Common.{rules, arith, sym, ◌∙◌, ◌≡◌, ◌+◌, ◌*◌, ◌<◌, length, true, false, get_or}
use Rattle.tl_rules.specs.statement.History.{block_at}
use Rattle.tl_memory.specs.code.Expected.{allows}
use Rattle.tl_memory.proofs.values.Lanes.{all-passed, at-lane, one-failed, one-passed}
use Rattle.tl_memory.proofs.expected.Expected.allows_all.Goals as goal

pub returns-then-not-allows : goal.returns-then-not-allows
returns-then-not-allows g c = λ room.
    let e = c.args.self.now in
    let lanes = c.args.lanes.now in
    let lane = c.loop-lane.lane in
    let inside : lane < length lanes = omega (arith, c.told-lanes, c.loop-lane-test.true) in
    let place : c.saturating_add.result ≡ c.args.first + lane =
    omega (arith, c.saturating_add.ensures, room, c.loop-lane-test.true) in
    let off : c.allows.result ≡ false = search rules in
    let test = at-lane e (block_at e.address) c.args.first lane c.saturating_add.result (get_or lanes lane 0)
    c.allows.result place (c.allows.ensures (omega (arith, place, room, c.loop-lane-test.true))) in
    sym (one-failed (allows e) (64 * block_at e.address + c.args.first) lane lanes inside (test ∙ off))
    ∙ c.loop-lane.invariant room

pub loop-lane-preserved : goal.loop-lane-preserved
loop-lane-preserved g c = λ room.
    let e = c.args.self.now in
    let lanes = c.args.lanes.now in
    let lane = c.loop-lane.lane in
    let inside : lane < length lanes = omega (arith, c.told-lanes, c.loop-lane-test.true) in
    let place : c.saturating_add.result ≡ c.args.first + lane =
    omega (arith, c.saturating_add.ensures, room, c.loop-lane-test.true) in
    let on : c.allows.result ≡ true = search rules in
    let test = at-lane e (block_at e.address) c.args.first lane c.saturating_add.result (get_or lanes lane 0)
    c.allows.result place (c.allows.ensures (omega (arith, place, room, c.loop-lane-test.true))) in
    sym (one-passed (allows e) (64 * block_at e.address + c.args.first) lane lanes inside (test ∙ on))
    ∙ c.loop-lane.invariant room

pub returns : goal.returns
returns g c = λ room.
    let e = c.args.self.now in
    sym (all-passed (allows e) (64 * block_at e.address + c.args.first) c.loop-lane.lane c.args.lanes.now
    (omega (arith, c.told-lanes, c.loop-lane-test.false))) ∙ c.loop-lane.invariant room
