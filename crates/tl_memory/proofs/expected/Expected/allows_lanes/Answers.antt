use Rattle.std.proofs.Common.{rules, arith, sym, ◌≡◌, ◌+◌, ◌*◌, ◌/◌}
use Rattle.tl_beat.specs.declared.beat.Beat.{Beat}
use Rattle.tl_rules.{specs.code.Place.base_of, specs.statement.Admission.lanes_of}
use Rattle.tl_memory.specs.code.Expected.{allows}
use Rattle.tl_memory.proofs.values.Lanes.{each-passed, no-lanes, open-allows, some-lanes}
use Rattle.tl_memory.proofs.expected.Expected.allows_lanes.Goals as goal

pub returns-then-is_open : goal.returns-then-is_open
returns-then-is_open g c = λ room.
    let e = c.args.self.now in
    sym (each-passed (allows e) (g.row.W * (e.address / g.row.W) + g.row.W * c.args.beats)
    (lanes_of (Beat.D c.args.x.now)) (open-allows e (c.is_open.ensures c.if-is_open.true)))

pub returns-in-None : goal.returns-in-None
returns-in-None g c = λ room.
    let e = c.args.self.now in
    no-lanes (allows e) (g.row.W * (e.address / g.row.W) + g.row.W * c.args.beats) c.args.x.now (search rules)

pub returns-in-Some : goal.returns-in-Some
returns-in-Some g c = λ room.
    let e = c.args.self.now in
    let first : c.saturating_add-first.result ≡ base_of g.row.W e.address + g.row.W * c.args.beats =
    omega (arith, c.saturating_add-first.ensures, c.saturating_mul.ensures, c.base.ensures.value, room) in
    some-lanes g.row.W (allows e) e.address c.args.beats c.saturating_add-first.result c.in-Some.lanes c.args.x.now
    c.allows_all.result c.requires (search rules) first (c.allows_all.ensures (omega (arith, first, room)))
