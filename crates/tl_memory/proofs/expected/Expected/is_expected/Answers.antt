use Rattle.std.proofs.Common.{arith, ap, ◌∙◌}
use Rattle.tl_rules.{specs.code.Place.base_of, specs.statement.Admission.lanes_of}
use Rattle.tl_beat.specs.declared.beat.Beat.{Beat}
use Rattle.tl_memory.proofs.values.Lanes.{base-of_block, granted-all, read-all}
use Rattle.tl_memory.proofs.expected.Expected.is_expected.Goals as goal

pub returns-clause-granted : goal.returns-clause-granted
returns-clause-granted g c = λ n block t at sized known room.
    let e = c.args.self.now in
    let base = base-of_block g.row.W e.address block at in
    c.allows_lanes.ensures (omega (arith, base, room))
    ∙ granted-all g.row.W e n block c.args.beats t (lanes_of (Beat.D c.args.x.now)) c.requires at sized known room
    c.prove_response.ensures

pub returns-clause-read : goal.returns-clause-read
returns-clause-read g c = λ n block access t known to room.
    let e = c.args.self.now in
    let base = ap (base_of g.row.W) known.0 in
    c.allows_lanes.ensures (omega (arith, base, room))
    ∙ read-all e n block c.args.beats access t (lanes_of (Beat.D c.args.x.now)) c.requires known to room
    c.prove_response.ensures
