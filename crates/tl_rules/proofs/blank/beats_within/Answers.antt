use Rattle.std.proofs.Common.{◌≤◌, ◌*◌, arith}
use Rattle.std.proofs.Math.Nat.{mul-le-mul_right}
use Rattle.tl_rules.proofs.Checks.{beats_room}
use Rattle.tl_rules.proofs.Widths.{width-bounds}
use Rattle.tl_rules.proofs.blank.beats_within.Goals as goal

pub returns : goal.returns
returns g c =
    let room : g.row.W * c.beats_of.result ≤ 64 = rw c.beats_of.ensures (beats_room c.args.message.now c.requires) in
    let four : 4 * c.beats_of.result ≤ g.row.W * c.beats_of.result =
    mul-le-mul_right c.beats_of.result (width-bounds g.row.W c.requires).0 in
    record { value = c.beats_of.ensures; room = room; few = omega arith }
