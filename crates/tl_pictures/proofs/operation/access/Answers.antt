use Rattle.std.proofs.Common.{refl}
use Rattle.std.specs.Prelude.{nat_le}
use Rattle.tl_beat.specs.statement.Opcode.{a_with}
use Rattle.tl_pictures.proofs.Made.{access_made}
use Rattle.tl_pictures.proofs.operation.access.Goals as goal

pub returns : goal.returns
returns g c =
    access_made g.row.W c.args.x.now c.in-Some.opcode (a_with c.args.x.now.opcode) (nat_le c.args.x.now.size 6) refl
    c.in-Some.ensures _
