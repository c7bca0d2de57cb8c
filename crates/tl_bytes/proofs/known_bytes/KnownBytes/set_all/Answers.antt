use Rattle.std.proofs.Common.{rules, length, ◌≡◌}
use Rattle.tl_bytes.proofs.KnownAt.{known-put}
use Rattle.tl_bytes.proofs.known_bytes.KnownBytes.set_all.Goals as goal

pub returns : goal.returns
returns g c = λ p.
    let many : length c.args.lanes.now ≡ g.row.W = c.told-lanes in
    rw (← many) (known-put c.args.self.now _ c.args.lanes.now c.args.first c.lanes_from.result p
    (rw many c.requires.room)
    (search rules) (rw many c.put_all.ensures) (search rules) (rw many c.lanes_from.ensures))
