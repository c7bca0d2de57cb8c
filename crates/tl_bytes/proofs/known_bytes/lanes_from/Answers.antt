use Rattle.std.proofs.Common.{arith}
use Rattle.tl_rules.proofs.{Masks.run_of_ones}
use Rattle.tl_bytes.proofs.known_bytes.lanes_from.Goals as goal

pub returns : goal.returns
returns g c = λ place lt.
    run_of_ones 64 c.args.first g.row.W place (omega (arith, c.requires.room)) lt
