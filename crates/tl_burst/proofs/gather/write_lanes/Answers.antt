use Rattle.std.proofs.Common.{arith}
use Rattle.tl_burst.proofs.Bits.{earlier_place}
use Rattle.tl_burst.proofs.Lanes.{lanes_earlier, zero_behind}
use Rattle.tl_burst.proofs.gather.write_lanes.Goals as goal

pub returns-in-Some-clause-earlier : goal.returns-in-Some-clause-earlier
returns-in-Some-clause-earlier g c = λ carries k lt. lanes_earlier g.row.W c.args.i k _ carries c.args.payload.now _
    (earlier_place g.row.W c.args.i k lt) (omega arith)

pub returns-in-Some-clause-zero : goal.returns-in-Some-clause-zero
returns-in-Some-clause-zero g c =
    rw c.in-Some.is (zero_behind g.row.W c.args.i _ c.args.payload.now _ (omega arith) (omega arith) (omega arith))
