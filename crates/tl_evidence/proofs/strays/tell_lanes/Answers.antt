use Rattle.std.proofs.Common.{◌∙◌, ◌+◌, ◌*◌, arith}
use Rattle.std.proofs.lemmas.Result.{on_ok_weaker}
use Rattle.tl_witness.proofs.Told.{all-lanes}
use Rattle.tl_evidence.proofs.strays.tell_lanes.Goals as goal

pub returns : goal.returns
returns g c = on_ok_weaker c.append_more.result
    (λ more. more ∙ all-lanes (g.X.Places.names c.args.places.now) (g.V.ByteValues.test c.args.values.now)
    (g.V.ByteValues.told c.args.values.now) c.args.lanes.now c.loop-lane.lane c.loop-lane.count
    (64 * g.V.ByteValues.block c.args.values.now + (c.args.first + c.loop-lane.lane)) c.loop-lane.out.items _
    (omega (arith, c.loop-lane-test.false)) c.loop-lane.invariant.told)
    c.append_more.ensures
