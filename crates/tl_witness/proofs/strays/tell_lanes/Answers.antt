use Rattle.std.proofs.Common.{◌∙◌, ◌+◌, ◌*◌, arith}
use Rattle.std.proofs.lemmas.Result.{on_ok_weaker}
use Rattle.tl_rules.specs.statement.History.{block_at}
use Rattle.tl_memory.specs.code.Expected.{allows}
use Rattle.tl_witness.specs.code.Strays.{told_of}
use Rattle.tl_witness.proofs.Told.{all-lanes}
use Rattle.tl_witness.proofs.strays.tell_lanes.Goals as goal

pub returns : goal.returns
returns g c = on_ok_weaker c.append_more.result
    (λ more. more ∙ all-lanes (g.X.Places.names c.args.places.now) (allows c.args.expected.now)
    (told_of c.args.judge.now) c.args.lanes.now
    c.loop-lane.lane c.loop-lane.count
    (64 * block_at c.args.expected.now.address + (c.args.first + c.loop-lane.lane)) c.loop-lane.out.items _
    (omega (arith, c.told-lanes, c.loop-lane-test.false)) c.loop-lane.invariant.told)
    c.append_more.ensures
