use Rattle.std.proofs.Common.{◌≡◌, ◌≤◌, ◌++◌, ◌+◌, ◌*◌, drop}
use Rattle.tl_witness.specs.statement.Strays.{strays_text}
use Rattle.tl_evidence.proofs.strays.tell_lanes.Given as goal

abbrev pub invariant-loop-lane : goal.invariant-loop-lane
invariant-loop-lane g l = record {
  told : l.out.items ++ strays_text (g.X.Places.names l.places) (g.V.ByteValues.test l.values)
      (g.V.ByteValues.told l.values) l.count (64 * g.V.ByteValues.block l.values + (l.first + l.lane))
      (drop l.lane l.lanes)
      ≡ l.initial.out.items ++ strays_text (g.X.Places.names l.places) (g.V.ByteValues.test l.values)
      (g.V.ByteValues.told l.values) 0 (64 * g.V.ByteValues.block l.values + l.first) l.lanes;
  few : l.count ≤ l.lane;
}
