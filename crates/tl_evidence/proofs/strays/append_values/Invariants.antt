use Rattle.std.proofs.Common.{◌≡◌, ◌++◌, ◌+◌, ◌-◌, ◌*◌, false}
use Rattle.tl_witness.specs.statement.Strays.{values_text}
use Rattle.tl_evidence.proofs.strays.append_values.Given as goal

abbrev pub invariant-loop-value : goal.invariant-loop-value
invariant-loop-value g l =
    l.out.items ++ values_text (g.X.Places.names l.places)
    (g.V.ByteValues.test l.values (64 * g.V.ByteValues.block l.values + l.place))
    (g.V.ByteValues.told l.values (64 * g.V.ByteValues.block l.values + l.place)) l.any (256 - l.value) l.value
    ≡ l.initial.out.items ++ values_text (g.X.Places.names l.places)
    (g.V.ByteValues.test l.values (64 * g.V.ByteValues.block l.values + l.place))
    (g.V.ByteValues.told l.values (64 * g.V.ByteValues.block l.values + l.place)) false 256 0
