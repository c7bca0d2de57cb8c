use Rattle.std.proofs.Common.{◌+◌, ◌*◌, arith}
use Rattle.std.proofs.lemmas.Result.{on_ok_weaker}
use Rattle.tl_witness.proofs.Told.{all-values, next-value}
use Rattle.tl_evidence.proofs.strays.append_values.Goals as goal

pub loop-value-preserved : goal.loop-value-preserved
loop-value-preserved g c =
    let at = 64 * g.V.ByteValues.block c.args.values.now + c.args.place in
    next-value (g.X.Places.names c.args.places.now) (g.V.ByteValues.test c.args.values.now at)
    (g.V.ByteValues.told c.args.values.now at) c.loop-value.any c.in_ok-any.any 256 c.loop-value.value
    c.loop-value.out.items _ _ c.loop-value-test.true c.in_ok-any.ensures c.loop-value.invariant

pub returns : goal.returns
returns g c = on_ok_weaker c.append_nothing.result
    (λ none.
    let at = 64 * g.V.ByteValues.block c.args.values.now + c.args.place in
    all-values (g.X.Places.names c.args.places.now) (g.V.ByteValues.test c.args.values.now at)
    (g.V.ByteValues.told c.args.values.now at) c.loop-value.any 256 c.loop-value.value c.loop-value.out.items _ _
    (omega (arith, c.loop-value-test.false)) none c.loop-value.invariant)
    c.append_nothing.ensures
