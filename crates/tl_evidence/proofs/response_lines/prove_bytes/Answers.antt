use Rattle.std.proofs.Common.{◌≡◌, arith, inl, inr}
use Rattle.std.proofs.lemmas.Bool.{cases_lt}
use Rattle.tl_evidence.proofs.response_lines.prove_bytes.Goals as goal

pub loop-lane-preserved : goal.loop-lane-preserved
loop-lane-preserved g c = λ i below. elim (cases_lt i c.loop-lane.lane) [
  | inl lt ↦ c.loop-lane.invariant i lt
  | inr le ↦ let same : i ≡ c.loop-lane.lane = omega (arith, below, le) in rw same c.prove_byte.ensures
]

pub returns : goal.returns
returns g c = λ i below. c.loop-lane.invariant i (omega (arith, below, c.loop-lane-test.false))
