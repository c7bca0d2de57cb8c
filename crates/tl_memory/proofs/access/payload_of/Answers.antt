use Rattle.std.proofs.Common.{arith, ap, ◌∙◌, set}
use Rattle.std.specs.Prelude.{slice_index, unwrap_or}
use Rattle.tl_bytes.specs.statement.KnownBytes.{known_at}
use Rattle.std.proofs.lemmas.List.{length-set}
use Rattle.tl_bytes.proofs.Filled.{one_filled}
use Rattle.tl_memory.proofs.access.payload_of.Goals as goal

pub loop-place-preserved : goal.loop-place-preserved
loop-place-preserved c = record {
  long = length-set c.loop-place.payload c.loop-place.place c.byte_or_zero.result ∙ c.loop-place.invariant.long;
  filled = λ p lt. ap (λ v. slice_index (set c.loop-place.payload c.loop-place.place v) p) c.byte_or_zero.ensures
      ∙ one_filled (λ q. unwrap_or (known_at c.args.bytes.now q) 0) c.loop-place.place c.loop-place.payload 0
      (omega (arith, c.loop-place.invariant.long, c.loop-place-test.true)) c.loop-place.invariant.filled p lt;
}

pub returns : goal.returns
returns c = λ place lt. c.loop-place.invariant.filled place
    (omega (arith, lt, c.loop-place-test.false, c.loop-place.auto.place-end))
