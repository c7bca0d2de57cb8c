use Rattle.std.proofs.Common.{arith, ap, ◌∙◌, set}
use Rattle.std.{proofs.lemmas.List.length-set, specs.Prelude.slice_index_or}
use Rattle.tl_bytes.{specs.code.Tellings.written_at, proofs.Filled.one_filled}
use Rattle.tl_bytes.proofs.latest.Latest.moments_with.Goals as goal

pub loop-place-preserved : goal.loop-place-preserved
loop-place-preserved c = record {
  long = length-set c.loop-place.moments c.from.result c.with_at.result.moment ∙ c.loop-place.invariant.long;
  filled = λ p lt. ap (λ e. slice_index_or (set c.loop-place.moments c.from.result e.moment) p 0) c.with_at.ensures
      ∙ ap (λ k. slice_index_or (set c.loop-place.moments k
      (written_at c.args.self.now c.args.write.now c.args.moment c.loop-place.place).moment) p 0) c.from.ensures
      ∙ one_filled (λ q. (written_at c.args.self.now c.args.write.now c.args.moment q).moment) c.loop-place.place
      c.loop-place.moments 0 (omega (arith, c.loop-place.invariant.long, c.loop-place-test.true))
      c.loop-place.invariant.filled p lt;
}

pub returns : goal.returns
returns c = λ place lt. c.loop-place.invariant.filled place
    (omega (arith, lt, c.loop-place-test.false, c.loop-place.auto.place-end))
