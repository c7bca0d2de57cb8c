use Rattle.std.proofs.Common.{◌∙◌, arith}
use Rattle.std.proofs.lemmas.Result.{on_ok_weaker}
use Rattle.tl_evidence.proofs.CopyTexts.{place-last, place-next}
use Rattle.tl_evidence.proofs.copy_record.CopyRecord.tell_lost.Goals as goal

pub loop-place-preserved : goal.loop-place-preserved
loop-place-preserved g c = record {
  few = omega (arith, c.loop-place.invariant.few, c.in_ok-count.ensures.few);
  told = λ may levels complete e k.
      place-next (g.X.Places.names c.args.places.now) c.args.self.now may levels complete e k c.loop-place.count c.in_ok-count.count c.loop-place.place
      c.loop-place.out.items _ _ c.loop-place-test.true (c.in_ok-count.ensures.told may levels complete e k)
      (c.loop-place.invariant.told may levels complete e k);
}

pub returns : goal.returns
returns g c = on_ok_weaker c.append_more.result
    (λ more. λ may levels complete e k.
    more ∙ place-last (g.X.Places.names c.args.places.now) c.args.self.now may levels complete e k c.loop-place.count c.loop-place.place
    c.loop-place.out.items _ (omega (arith, c.loop-place-test.false))
    (c.loop-place.invariant.told may levels complete e k))
    c.append_more.ensures
