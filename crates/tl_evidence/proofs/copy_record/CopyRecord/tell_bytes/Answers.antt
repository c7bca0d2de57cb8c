use Rattle.std.proofs.Common.{◌++◌, ◌∙◌, ap, arith, length}
use Rattle.tl_evidence.proofs.CopyTexts.{brought-by, bytes-all}
use Rattle.tl_evidence.proofs.copy_record.CopyRecord.tell_bytes.Goals as goal

pub returns : goal.returns
returns g c = λ on from test are may levels complete e k.
    c.in_ok-tell_lanes.ensures
    ∙ ap (λ text. c.args.out.now.items ++ text) (brought-by (g.X.Places.names c.args.places.now) c.args.self.now may levels complete e k c.args.first
    c.args.sets.now from c.possible.result.block test c.args.lanes.now c.possible.result.set.now are
    c.possible.ensures.block c.possible.ensures.set c.told-lanes (bytes-all c.args.lanes.now
    (λ i lt. c.prove_bytes.ensures i (omega (arith, lt, c.told-lanes))))
    c.told-sets)
