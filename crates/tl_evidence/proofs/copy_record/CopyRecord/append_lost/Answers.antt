use Rattle.tl_evidence.proofs.CopyTexts.{lost-told}
use Rattle.tl_evidence.proofs.copy_record.CopyRecord.append_lost.Goals as goal

pub returns : goal.returns
returns g c = λ may levels complete e k.
    lost-told (g.X.Places.names c.args.places.now) c.args.self.now may levels complete e k c.args.place c.possible-copy.result.block
    c.possible-memory.result.block c.possible-copy.result.set.now c.possible-memory.result.set.now c.requires
    c.possible-copy.ensures.block c.possible-copy.ensures.set c.possible-memory.ensures.block
    c.possible-memory.ensures.set c.address.result c.address.ensures c.args.out.now.items _ _ _ _ _ _ _
    c.in_ok-extend_from_slice.ensures.items c.in_ok-append_place.ensures c.in_ok-extend_from_slice-2.ensures.items
    c.in_ok-append_values.ensures c.in_ok-extend_from_slice-3.ensures.items c.in_ok-append_values-2.ensures
    c.in_ok-push.ensures.items
