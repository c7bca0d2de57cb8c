use Rattle.std.proofs.lemmas.Result.{on_ok_weaker}
use Rattle.tl_witness.proofs.Told.{moment-told}
use Rattle.tl_evidence.proofs.strays.append_told.Goals as goal

pub returns : goal.returns
returns g c = on_ok_weaker c.append_number.result
    (λ number.
    moment-told (g.X.Places.names c.args.places.now) c.args.moment c.in-Some.moment c.from.result c.line_at.result
    c.args.out.now.items _ _ c.in-Some.is c.from.ensures c.line_at.ensures c.in_ok-extend_from_slice.ensures.items number)
    c.append_number.ensures
