use Rattle.tl_witness.proofs.Witnesses.{asked-told}
use Rattle.tl_witness.proofs.text.append_asked.Goals as goal

pub returns : goal.returns
returns g c =
    asked-told (g.X.Places.names c.args.places.now) c.args.line c.line_at.result c.args.out.now.items _ _ _
    c.line_at.ensures c.in_ok-extend_from_slice.ensures.items c.in_ok-append_number.ensures c.in_ok-push.ensures.items
