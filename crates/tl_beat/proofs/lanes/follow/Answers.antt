use Rattle.tl_beat.proofs.VectorForms.{follow-is}
use Rattle.tl_beat.proofs.lanes.follow.Goals as goal

pub returns : goal.returns
returns c = follow-is c.args.form c.args.bytes c.beyond-numbers.result c.beyond-letters.result c.fits-form.0
    c.fits-bytes.0 c.fits-form.1 c.fits-bytes.1 c.beyond-numbers.ensures c.beyond-letters.ensures
