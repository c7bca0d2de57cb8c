use Rattle.tl_beat.proofs.VectorForms.{beyonds-are}
use Rattle.tl_beat.proofs.lanes.beyond.Goals as goal

pub returns : goal.returns
returns g c = beyonds-are g.row.N c.args.first c.args.more c.args.form c.args.bytes c.fits-form.0 c.fits-bytes.0
    c.ranges.more.fits
