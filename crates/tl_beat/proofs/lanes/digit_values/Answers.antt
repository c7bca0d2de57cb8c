use Rattle.tl_beat.proofs.VectorDigits.{values-are}
use Rattle.tl_beat.proofs.lanes.digit_values.Goals as goal

pub returns : goal.returns
returns g c = values-are g.row.N c.args.digits c.fits-digits.0
