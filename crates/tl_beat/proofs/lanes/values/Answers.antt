use Rattle.tl_beat.proofs.VectorLanes.{values-are}
use Rattle.tl_beat.proofs.lanes.values.Goals as goal

pub returns : goal.returns
returns g c = values-are g.row.N c.args.bytes c.fits-bytes.0 c.fits-bytes.1
