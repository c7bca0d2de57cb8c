use Rattle.tl_beat.proofs.VectorDigits.{front-numbers}
use Rattle.tl_beat.proofs.lanes.front_numbers.Goals as goal

pub returns : goal.returns
returns c = front-numbers c.args.front c.digit_values-values.result c.fits-front.0 c.digit_values-values.ensures
