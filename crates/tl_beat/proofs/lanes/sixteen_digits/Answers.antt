use Rattle.tl_beat.proofs.LaneDigits.{eight-digits}
use Rattle.tl_beat.proofs.lanes.sixteen_digits.Goals as goal

pub returns : goal.returns
returns c = eight-digits c.args.lanes.now c.requires (λ i. (c.type_inv.lanes i).fits)
