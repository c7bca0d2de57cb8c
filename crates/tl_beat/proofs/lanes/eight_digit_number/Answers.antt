use Rattle.tl_beat.proofs.VectorLanes.{eight_pass}
use Rattle.tl_beat.proofs.lanes.eight_digit_number.Goals as goal

pub returns : goal.returns
returns c = c.number_of_digits.ensures (eight_pass c.args.field.now c.values.result c.told-field c.values.ensures
    c.if-not-values.false)
