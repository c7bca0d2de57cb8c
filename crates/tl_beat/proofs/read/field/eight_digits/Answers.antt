use Rattle.std.proofs.Common.{rules}
use Rattle.tl_beat.proofs.AtPlaces.{field_of_eight}
use Rattle.tl_beat.proofs.read.field.eight_digits.Goals as goal

pub returns : goal.returns
returns c = field_of_eight c.args.bytes.now c.in_ok-field.field.now c.in_ok-field.behind.now c.in_ok-number.number
    (search rules) (search rules) (search rules) (c.in_ok-number.ensures c.in_ok-field.behind.now)
