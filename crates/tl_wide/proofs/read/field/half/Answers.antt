use Rattle.std.proofs.Common.{rules}
use Rattle.tl_wide.proofs.LongNumbers.{eight-places}
use Rattle.tl_wide.proofs.read.field.half.Goals as goal

pub returns : goal.returns
returns c = eight-places c.args.bytes.now c.in_ok-field.field.now c.in_ok-field.rest.now c.in_ok-number.number
    (search rules) c.in_ok-number.ensures
