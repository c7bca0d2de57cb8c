use Rattle.std.proofs.Common.{rules}
use Rattle.tl_wide.proofs.LongNumbers.{sixteen-read}
use Rattle.tl_wide.proofs.read.field.sixteen_digits.Goals as goal

pub returns : goal.returns
returns c = sixteen-read c.args.bytes.now c.in_ok-high.middle.now c.in_ok-low.rest.now c.in_ok-high.high c.in_ok-low.low
    c.joined.result (search rules) (search rules) c.joined.ensures
