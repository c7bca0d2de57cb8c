use Rattle.tl_beat.proofs.DigitTable.{table_value}
use Rattle.tl_beat.proofs.read.field.value.Goals as goal

pub returns : goal.returns
returns c = rw c.from.ensures (table_value c.args.byte c.ranges.byte.fits)
