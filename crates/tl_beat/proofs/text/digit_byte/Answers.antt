use Rattle.tl_beat.proofs.DigitTable.{digit_char-is}
use Rattle.tl_beat.proofs.text.digit_byte.Goals as goal

pub returns : goal.returns
returns c = rw c.from.ensures (digit_char-is c.args.digit c.requires)
