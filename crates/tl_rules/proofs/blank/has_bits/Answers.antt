use Rattle.std.proofs.Common.{refl}
use Rattle.tl_rules.proofs.Widths.{no_bits_from}
use Rattle.tl_rules.proofs.blank.has_bits.Goals as goal

pub returns-else-bits-eq64 : goal.returns-else-bits-eq64
returns-else-bits-eq64 c = no_bits_from c.args.mask c.args.mask c.args.bits refl
