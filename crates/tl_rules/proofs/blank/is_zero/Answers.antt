use Rattle.tl_rules.proofs.Zeros.{zero-told}
use Rattle.tl_rules.proofs.blank.is_zero.Goals as goal

pub returns : goal.returns
returns c = zero-told c.args.bytes.now c.told-bytes
