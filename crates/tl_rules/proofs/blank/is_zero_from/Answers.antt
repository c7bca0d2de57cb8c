use Rattle.tl_rules.proofs.Zeros.{zero-from}
use Rattle.tl_rules.proofs.blank.is_zero_from.Goals as goal

pub returns : goal.returns
returns c = zero-from c.is_zero.result c.args.from c.args.payload.now c.past.result c.requires c.past.ensures
    c.is_zero.ensures
