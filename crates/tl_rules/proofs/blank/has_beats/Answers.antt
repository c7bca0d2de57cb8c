use Rattle.tl_rules.proofs.Widths.{no_bits_from}
use Rattle.tl_rules.proofs.blank.has_beats.Goals as goal

pub returns : goal.returns
returns c = no_bits_from c.args.corrupt c.from.result c.args.beats c.from.ensures
