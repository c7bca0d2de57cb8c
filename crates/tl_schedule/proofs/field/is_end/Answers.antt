use Rattle.std.proofs.Common.{◌∙◌}
use Rattle.tl_schedule.proofs.Fields.{none_left}
use Rattle.tl_schedule.proofs.field.is_end.Goals as goal

pub returns : goal.returns
returns c = c.is_empty.ensures ∙ none_left c.args.bytes.now
