use Rattle.std.proofs.Common.{◌∙◌}
use Rattle.tl_random.proofs.Events.{no_reason, turned}
use Rattle.tl_random.proofs.event.level_has.Goals as goal

pub returns : goal.returns
returns g c = turned _ _ c.is_none.ensures ∙ no_reason _ _ _ c.check.ensures
