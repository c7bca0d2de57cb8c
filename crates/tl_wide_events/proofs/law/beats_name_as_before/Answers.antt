use Rattle.tl_wide_events.proofs.CommitNames.{beats-alone}
use Rattle.tl_wide_events.proofs.law.beats_name_as_before.Goals as goal

pub returns : goal.returns
returns c = λ w t. beats-alone t
