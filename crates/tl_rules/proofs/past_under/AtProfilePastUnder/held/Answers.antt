use Rattle.std.proofs.Common.{sym, ◌∙◌}
use Rattle.tl_rules.proofs.Profiles.{held-same}
use Rattle.tl_rules.proofs.past_under.AtProfilePastUnder.held.Goals as goal

pub returns : goal.returns
returns g c = λ l t k. c.held.ensures t k.1 ∙ sym (held-same l c.args.block t k.0)
