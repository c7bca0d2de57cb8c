use Rattle.std.proofs.Common.{ap, ◌∙◌}
use Rattle.tl_params.specs.statement.Refusal.{ok_unless}
use Rattle.tl_rules.proofs.Profiles.{illegal-none}
use Rattle.tl_rules.proofs.legality.beat.check_beat.Goals as goal

pub returns-clause-value : goal.returns-clause-value
returns-clause-value g c = rw c.none.ensures at c.check_beat_under.ensures.value
    ∙ ap ok_unless (illegal-none c.args.level c.args.channel c.args.beat.now)
