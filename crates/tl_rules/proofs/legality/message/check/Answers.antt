use Rattle.std.proofs.Common.{rules, ap, sym, ◌∙◌}
use Rattle.tl_params.specs.statement.Refusal.{ok_unless}
use Rattle.tl_rules.proofs.Checks.{other_channel, grant_ack}
use Rattle.tl_rules.proofs.legality.message.check.Goals as goal

pub returns-then-not-is_on : goal.returns-then-not-is_on
returns-then-not-is_on g c =
    sym (other_channel c.args.level c.args.channel c.args.message.now c.requires (search rules))

pub returns-in-E : goal.returns-in-E
returns-in-E g c = c.check_e.ensures ∙ sym
    (ap ok_unless (grant_ack c.args.level c.args.channel c.args.message.now c.in-E.field-0 (search rules) c.in-E.is))
