use Rattle.std.proofs.Common.{rules}
use Rattle.tl_schedule.proofs.Commons.{body_spells, deliver_body}
use Rattle.tl_schedule.proofs.common.read_deliver.Goals as goal

pub returns-in-32 : goal.returns-in-32
returns-in-32 c =
    body_spells c.deliver.result c.args.body.now _
    (deliver_body c.args.body.now c.in-32.len_at_least c.in-32.len_below (search rules) (search rules) (search rules)
    (search rules) (search rules) (search rules) (search rules) (search rules) (search rules))
    c.deliver.ensures
