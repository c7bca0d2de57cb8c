use Rattle.std.proofs.Common.{rules}
use Rattle.tl_schedule.proofs.Commons.{body_spells, load_body}
use Rattle.tl_schedule.proofs.common.read_load.Goals as goal

pub returns-in-32 : goal.returns-in-32
returns-in-32 c =
    body_spells c.load.result c.args.body.now _
    (load_body c.args.body.now c.in-32.len_at_least (search rules) (search rules) (search rules) (search rules)
    (search rules) (search rules) (search rules))
    c.load.ensures
