use Rattle.std.proofs.Common.{rules}
use Rattle.tl_schedule.proofs.Gets.{get_body, get_spelled}
use Rattle.tl_schedule.proofs.get.read_get.Goals as goal

pub returns-in-32 : goal.returns-in-32
returns-in-32 c =
    get_spelled c.get.result c.args.body.now _
    (get_body c.args.body.now c.in-32.len_at_least (search rules) (search rules) (search rules) (search rules)
    (search rules) (search rules))
    c.get.ensures
