use Rattle.std.proofs.Common.{rules}
use Rattle.tl_schedule.proofs.Gets.{get_asked}
use Rattle.tl_schedule.proofs.get.get_event.Goals as goal

pub event_of-requires : goal.event_of-requires
event_of-requires g c =
    let small = (c.in_ok-get.ensures g.row.W).1.1 in
    search (rules, small)

pub returns : goal.returns
returns g c = rw (get_asked g.row.W c.args.body.now c.in_ok-get.get c.in_ok-get.ensures) c.event_of.ensures
