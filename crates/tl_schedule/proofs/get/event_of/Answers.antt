use Rattle.tl_schedule.proofs.EventMeant.{get_meant}
use Rattle.tl_schedule.proofs.get.event_of.Goals as goal

pub returns : goal.returns
returns g c = get_meant c.args.get.client c.args.get.size c.args.get.address c.lanes.result _ c.lanes.ensures
