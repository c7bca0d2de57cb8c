use Rattle.tl_schedule.proofs.EventMeant.{access_meant}
use Rattle.tl_schedule.proofs.line.access.Goals as goal

pub returns : goal.returns
returns g c =
    access_meant c.args.word c.args.client c.in_ok-size.size c.in_ok-address.address _ _ _ c.in_ok-request.request _
    c.in_ok-size.ensures.gives c.in_ok-address.ensures c.in_ok-request.ensures
