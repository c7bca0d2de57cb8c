use Rattle.tl_beat.proofs.LaneDigits.{halves, halves-digits}
use Rattle.tl_beat.proofs.text.append_lanes.Goals as goal

pub returns-else-this-eq8-clause-text : goal.returns-else-this-eq8-clause-text
returns-else-this-eq8-clause-text g c =
    halves-digits c.args.text.now.items _ _ c.args.lanes.now _ _ c.append_eight_lanes-else-this-eq8.ensures.text
    c.append_eight_lanes-else-this-eq8-2.ensures.text (halves c.args.lanes.now)
