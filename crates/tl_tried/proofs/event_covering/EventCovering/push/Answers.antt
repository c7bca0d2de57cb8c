use Rattle.std.proofs.Common.{refl}
use Rattle.tl_tried.proofs.EventRows.{event-bad, event-taken}
use Rattle.tl_tried.proofs.event_covering.EventCovering.push.Goals as goal

pub returns-in-Some : goal.returns-in-Some
returns-in-Some g c =
    event-bad c.args.self.now
    (record { covering = c.take_beat_of.new.covering; rows = c.args.self.now.rows; line = c.args.self.now.line })
    c.args.link c.args.event.now c.in-Some.fault (rw c.in-Some.is at c.in_ok-fault.ensures) refl

pub returns : goal.returns
returns g c =
    event-taken c.args.self.now _ c.args.link c.args.event.now c.rows.result.now
    (rw c.in_default.is at c.in_ok-fault.ensures) c.in_ok-self.ensures c.rows.ensures.value c.in_ok-follow_rows.ensures
