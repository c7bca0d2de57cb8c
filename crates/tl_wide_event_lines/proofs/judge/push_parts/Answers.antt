use Rattle.std.proofs.Common.{ap}
use Rattle.tl_events.specs.declared.commit.Event.TheVariants as event
use Rattle.tl_wide.specs.statement.Pieces.{left_of}
use Rattle.tl_wide_events.specs.statement.Narrowed.{as_events}
use Rattle.tl_wide_event_lines.proofs.EventsJudged.{event_bad, event_taken, events_good, none-judged}
use Rattle.tl_wide_event_lines.proofs.judge.push_parts.Goals as goal

pub loop-part-init : goal.loop-part-init
loop-part-init g c = none-judged c.args.judge.now c.args.link (as_events (left_of {p = g.row.P} c.args.beat.now
    c.args.parts))

pub returns-in-Some-2 : goal.returns-in-Some-2
returns-in-Some-2 g c =
    event_bad c.args.judge.now c.loop-part.judge c.args.link
    (as_events (left_of {p = g.row.P} c.args.beat.now c.args.parts)) c.push.new.self (event.Beat c.in-Some.part)
    (as_events (left_of c.args.beat.now c.loop-part.left)) (as_events (left_of c.args.beat.now c.next.new.self))
    c.in-Some-2.fault (ap as_events c.in-Some.ensures) c.loop-part.invariant
    (rw c.in-Some-2.is at c.in_ok-fault.ensures)

pub loop-part-preserved : goal.loop-part-preserved
loop-part-preserved g c =
    event_taken c.args.judge.now c.loop-part.judge c.args.link
    (as_events (left_of {p = g.row.P} c.args.beat.now c.args.parts)) c.push.new.self (event.Beat c.in-Some.part)
    (as_events (left_of c.args.beat.now c.loop-part.left)) (as_events (left_of c.args.beat.now c.next.new.self))
    (ap as_events c.in-Some.ensures) c.loop-part.invariant (rw c.in_default-2.is at c.in_ok-fault.ensures)

pub returns : goal.returns
returns g c =
    events_good c.args.judge.now c.loop-part.judge c.args.link
    (as_events (left_of {p = g.row.P} c.args.beat.now c.args.parts))
    (as_events (left_of c.args.beat.now c.loop-part.left)) (ap as_events c.in_default.ensures)
    c.loop-part.invariant
