use Rattle.std.proofs.Common.{ap, refl}
use Rattle.tl_events.specs.declared.commit.Event.TheVariants as event
use Rattle.tl_wide.specs.statement.Pieces.{left_of}
use Rattle.tl_wide_events.specs.statement.Narrowed.{as_events}
use Rattle.tl_sessions.proofs.WideParts.{none-judged, part_bad, part_refused, part_taken, parts_good}
use Rattle.tl_sessions.proofs.part_judge.PartJudge.take_parts.Goals as goal

pub loop-part-init : goal.loop-part-init
loop-part-init g c = record {
  same = refl;
  parts = none-judged c.args.self.now c.args.link (as_events (left_of {p = g.row.P} c.args.beat.now c.args.parts));
}

pub returns-in-Ok-Some : goal.returns-in-Ok-Some
returns-in-Ok-Some g c =
    rw c.in-Ok-Some.field-0-is (part_bad c.args.self.now c.loop-part.self c.args.link
    (as_events (left_of {p = g.row.P} c.args.beat.now c.args.parts)) (event.Beat c.in-Some.part)
    (as_events (left_of c.args.beat.now c.loop-part.left)) (as_events (left_of c.args.beat.now c.next.new.self))
    c.in-Ok-Some.breach (ap as_events (rw c.loop-part.invariant.same at c.in-Some.ensures)) c.loop-part.invariant.parts
    (λ judging levels l e known. rw c.in-Ok-Some.field-0-is at c.in-Ok-Some.ensures judging levels l e known tt))

pub returns-in-Err : goal.returns-in-Err
returns-in-Err g c = (
  tt,
  part_refused c.args.self.now c.loop-part.self c.args.link
      (as_events (left_of {p = g.row.P} c.args.beat.now c.args.parts)) c.take.new.self (event.Beat c.in-Some.part)
      (as_events (left_of c.args.beat.now c.loop-part.left)) (as_events (left_of c.args.beat.now c.next.new.self))
      (ap as_events (rw c.loop-part.invariant.same at c.in-Some.ensures)) c.loop-part.invariant.parts
      (λ judging levels l e known. c.in-Err.ensures judging levels l e known tt),
)

pub loop-part-preserved : goal.loop-part-preserved
loop-part-preserved g c = record {
  same = refl;
  parts =
      part_taken c.args.self.now c.loop-part.self c.args.link
      (as_events (left_of {p = g.row.P} c.args.beat.now c.args.parts)) c.take.new.self (event.Beat c.in-Some.part)
      (as_events (left_of c.args.beat.now c.loop-part.left)) (as_events (left_of c.args.beat.now c.next.new.self))
      (ap as_events (rw c.loop-part.invariant.same at c.in-Some.ensures)) c.loop-part.invariant.parts
      (λ judging levels l e known. (rw c.in-Ok-None.field-0-is at c.in-Ok-None.ensures) judging levels l e known tt);
}

pub returns : goal.returns
returns g c =
    parts_good c.args.self.now c.loop-part.self c.args.link
    (as_events (left_of {p = g.row.P} c.args.beat.now c.args.parts))
    (as_events (left_of c.args.beat.now c.loop-part.left))
    (ap as_events (rw c.loop-part.invariant.same at c.in_default.ensures)) c.loop-part.invariant.parts
