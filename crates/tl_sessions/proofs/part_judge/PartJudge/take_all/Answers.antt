use Rattle.std.proofs.Common.{[], refl}
use Rattle.tl_events.specs.declared.commit.Event.TheVariants as event
use Rattle.tl_sessions.proofs.WideParts.{none-judged, one_bad, one_good, parts_good}
use Rattle.tl_sessions.proofs.part_judge.PartJudge.take_all.Goals as goal

pub returns-in-Commit-event : goal.returns-in-Commit-event
returns-in-Commit-event g c =
    rw (c.in-Parts.is, c.in-Commit-event.is) (λ valid. parts_good c.args.self.now c.args.self.now c.args.link [] [] refl
    (none-judged c.args.self.now c.args.link []))

pub returns-in-Ok-None : goal.returns-in-Ok-None
returns-in-Ok-None g c =
    rw c.in-Commit.is (λ valid. one_good c.args.self.now c.take.new.self c.args.link (event.Commit c.in-Commit.commit)
    (λ judging levels l e known. rw c.in-Ok-None.field-0-is at (c.in-Ok-None.ensures judging levels l e known valid)))

pub returns-in-Ok-Some : goal.returns-in-Ok-Some
returns-in-Ok-Some g c =
    rw (c.in-Commit.is, c.in-Ok-Some.field-0-is) (λ valid. one_bad c.args.self.now c.take.new.self c.args.link
    (event.Commit c.in-Commit.commit) c.in-Ok-Some.breach (λ judging levels l e known.
    rw c.in-Ok-Some.field-0-is at (c.in-Ok-Some.ensures judging levels l e known valid)))
