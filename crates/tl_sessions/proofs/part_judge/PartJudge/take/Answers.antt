use Rattle.std.specs.Prelude.{false}
use Rattle.tl_sessions.proofs.WideParts.{alone-bad, alone-commit, alone-good, alone-kept, events-bad, events-good, events-kept}
use Rattle.tl_sessions.proofs.WideParts.{together-bad, together-commit, together-good, together-kept}
use Rattle.tl_sessions.proofs.part_judge.PartJudge.take.Goals as goal

pub returns-in-Ok : goal.returns-in-Ok
returns-in-Ok g c =
    rw (c.in-OfLinks.is, c.in-Beat.is) (alone-good c.args.link c.in-Beat.beat c.in-OfLinks.monitor c.try_push.new.self
    (λ levels l t. c.in-Ok.ensures.answer_under levels l t false)
    (λ levels l t. c.in-Ok.ensures.knows_under levels l t false))

pub returns-in-Broken : goal.returns-in-Broken
returns-in-Broken g c =
    rw (c.in-OfLinks.is, c.in-Beat.is) (alone-bad c.args.link c.in-Beat.beat c.in-OfLinks.monitor c.try_push.new.self
    c.in-Broken.rule (λ levels l t known. rw c.in-Broken.is at (c.in-Err.ensures.answer_under levels l t false known)))

pub returns-in_default : goal.returns-in_default
returns-in_default g c =
    rw (c.in-OfLinks.is, c.in-Beat.is) (alone-kept c.args.link c.in-Beat.beat c.in-OfLinks.monitor c.try_push.new.self
    c.in-Err.fault c.in_default.not-Broken (λ levels l t. c.in-Err.ensures.answer_under levels l t false)
    (λ levels l t. c.in-Err.ensures.knows_under levels l t false)
    (λ levels l t. c.in-Err.ensures.memory_under levels l t false))

pub returns-in-Commit : goal.returns-in-Commit
returns-in-Commit g c =
    rw (c.in-OfLinks.is, c.in-Commit.is) (alone-commit c.args.link c.in-Commit.field-0 c.in-OfLinks.monitor)

pub returns-in-Ok-try_push : goal.returns-in-Ok-try_push
returns-in-Ok-try_push g c =
    rw (c.in-OfAll.is, c.in-Beat-event.is) (together-good c.args.link c.in-Beat-event.beat c.in-OfAll.judge
    c.try_push-in-Beat-event.new.self (λ levels l t. c.in-Ok-try_push.ensures.answer levels l t false)
    (λ levels l t. c.in-Ok-try_push.ensures.knows levels l t false))

pub returns-in-Err-Broken : goal.returns-in-Err-Broken
returns-in-Err-Broken g c =
    rw (c.in-OfAll.is, c.in-Beat-event.is) (together-bad c.args.link c.in-Beat-event.beat c.in-OfAll.judge
    c.try_push-in-Beat-event.new.self c.in-Err-Broken.breach (λ levels l t known.
    rw c.in-Err-Broken.field-0-is at (c.in-Err-Broken.ensures.answer levels l t false known)))

pub returns-in-Err-try_push : goal.returns-in-Err-try_push
returns-in-Err-try_push g c =
    rw (c.in-OfAll.is, c.in-Beat-event.is) (together-kept c.args.link c.in-Beat-event.beat c.in-OfAll.judge
    c.try_push-in-Beat-event.new.self (λ levels l t. c.in-Err-try_push.ensures.knows levels l t false))

pub returns-in-Commit-event : goal.returns-in-Commit-event
returns-in-Commit-event g c =
    rw (c.in-OfAll.is, c.in-Commit-event.is) (together-commit c.args.link c.in-Commit-event.field-0 c.in-OfAll.judge)

pub returns-in-Ok-try_push-2 : goal.returns-in-Ok-try_push-2
returns-in-Ok-try_push-2 g c =
    rw c.in-OfEvents.is (events-good c.args.link c.args.event.now c.in-OfEvents.judge c.try_push-in-OfEvents.new.self
    (λ levels complete l e. c.in-Ok-try_push-2.ensures.answer levels complete l e)
    (λ levels complete l e. c.in-Ok-try_push-2.ensures.knows levels complete l e))

pub returns-in-Err-Broken-try_push : goal.returns-in-Err-Broken-try_push
returns-in-Err-Broken-try_push g c =
    rw c.in-OfEvents.is (events-bad c.args.link c.args.event.now c.in-OfEvents.judge c.try_push-in-OfEvents.new.self
    c.in-Err-Broken-try_push.breach (λ levels complete l e known valid.
    rw c.in-Err-Broken-try_push.field-0-is at (c.in-Err-Broken-try_push.ensures.answer levels complete l e known valid)))

pub returns-in-Err-try_push-2 : goal.returns-in-Err-try_push-2
returns-in-Err-try_push-2 g c =
    rw c.in-OfEvents.is (events-kept c.args.link c.args.event.now c.in-OfEvents.judge c.try_push-in-OfEvents.new.self
    (λ levels complete l e. c.in-Err-try_push-2.ensures.knows levels complete l e))
