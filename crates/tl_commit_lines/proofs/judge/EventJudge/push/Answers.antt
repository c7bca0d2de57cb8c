use Rattle.std.specs.Prelude.{false}
use Rattle.tl_commit_lines.proofs.Pushed.{all-bad, all-good, beat-bad, beat-good, passed}
use Rattle.tl_commit_lines.proofs.judge.EventJudge.push.Goals as goal

pub returns-in_default : goal.returns-in_default
returns-in_default g c =
    rw c.in-OfLinks.is (passed c.args.link c.in-OfLinks.monitor c.args.event.now c.in_default.not-Beat)

pub returns-in-Ok : goal.returns-in-Ok
returns-in-Ok g c =
    rw c.in-OfAll.is (all-good c.args.link c.in-OfAll.judge c.try_push.new.self c.args.event.now
    (λ levels complete l e known. c.in-Ok.ensures.answer levels complete l e known c.requires.event)
    (λ levels complete l e known. c.in-Ok.ensures.knows levels complete l e known c.requires.event))

pub returns-in-Err-Broken : goal.returns-in-Err-Broken
returns-in-Err-Broken g c =
    rw (c.in-OfAll.is, c.fault_of.ensures) (all-bad c.args.link c.in-OfAll.judge c.try_push.new.self c.args.event.now
    c.in-Err-Broken.breach (λ levels complete l e known.
    rw c.in-Err-Broken.field-0-is at (c.in-Err-Broken.ensures.answer levels complete l e known c.requires.event))
    (λ levels complete l e known. c.in-Err-Broken.ensures.knows levels complete l e known c.requires.event))

pub returns-in-Ok-try_push : goal.returns-in-Ok-try_push
returns-in-Ok-try_push g c =
    rw (c.in-OfLinks.is, c.in-Beat.is) (beat-good c.args.link c.in-OfLinks.monitor c.try_push-in-OfLinks.new.self
    c.in-Beat.beat (λ levels may t. c.in-Ok-try_push.ensures.answer_under levels may t false)
    (λ levels may t. c.in-Ok-try_push.ensures.knows_under levels may t false))

pub returns-in-Err-Broken-try_push : goal.returns-in-Err-Broken-try_push
returns-in-Err-Broken-try_push g c =
    rw (c.in-OfLinks.is, c.in-Beat.is) (beat-bad c.args.link c.in-OfLinks.monitor c.try_push-in-OfLinks.new.self
    c.in-Beat.beat c.in-Err-Broken-try_push.rule (λ levels may t known.
    rw c.in-Err-Broken-try_push.field-0-is at (c.in-Err-Broken-try_push.ensures.answer_under levels may t false known))
    (λ levels may t. c.in-Err-Broken-try_push.ensures.knows_under levels may t false))
