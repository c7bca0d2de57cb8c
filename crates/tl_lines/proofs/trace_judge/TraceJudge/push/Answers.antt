use Rattle.std.specs.Prelude.{false}
use Rattle.tl_lines.proofs.TraceJudging.{alone_bad, alone_good, together_bad, together_good}
use Rattle.tl_lines.proofs.trace_judge.TraceJudge.push.Goals as goal

pub returns-in-Ok : goal.returns-in-Ok
returns-in-Ok g c =
    rw c.in-OfLinks.is (alone_good (c.args.link, c.args.beat.now) c.in-OfLinks.monitor c.try_push.new.self
    (λ levels may t. c.in-Ok.ensures.answer_under levels may t false)
    (λ levels may t. c.in-Ok.ensures.knows_under levels may t false))

pub returns-in-Err-Broken : goal.returns-in-Err-Broken
returns-in-Err-Broken g c =
    rw c.in-OfLinks.is (alone_bad (c.args.link, c.args.beat.now) c.in-OfLinks.monitor c.try_push.new.self
    c.in-Err-Broken.rule
    (λ levels may t known. rw c.in-Err-Broken.field-0-is at (c.in-Err-Broken.ensures.answer_under levels may t false known))
    (λ levels may t. c.in-Err-Broken.ensures.knows_under levels may t false))

pub returns-in-Ok-try_push : goal.returns-in-Ok-try_push
returns-in-Ok-try_push g c =
    rw c.in-OfAll.is (together_good (c.args.link, c.args.beat.now) c.in-OfAll.judge c.try_push-in-OfAll.new.self
    (λ levels p t. c.in-Ok-try_push.ensures.answer levels p t false)
    (λ levels p t. c.in-Ok-try_push.ensures.knows levels p t false))

pub returns-in-Err-Broken-try_push : goal.returns-in-Err-Broken-try_push
returns-in-Err-Broken-try_push g c =
    rw (c.in-OfAll.is, c.of_breach.ensures)
    (together_bad (c.args.link, c.args.beat.now) c.in-OfAll.judge c.try_push-in-OfAll.new.self
    c.in-Err-Broken-try_push.breach
    (λ levels p t known.
    rw c.in-Err-Broken-try_push.field-0-is at (c.in-Err-Broken-try_push.ensures.answer levels p t false known))
    (λ levels p t. c.in-Err-Broken-try_push.ensures.knows levels p t false))
