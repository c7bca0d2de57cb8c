use Rattle.std.specs.Prelude.{false}
use Rattle.tl_params.specs.statement.Liberties.{liberties_of}
use Rattle.tl_lines.proofs.BeatJudging.{alone_bad, alone_good, together_bad, together_good}
use Rattle.tl_lines.proofs.beat_judge.BeatJudge.push.Goals as goal

pub returns-in-Ok : goal.returns-in-Ok
returns-in-Ok g c =
    alone_good _ (c.args.link, c.args.beat.now) c.in-OfLinks.monitor c.in-OfLinks.is c.try_push.new.self
    (λ levels p t. c.in-Ok.ensures.answer levels p t false) (λ levels p t. c.in-Ok.ensures.knows levels p t false)

pub returns-in-Err-Broken : goal.returns-in-Err-Broken
returns-in-Err-Broken g c =
    alone_bad _ (c.args.link, c.args.beat.now) c.in-OfLinks.monitor c.in-OfLinks.is c.try_push.new.self
    c.in-Err-Broken.rule
    (λ levels p t known. rw c.in-Err-Broken.field-0-is at (c.in-Err-Broken.ensures.answer levels p t false known))
    (λ levels p t. c.in-Err-Broken.ensures.knows levels p t false)

pub returns-in-Ok-try_push : goal.returns-in-Ok-try_push
returns-in-Ok-try_push g c =
    together_good _ (c.args.link, c.args.beat.now) c.in-OfAll.judge c.in-OfAll.is c.try_push-in-OfAll.new.self
    (λ levels p t. c.in-Ok-try_push.ensures.answer levels (liberties_of p) t false)
    (λ levels p t. c.in-Ok-try_push.ensures.knows levels (liberties_of p) t false)

pub returns-in-Err-Broken-try_push : goal.returns-in-Err-Broken-try_push
returns-in-Err-Broken-try_push g c =
    rw c.of_breach.ensures
    (together_bad _ (c.args.link, c.args.beat.now) c.in-OfAll.judge c.in-OfAll.is c.try_push-in-OfAll.new.self
    c.in-Err-Broken-try_push.breach
    (λ levels p t known.
    rw c.in-Err-Broken-try_push.field-0-is at (c.in-Err-Broken-try_push.ensures.answer levels (liberties_of p) t false known))
    (λ levels p t. c.in-Err-Broken-try_push.ensures.knows levels (liberties_of p) t false))
