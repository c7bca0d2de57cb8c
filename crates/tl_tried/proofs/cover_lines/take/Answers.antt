use Rattle.std.specs.Prelude.{false}
use Rattle.tl_tried.proofs.Covered.{beat_bad, beat_good}
use Rattle.tl_tried.proofs.cover_lines.take.Goals as goal

pub returns-in-Ok : goal.returns-in-Ok
returns-in-Ok g c = beat_good c.args.covering.now c.push.new.self c.args.link c.args.beat.now
    (λ levels l t. c.in-Ok.ensures.answer levels l t false) (λ levels l t. c.in-Ok.ensures.covers levels l t false)

pub returns-in-Err-Broken : goal.returns-in-Err-Broken
returns-in-Err-Broken g c = beat_bad c.args.covering.now c.push.new.self c.args.link c.args.beat.now
    c.in-Err-Broken.rule
    (λ levels l t known. rw c.in-Err-Broken.field-0-is at (c.in-Err-Broken.ensures.answer levels l t false known))
    (λ levels l t known. rw c.in-Err-Broken.field-0-is at (c.in-Err-Broken.ensures.covers levels l t false known))
