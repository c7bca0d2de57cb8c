use Rattle.std.proofs.Common.{rules}
use Rattle.std.proofs.lemmas.Result.{on_ok_weaker}
use Rattle.tl_wide_event_story.proofs.CopyFollowed.{came-grant, came-other, came-report, came-silent}
use Rattle.tl_wide_event_story.proofs.copy_guide.CopyGuide.follow.Goals as goal

pub returns-then-ne-clause-counts : goal.returns-then-ne-clause-counts
returns-then-ne-clause-counts g c = λ e known.
    came-other _ _ c.args.passing.link e known c.args.part.now
    (λ same. absurd (search (rules, c.ne.ensures, c.if-ne.true, same)))

pub returns-in-C-clause-counts : goal.returns-in-C-clause-counts
returns-in-C-clause-counts g c =
    on_ok_weaker c.take.result (λ counts. λ e known.
    came-report _ _ c.args.passing.link e known _ c.args.part.now c.in-C.field-0 c.in-C.is
    (search (rules, c.ne.ensures, c.if-ne.false)) counts) c.take.ensures

pub returns-in-D-clause-counts : goal.returns-in-D-clause-counts
returns-in-D-clause-counts g c =
    on_ok_weaker c.take-in-D.result (λ counts. λ e known.
    came-grant _ _ c.args.passing.link e known c.args.part.now c.in-D.field-0 c.in-D.is) c.take-in-D.ensures

pub returns-clause-counts : goal.returns-clause-counts
returns-clause-counts g c = λ e known.
    came-silent _ _ c.args.passing.link e known c.args.part.now c.in_default.not-C
