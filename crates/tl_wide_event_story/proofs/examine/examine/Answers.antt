use Rattle.std.specs.Prelude.{Some}
use Rattle.std.proofs.lemmas.Result.{err_from_is_err_and}
use Rattle.tl_reasons.proofs.Unexplained.{unjudged_by}
use Rattle.tl_wide_event_lines.proofs.TraceJudged.{made-for}
use Rattle.tl_wide_event_lines.specs.statement.JudgedWideEvents.{AnySoFar, JudgedAny}
use Rattle.tl_wide_event_story.proofs.Storied.{KnowsExamined, examined-so-far, examined-total, reached}
use Rattle.tl_wide_event_story.proofs.examine.examine.Goals as goal

pub handle_input-requires-clause-total : goal.handle_input-requires-clause-total
handle_input-requires-clause-total g c = examined-total

pub returns-clause-ok : goal.returns-clause-ok
returns-clause-ok g c =
    let same = made-for c.new.result c.args.together c.args.allow c.new.ensures.purpose in
    reached c.args.together c.args.allow _ _ c.args.verdict.now.items _ c.in_ok-status.status c.requires
    (rw c.in_ok-status.ensures.ok at (rw (same.0, same.1) at c.handle_input.ensures.ok))

pub returns-in_err-status-clause-fault : goal.returns-in_err-status-clause-fault
returns-in_err-status-clause-fault g c =
    let p = err_from_is_err_and c.from_residual.result c.from_residual.ensures.1 in
    let same = made-for c.new.result c.args.together c.args.allow c.new.ensures.purpose in
    rw (p.1, p.2) (unjudged_by (KnowsExamined c.args.together c.args.allow) (AnySoFar c.args.together c.args.allow)
    (JudgedAny c.args.together c.args.allow) (examined-so-far c.args.together c.args.allow) c.in_err-status.field-0.0
    c.handle_input.result _ _ (Some c.args.verdict.now.items) (Some c.handle_input.new.writer.items)
    c.in_err-status.ensures.fault c.in_err-status.ensures.read
    (rw (same.0, same.1) at c.handle_input.ensures.ok) (rw (same.0, same.1) at c.handle_input.ensures.err)
    (rw (same.0, same.1) at (rw c.new.ensures.purpose at c.handle_input.ensures.fault)))
