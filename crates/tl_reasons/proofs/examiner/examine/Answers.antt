use Rattle.std.proofs.Common.{refl}
use Rattle.std.specs.Prelude.{Some}
use Rattle.std.proofs.lemmas.Result.{err_from_is_err_and}
use Rattle.tl_reasons.proofs.Examining.{examined-total}
use Rattle.tl_reasons.proofs.Unexplained.{KnowsExamined, examined-so-far, unjudged_by}
use Rattle.tl_lines.specs.statement.JudgedLinks.{JudgedLinks, LinksSoFar}
use Rattle.tl_reasons.proofs.examiner.examine.Goals as goal

pub handle_input-requires-clause-total : goal.handle_input-requires-clause-total
handle_input-requires-clause-total g c = examined-total

pub returns-in_err-status-clause-fault : goal.returns-in_err-status-clause-fault
returns-in_err-status-clause-fault g c =
    let p = err_from_is_err_and c.from_residual.result c.from_residual.ensures.1 in
    rw (p.1, p.2) (unjudged_by (KnowsExamined c.args.together c.args.allow) (LinksSoFar c.args.together c.args.allow)
    (JudgedLinks c.args.together c.args.allow) (examined-so-far c.args.together c.args.allow) c.in_err-status.field-0.0
    c.handle_input.result _ _ (Some c.args.verdict.now.items) (Some c.handle_input.new.writer.items)
    c.in_err-status.ensures.fault c.in_err-status.ensures.read c.handle_input.ensures.ok c.handle_input.ensures.err c.handle_input.ensures.fault)

pub handle_input-requires-clause-begins : goal.handle_input-requires-clause-begins
handle_input-requires-clause-begins g c = record { judged = (refl, refl); traced = refl; unfound = c.new-found.ensures }
