use Rattle.std.proofs.Common.{Err, ap, sym, ◌∙◌}
use Rattle.std.proofs.lemmas.Result.{err_from_is_err_and}
use Rattle.tl_rules.proofs.Verdicts.{illegal_a, broken_first}
use Rattle.tl_rules.proofs.legality.beat.check_a.Goals as goal

pub returns-in_err-control_of_a-clause-value : goal.returns-in_err-control_of_a-clause-value
returns-in_err-control_of_a-clause-value g c =
    let p = err_from_is_err_and c.from_residual.result c.from_residual.ensures.1 in
    p.1 ∙ ap Err p.2 ∙ sym (broken_first _ _ _ _ (illegal_a c.args.level c.args.beat.now)
    c.in_err-control_of_a.ensures.value)
