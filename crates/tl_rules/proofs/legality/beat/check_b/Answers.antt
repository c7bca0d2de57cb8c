use Rattle.std.proofs.Common.{Err, ap, sym, ◌∙◌}
use Rattle.std.proofs.lemmas.Result.{err_from_is_err_and}
use Rattle.tl_params.specs.statement.Refusal.{ok_unless}
use Rattle.tl_rules.proofs.Excused.{illegal_under_b}
use Rattle.tl_rules.proofs.Verdicts.{broken_first, passed_first}
use Rattle.tl_rules.proofs.legality.beat.check_b.Goals as goal

pub returns-in_err-control_of_b-clause-value : goal.returns-in_err-control_of_b-clause-value
returns-in_err-control_of_b-clause-value g c =
    let p = err_from_is_err_and c.from_residual.result c.from_residual.ensures.1 in
    p.1 ∙ ap Err p.2 ∙ sym (broken_first _ _ _ _ (illegal_under_b c.args.liberties c.args.level c.args.beat.now)
    (rw c.excused_probe_source.ensures at c.in_err-control_of_b.ensures.value))

pub returns-clause-value : goal.returns-clause-value
returns-clause-value g c =
    let passed = passed_first _ _ _ _ (illegal_under_b c.args.liberties c.args.level c.args.beat.now)
    (rw c.excused_probe_source.ensures at (sym c.in_ok-control_of_b.was ∙ c.control_of_b.ensures.value)) in
    c.own_of_b.ensures.value ∙ sym (ap ok_unless passed)
