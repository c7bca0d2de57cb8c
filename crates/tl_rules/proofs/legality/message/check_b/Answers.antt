use Rattle.std.proofs.Common.{Err, ap, sym, ◌∙◌}
use Rattle.std.proofs.lemmas.Result.{err_from_is_err_and}
use Rattle.tl_params.specs.statement.Refusal.{ok_unless}
use Rattle.tl_rules.proofs.Checks.{broken_control, b_owns, b_beats, b_single}
use Rattle.tl_rules.proofs.legality.message.check_b.Goals as goal

pub returns-in_err-control_of_b : goal.returns-in_err-control_of_b
returns-in_err-control_of_b g c =
    let p = err_from_is_err_and c.from_residual.result c.from_residual.ensures.1 in
    p.1 ∙ ap Err p.2 ∙ sym (broken_control c.args.level _ _ _ (b_owns c.args.message.now) _
    (b_beats c.args.level c.args.message.now) c.in_err-control_of_b.ensures.value c.requires)

pub returns : goal.returns
returns g c =
    c.own_of_b.ensures.value ∙ rw (c.mask_of-mask.ensures, c.bit_of.ensures)
    (sym (ap ok_unless (b_single c.args.level c.args.message.now
    (sym c.in_ok-control_of_b.was ∙ c.control_of_b.ensures.value))))
