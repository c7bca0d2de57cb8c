use Rattle.std.proofs.Common.{Err, ap, sym, ◌∙◌}
use Rattle.std.proofs.lemmas.Result.{err_from_is_err_and}
use Rattle.tl_params.specs.statement.Refusal.{ok_unless}
use Rattle.tl_rules.proofs.Checks.{broken_control, c_owns, c_beats, c_single}
use Rattle.tl_rules.proofs.legality.message.check_c.Goals as goal

pub returns-in_err-control_of_c : goal.returns-in_err-control_of_c
returns-in_err-control_of_c g c =
    let p = err_from_is_err_and c.from_residual.result c.from_residual.ensures.1 in
    p.1 ∙ ap Err p.2 ∙ sym (broken_control c.args.level _ _ _ (c_owns c.args.message.now) _
    (c_beats c.args.level c.args.message.now) c.in_err-control_of_c.ensures.value c.requires)

pub returns : goal.returns
returns g c = c.own_of_c.ensures ∙ rw c.bit_of.ensures
    (sym (ap ok_unless (c_single c.args.level c.args.message.now
    (sym c.in_ok-control_of_c.was ∙ c.control_of_c.ensures.value))))
