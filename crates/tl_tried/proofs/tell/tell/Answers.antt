use Rattle.std.proofs.Common.{◌∙◌}
use Rattle.std.proofs.lemmas.Result.{err_from_is_err_and}
use Rattle.tl_tried.proofs.Telling.{told_so}
use Rattle.tl_tried.proofs.tell.tell.Goals as goal

pub returns-clause-ok : goal.returns-clause-ok
returns-clause-ok g c =
    let is = told_so c.args.form c.args.names.now c.shown.result.now c.args.all.now _ _ _ c.append_told.new.out.items
    c.shown.ensures (c.deref.ensures.value ∙ c.in_ok-sums.ensures) (c.deref-2.ensures.value ∙ c.in_ok-cells.ensures)
    c.new-text.ensures.items
    c.in_ok-append_told.ensures in
    (c.status_of.ensures, rw (c.deref-3.ensures.value, is) at c.in_ok-write_all.ensures.ok)

pub returns-in_err-write_all-clause-fault : goal.returns-in_err-write_all-clause-fault
returns-in_err-write_all-clause-fault g c =
    let p = err_from_is_err_and c.from_residual-in_err-write_all.result c.from_residual-in_err-write_all.ensures.1 in
    let is = told_so c.args.form c.args.names.now c.shown.result.now c.args.all.now _ _ _ c.append_told.new.out.items
    c.shown.ensures (c.deref.ensures.value ∙ c.in_ok-sums.ensures) (c.deref-2.ensures.value ∙ c.in_ok-cells.ensures)
    c.new-text.ensures.items
    c.in_ok-append_told.ensures in
    rw (p.1, p.2, c.in_err-write_all.ensures.fault) (rw (c.deref-3.ensures.value, is) at c.in_err-write_all.ensures.err)
