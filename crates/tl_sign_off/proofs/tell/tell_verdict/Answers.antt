use Rattle.std.proofs.lemmas.Result.{err_from_is_err_and}
use Rattle.tl_sign_off.proofs.Told.{given_up}
use Rattle.tl_sign_off.proofs.tell.tell_verdict.Goals as goal

pub returns-in_err-write_all-clause-fault : goal.returns-in_err-write_all-clause-fault
returns-in_err-write_all-clause-fault g c =
    let p = err_from_is_err_and c.from_residual-in_err-write_all.result c.from_residual-in_err-write_all.ensures.1 in
    rw (p.1, p.2) (given_up c.args.inquiry _ _ _ _ c.in_ok-account.account c.in_err-write_all.field-0.0 c.in_err-write_all.ensures.fault
    c.in_ok-account.ensures.ok
    (rw (c.deref.ensures.value, c.in_ok-append_verdict.ensures, c.new-text.ensures.items) at c.in_err-write_all.ensures.err))
