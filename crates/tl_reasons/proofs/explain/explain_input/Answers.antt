use Rattle.std.proofs.lemmas.Result.{err_from_is_err_and}
use Rattle.tl_reasons.proofs.Explaining.{explains}
use Rattle.tl_reasons.proofs.explain.explain_input.Goals as goal

pub returns-in_err-write_both-clause-fault : goal.returns-in_err-write_both-clause-fault
returns-in_err-write_both-clause-fault g c =
    let p = err_from_is_err_and c.from_residual-in_err-write_both.result c.from_residual-in_err-write_both.ensures.1 in
    let reached = c.in_ok-found.ensures.ok in
    rw (p.1, p.2, c.in_err-write_both.ensures.fault) (
      c.examine.new.verdict.items,
      c.reasons.new.out.items,
      c.in_ok-found.status,
      reached.0,
      explains c.args.allow _ _ c.in_ok-found.found c.in_ok-found.status c.examine.new.verdict.items c.reasons.new.out.items
          reached.1
          c.in_ok-reasons.ensures.ok,
      rw (c.deref.ensures.value, c.deref-2.ensures.value) at c.in_err-write_both.ensures.err,
    )
