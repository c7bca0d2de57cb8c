use Rattle.std.proofs.lemmas.Result.{err_from_is_err_and}
use Rattle.tl_lines.proofs.Parts.{short_longer}
use Rattle.tl_reasons.proofs.explain.write_both.Goals as goal

pub returns-in_err-write_all-clause-err : goal.returns-in_err-write_all-clause-err
returns-in_err-write_all-clause-err g c =
    let p = err_from_is_err_and c.from_residual.result c.from_residual.ensures.1 in
    rw p.1 (short_longer _ _ c.args.verdict.now c.args.reasons.now c.in_err-write_all.ensures.err)
