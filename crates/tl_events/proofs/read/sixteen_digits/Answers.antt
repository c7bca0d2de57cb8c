use Rattle.std.proofs.lemmas.Result.{err_from_is_err_and}
use Rattle.tl_wide.proofs.LongNumbers.{sixteen-first, sixteen-read, sixteen-second}
use Rattle.tl_events.proofs.read.sixteen_digits.Goals as goal

pub returns-in_err-high : goal.returns-in_err-high
returns-in_err-high c =
    let p = err_from_is_err_and c.from_residual.result c.from_residual.ensures.1 in
    rw (p.1, p.2) (sixteen-first c.args.bytes.now _ c.in_err-high.ensures.gives)

pub returns-in_err-low : goal.returns-in_err-low
returns-in_err-low c =
    let p = err_from_is_err_and c.from_residual-in_err-low.result c.from_residual-in_err-low.ensures.1 in
    rw (p.1, p.2) (sixteen-second c.args.bytes.now _ _ _ c.in_ok-high.ensures.gives c.in_err-low.ensures.gives)

pub returns : goal.returns
returns c = sixteen-read c.args.bytes.now _ _ c.in_ok-high.high c.in_ok-low.low c.joined.result
    c.in_ok-high.ensures.gives c.in_ok-low.ensures.gives c.joined.ensures
