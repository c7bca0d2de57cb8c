use Rattle.std.proofs.Common.{arith, ◌∙◌, sym, ◌≡◌, suc, ◌-◌, ◌+◌}
use Rattle.std.proofs.lemmas.Result.{err_from_is_err_and}
use Rattle.tl_beat.proofs.DigitsAt.{digits-step, digits-fails, digits-done, one_more, fits_in_32}
use Rattle.tl_beat.proofs.read.field.digits.Goals as goal

pub returns-in_err-d-clause-gives : goal.returns-in_err-d-clause-gives
returns-in_err-d-clause-gives c =
    let p = err_from_is_err_and c.from_residual.result c.from_residual.ensures.1 in
    let left : c.args.count - c.loop.counter ≡ suc (c.args.count - (c.loop.counter + 1)) = omega arith in
    rw (p.1, p.2) (sym c.loop.invariant.same ∙ digits-fails c.loop.number _ _ c.loop.rest.now c.in_err-d.field-0.0 left
    c.in_err-d.ensures.gives)

pub overflow_mul-number : goal.overflow_mul-number
overflow_mul-number c = omega (
  arith,
  one_more c.loop.number c.loop.counter 0 c.loop.invariant.below (omega arith),
  fits_in_32 c.loop.counter (omega arith),
)

pub overflow_add-number : goal.overflow_add-number
overflow_add-number c = omega (
  arith,
  one_more c.loop.number c.loop.counter c.in_ok-d.d c.loop.invariant.below
      c.in_ok-d.ensures.below,
  fits_in_32 c.loop.counter (omega arith),
  c.from.ensures,
)

pub loop-preserved : goal.loop-preserved
loop-preserved c =
    let left : c.args.count - c.loop.counter ≡ suc (c.args.count - (c.loop.counter + 1)) = omega arith in
    record {
      same = rw c.from.ensures
          (sym (digits-step c.loop.number _ _ c.in_ok-d.d c.loop.rest.now c.in_ok-d.after.now left
          c.in_ok-d.ensures.gives) ∙ c.loop.invariant.same);
      below = rw c.from.ensures (one_more c.loop.number c.loop.counter c.in_ok-d.d c.loop.invariant.below
          c.in_ok-d.ensures.below);
    }

pub returns-clause-gives : goal.returns-clause-gives
returns-clause-gives c = sym c.loop.invariant.same ∙ digits-done c.loop.number (c.args.count - c.loop.counter)
    c.loop.rest.now (omega arith)
