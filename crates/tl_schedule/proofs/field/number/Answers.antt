use Rattle.std.proofs.Common.{rules, arith, ◌∙◌, sym, ◌≡◌, None}
use Rattle.tl_schedule.proofs.Fields.{number-step, number-fails, number-done, number-long, fits_in_64}
use Rattle.tl_beat.proofs.DigitsAt.{one_more}
use Rattle.tl_schedule.proofs.field.number.Goals as goal

pub returns-then-field-from-clause-value : goal.returns-then-field-from-clause-value
returns-then-field-from-clause-value c = sym (number-long 0 c.args.count c.args.field.now (search rules))

pub overflow_mul-number : goal.overflow_mul-number
overflow_mul-number c = omega (
  arith,
  one_more c.loop-i.number c.loop-i.i 0 c.loop-i.invariant.below (omega arith),
  fits_in_64 c.loop-i.i (omega arith),
)

pub returns-in_err-hex-clause-value : goal.returns-in_err-hex-clause-value
returns-in_err-hex-clause-value c =
    let none : c.from_residual.result ≡ None = search rules in
    none ∙ sym (number-fails c.loop-i.number c.loop-i.i c.args.field.now (search rules) (search rules))
    ∙ c.loop-i.invariant.same ∙ search rules

pub overflow_add-number : goal.overflow_add-number
overflow_add-number c = omega (
  arith,
  one_more c.loop-i.number c.loop-i.i c.in_ok-hex.field-0 c.loop-i.invariant.below c.in_ok-hex.ensures.small,
  fits_in_64 c.loop-i.i (omega arith),
  c.from-in-loop-i.ensures,
)

pub loop-i-preserved : goal.loop-i-preserved
loop-i-preserved c = record {
  same = rw c.from-in-loop-i.ensures
      (sym (number-step c.loop-i.number c.loop-i.i c.in_ok-hex.field-0 c.args.field.now (search rules) (search rules))
      ∙ c.loop-i.invariant.same);
  below = rw c.from-in-loop-i.ensures (one_more c.loop-i.number c.loop-i.i c.in_ok-hex.field-0
      c.loop-i.invariant.below c.in_ok-hex.ensures.small);
}

pub returns-clause-value : goal.returns-clause-value
returns-clause-value c =
    sym (number-done c.loop-i.number c.loop-i.i c.args.field.now (omega arith)) ∙ c.loop-i.invariant.same
    ∙ search rules
