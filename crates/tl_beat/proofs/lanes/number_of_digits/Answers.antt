use Rattle.std.proofs.Common.{◌∙◌}
use Rattle.tl_beat.proofs.VectorDigits.{digits-values, digits-number}
use Rattle.tl_beat.proofs.lanes.number_of_digits.Goals as goal

pub returns : goal.returns
returns c = λ pass rest. digits-number c.args.digits c.digit_values-values.result rest c.from_be_bytes.result
    c.fits-digits.0 pass (c.digit_values-values.ensures ∙ digits-values c.args.digits pass) c.from_be_bytes.ensures
