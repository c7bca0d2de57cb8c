use Rattle.std.proofs.Common.{◌∙◌}
use Rattle.tl_beat.proofs.VectorDigits.{digits-values, digits-lanes}
use Rattle.tl_beat.proofs.lanes.lanes_of_digits.Goals as goal

pub returns : goal.returns
returns c = λ pass before rest n. digits-lanes c.args.digits c.digit_values-values.result before rest n
    c.fits-digits.0 pass (c.digit_values-values.ensures ∙ digits-values c.args.digits pass)
