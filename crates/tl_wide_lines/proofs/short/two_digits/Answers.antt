use Rattle.std.proofs.Common.{arith}
use Rattle.tl_wide_lines.proofs.ShortLines.{two-digits, two-zeros}
use Rattle.tl_wide_lines.proofs.short.two_digits.Goals as goal

pub returns-then-from_le_bytes-eq-TWO_ZEROS : goal.returns-then-from_le_bytes-eq-TWO_ZEROS
returns-then-from_le_bytes-eq-TWO_ZEROS c =
    two-zeros c.args.high c.args.low c.from_le_bytes.result (omega arith) (omega arith) c.from_le_bytes.ensures
    c.if-from_le_bytes-eq-TWO_ZEROS.true

pub returns-then-high_value-low_value : goal.returns-then-high_value-low_value
returns-then-high_value-low_value c = two-digits c.args.high c.args.low c.value-high_value.result c.value-low_value.result
    c.value-high_value.ensures c.value-low_value.ensures c.if-high_value-low_value.true
