use Rattle.std.proofs.Common.{◌≡◌, ◌+◌, ◌-◌, arith, drop, rules, take}
use Rattle.std.proofs.lemmas.Simd.{length-chunk}
use Rattle.tl_wide_lines.proofs.ShortLines.{eight-small, eight-some, eight-zeros}
use Rattle.tl_wide_lines.proofs.short.eight_digits.Goals as goal

pub returns-then-from_le_bytes-eq-ZEROS : goal.returns-then-from_le_bytes-eq-ZEROS
returns-then-from_le_bytes-eq-ZEROS c =
    let long : c.args.at + 8 - c.args.at ≡ 8 = omega arith in
    let same : c.in_ok-field.field.now ≡ take (c.args.at + 8 - c.args.at) (drop c.args.at c.args.line.now) =
    search rules in
    eight-zeros (take 8 (drop c.args.at c.args.line.now)) c.from_le_bytes.result
    (length-chunk c.args.at 8 c.args.line.now (omega arith)) (eight-small c.args.line.now c.args.at c.type_inv.line)
    (rw (same, long) at c.from_le_bytes.ensures)
    c.if-from_le_bytes-eq-ZEROS.true

pub returns : goal.returns
returns c =
    let long : c.args.at + 8 - c.args.at ≡ 8 = omega arith in
    let same : c.in_ok-field.field.now ≡ take (c.args.at + 8 - c.args.at) (drop c.args.at c.args.line.now) =
    search rules in
    eight-some (take 8 (drop c.args.at c.args.line.now)) c.eight_digit_number.result
    (rw (same, long) at c.eight_digit_number.ensures)
