use Rattle.std.proofs.Common.{◌≡◌, ◌-◌, ◌/◌, ◌%◌, ◌^◌, ◌++◌, ◌∙◌, rules}
use Rattle.tl_beat.specs.statement.Digits.{digits}
use Rattle.tl_random.proofs.Written.{appended, high_digits, low_digits}
use Rattle.tl_random.proofs.text.put_digits.Goals as goal

pub returns-then-count-le8 : goal.returns-then-count-le8
returns-then-count-le8 c =
    let shown : c.as_slice.result.now ≡ digits c.args.count (c.args.number % 2 ^ 32) = search rules in
    appended c.extend_from_slice.result _ _ _ _ c.extend_from_slice.ensures.items
    (shown ∙ low_digits c.args.count c.args.number (search rules))

pub returns : goal.returns
returns c =
    let shown : c.as_slice-2.result.now ≡ digits (c.args.count - 8) (c.args.number / 2 ^ 32)
    ++ digits 8 (c.args.number % 2 ^ 32) = search rules in
    appended c.extend_from_slice-2.result _ _ _ _ c.extend_from_slice-2.ensures.items
    (shown ∙ high_digits c.args.count c.args.number (search rules))
