use Rattle.std.proofs.Common.{◌%◌, ◌^◌, ◌-◌, ◌/◌, ◌++◌, ◌∙◌, ap, arith, append_assoc, List, ℕ}
use Rattle.tl_beat.specs.statement.Digits.{digits}
use Rattle.tl_wide.proofs.Digits.{high-digits, low-digits}
use Rattle.tl_wide.proofs.text.append_long.Goals as goal

pub returns-then-count-le8-clause-text : goal.returns-then-count-le8-clause-text
returns-then-count-le8-clause-text c =
    c.append_digits.ensures.text
    ∙ ap (λ (t : List ℕ). c.args.text.now.items ++ t) (low-digits c.args.count c.args.number c.if-count-le8.true)

pub returns-clause-text : goal.returns-clause-text
returns-clause-text c =
    c.append_digits-3.ensures.text
    ∙ ap (λ (t : List ℕ). t ++ digits 8 (c.args.number % 2 ^ 32)) c.append_digits-2.ensures.text
    ∙ append_assoc c.args.text.now.items (digits (c.args.count - 8) (c.args.number / 2 ^ 32))
    (digits 8 (c.args.number % 2 ^ 32))
    ∙ ap (λ (t : List ℕ). c.args.text.now.items ++ t)
    (high-digits c.args.count c.args.number (omega (arith, c.if-count-le8.false)))
