use Rattle.std.proofs.Common.{sym, ◌∙◌}
use Rattle.tl_times.proofs.Splitting.{ended_digits, no_digit, no_items, one_digit}
use Rattle.tl_times.proofs.pieces.after_digits.Goals as goal

pub loop-b-preserved : goal.loop-b-preserved
loop-b-preserved c = one_digit _ _ _ c.in-Some.ensures.cases.0 (sym c.if-not-is_digit.ensures) ∙ c.loop-b.invariant

pub returns-then-not-is_digit : goal.returns-then-not-is_digit
returns-then-not-is_digit c = no_digit _ _ _ c.in-Some.ensures.cases.0 (sym c.if-not-is_digit.ensures) ∙ c.loop-b.invariant

pub returns-in_default : goal.returns-in_default
returns-in_default c = ended_digits _ (no_items _ c.in_default.ensures.cases) ∙ c.loop-b.invariant
