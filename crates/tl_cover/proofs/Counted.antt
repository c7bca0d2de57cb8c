-- Counts of links, one link after another.
use Rattle.std.proofs.Common.{◌≡◌, ◌≤◌, ℕ, ◌+◌, Bool, true, false, refl, ap, ◌∙◌, arith, add-one}
use mir.Val.{bool_byte}
use Rattle.tl_monitor.specs.statement.Count.{count_below, one_if, sum_below}

one_is : (b : Bool) → bool_byte b ≡ one_if b
one_is true = refl
one_is false = refl

one_few : (b : Bool) → bool_byte b ≤ 1
one_few true = omega arith
one_few false = omega arith

pub count_none : (p : ℕ → Bool) → 0 ≡ count_below 0 p
unfolding sum_below
count_none p = refl

-- one more number, whose test says this
pub count_next : (p : ℕ → Bool) (n m r : ℕ) (b : Bool) → n ≡ count_below m p → r ≡ bool_byte b → b ≡ p m
    → n + r ≡ count_below (m + 1) p
unfolding sum_below
count_next p n m r b is byte here =
    let one : r ≡ one_if (p m) = byte ∙ one_is b ∙ ap one_if here in
    rw (add-one, is, one) (omega arith)

pub few_next : (n m r : ℕ) (b : Bool) → n ≤ m → r ≡ bool_byte b → n + r ≤ m + 1
few_next n m r b few byte = let one : r ≤ 1 = rw byte (one_few b) in omega (arith, few, one)
