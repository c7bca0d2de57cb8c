-- How many there are.
use Rattle.std.specs.Prelude.{ℕ, zero, suc, Bool, ◌+◌, List, if◌then◌else◌, Option, None, slice_index_or}

-- the sum of f over the numbers below n
unfoldable pub sum_below : ℕ → (ℕ → ℕ) → ℕ
sum_below zero f = 0
sum_below (suc n) f = f n + sum_below n f

abbrev pub one_if : Bool → ℕ
one_if b = if b then 1 else 0

-- how many numbers below n pass the test
abbrev pub count_below : ℕ → (ℕ → Bool) → ℕ
count_below n p = sum_below n (λ i. one_if (p i))

-- the value in a slot
abbrev pub at : {X : Type 0} → List (Option X) → ℕ → Option X
at values i = slice_index_or values i None
