-- Sums over the numbers below a limit, where one value changes.
use Rattle.std.proofs.Common.{◌≡◌, ◌≢◌, ℕ, zero, suc, ◌<◌, ◌≤◌, ◌+◌, ◌*◌, Bool, true, false, refl, sym, ap, ◌∙◌, arith}
use Rattle.std.proofs.Common.{inl, inr}
use Rattle.std.specs.Prelude.{if◌then◌else◌, ◌==◌, ◌-◌, List, length, replicate, slice_set, Option, None, is_some}
use Rattle.std.specs.Prelude.{slice_index_or}
use mir.Val.{bool_byte}
use Rattle.std.proofs.lemmas.Bool.{cases_eq, eq-eqb, ne_eqb}
use Rattle.std.proofs.lemmas.List.{get_or_default, get_or-set_same, get_or-set_other}
use Rattle.tl_monitor.specs.statement.Count.{sum_below, count_below, one_if, at}

pub sum-same : (n : ℕ) (f g : ℕ → ℕ) → ((i : ℕ) → i < n → f i ≡ g i) → sum_below n f ≡ sum_below n g
unfolding sum_below
sum-same zero f g same = refl
sum-same (suc n) f g same = rw (same n (omega arith), sum-same n f g (λ i lt. same i (omega arith))) refl

at_end : (n k : ℕ) (f g : ℕ → ℕ) → n ≡ k → sum_below n f ≡ sum_below n g
    → g n + sum_below n g + f k ≡ f n + sum_below n f + g k
at_end n k f g here rest = let a : f n ≡ f k = ap f here in let b : g n ≡ g k = ap g here in omega (arith, a, b, rest)

-- at the place k, what it had goes and what it has comes
pub sum-changed : (n k : ℕ) (f g : ℕ → ℕ) → k < n → ((i : ℕ) → i ≢ k → f i ≡ g i)
    → sum_below n g + f k ≡ sum_below n f + g k
unfolding sum_below
sum-changed zero k f g lt same = absurd (omega arith)
sum-changed (suc n) k f g lt same = elim (cases_eq n k) [
  | inl here ↦
      let rest : sum_below n f ≡ sum_below n g = sum-same n f g (λ i below. same i (λ e. absurd (omega (arith, here))))
      in
      at_end n k f g here rest
  | inr other ↦
      let rest = sum-changed n k f g (omega (arith, other)) same in
      let e : f n ≡ g n = same n other in
      omega (arith, rest, e)
]

-- each is within a bound
pub sum-le : (n b : ℕ) (f : ℕ → ℕ) → ((i : ℕ) → f i ≤ b) → sum_below n f ≤ n * b
unfolding sum_below
sum-le zero b f bound = omega arith
sum-le (suc n) b f bound = let e = sum-le n b f bound in let own = bound n in omega (arith, e, own)

pub sum-none : (n : ℕ) (f : ℕ → ℕ) → ((i : ℕ) → i < n → f i ≡ 0) → sum_below n f ≡ 0
unfolding sum_below
sum-none zero f none = refl
sum-none (suc n) f none = rw (none n (omega arith), sum-none n f (λ i lt. none i (omega arith))) refl

-- the sum of two
pub sum-both : (n : ℕ) (f g : ℕ → ℕ) → sum_below n (λ i. f i + g i) ≡ sum_below n f + sum_below n g
unfolding sum_below
sum-both zero f g = refl
sum-both (suc n) f g = let e = sum-both n f g in omega (arith, e)

pub one-le : (b : Bool) → one_if b ≤ 1
one-le true = omega arith
one-le false = omega arith

-- ---- tables of 256 values

pub at-none : {X : Type 0} (n i : ℕ) → at {X = X} (replicate n None) i ≡ None
at-none zero i = refl
at-none (suc n) zero = refl
at-none (suc n) (suc i) = at-none n i

abbrev counted : {X : Type 0} → List (Option X) → ℕ
counted values = count_below 256 (λ i. is_some (at values i))

pub counted-le : {X : Type 0} (values : List (Option X)) → counted values ≤ 256
counted-le values = let e = sum-le 256 1 (λ i. one_if (is_some (at values i))) (λ i. one-le (is_some (at values i))) in
    omega (arith, e)

pub counted-none : (X : Type 0) → 0 ≡ counted {X = X} (replicate 256 None)
counted-none X = sym (sum-none 256 (λ i. one_if (is_some (at {X = X} (replicate 256 None) i)))
    (λ i lt. ap (λ o. one_if (is_some o)) (at-none {X = X} 256 i)))

one_value : {X : Type 0} (values : List (Option X)) (k : ℕ) → k < 256 → one_if (is_some (at values k)) ≤ counted values
one_value values k lt =
    let e = sum-changed 256 k (λ i. one_if (is_some (at values i)))
    (λ i. if i == k then 0 else one_if (is_some (at values i))) lt (λ i other. rw (ne_eqb i k other) refl) in
    let z : (if k == k then 0 else one_if (is_some (at values k))) ≡ 0 = rw (eq-eqb k k refl) refl in
    omega (arith, e, z)

pub counted-before : {X : Type 0} (values : List (Option X)) (k len before : ℕ) → k < 256 → len ≡ counted values
    → before ≡ one_if (is_some (at values k)) → before ≤ len
counted-before values k len before lt e b = let one = one_value values k lt in omega (arith, one)

pub counted-set : {X : Type 0} (values : List (Option X)) (k len before after : ℕ) (x : Option X) → k < 256
    → length values ≡ 256 → len ≡ counted values
    → before ≡ one_if (is_some (at values k)) → after ≡ one_if (is_some x)
    → len - before + after ≡ counted (slice_set values k x)
counted-set values k len before after x lt long e b a =
    let one = one_value values k lt in
    let own : at (slice_set values k x) k ≡ x = get_or-set_same values k x None (omega arith) in
    let changed = sum-changed 256 k (λ i. one_if (is_some (at values i)))
    (λ i. one_if (is_some (at (slice_set values k x) i))) lt
    (λ i other. ap (λ o. one_if (is_some o)) (sym (get_or-set_other values k i x None other))) in
    let a' : one_if (is_some (at (slice_set values k x) k)) ≡ after = rw own (sym a) in
    omega (arith, changed, one, a')

pub byte-one : (b : Bool) → bool_byte b ≡ one_if b
byte-one true = refl
byte-one false = refl

-- what was read of a slot
pub one-read : {X : Type 0} (values : List (Option X)) (k before : ℕ) (d : Option X) (b : Bool) → k < length values
    → b ≡ is_some (slice_index_or values k d) → before ≡ bool_byte b
    → before ≡ one_if (is_some (at values k))
one-read values k before d b lt e f = f ∙ byte-one b ∙ ap one_if (e ∙ ap is_some (get_or_default values k d None lt))

pub byte-le : (b : Bool) → bool_byte b ≤ 1
byte-le true = omega arith
byte-le false = omega arith
