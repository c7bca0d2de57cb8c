-- A list whose front has been mapped.
use Rattle.std.proofs.Common.{◌≡◌, ◌<◌, ◌≤◌, ℕ, zero, suc, ◌+◌, List, [], ◌∷◌, length, map, refl, ap}
use Rattle.std.proofs.Common.{arith, ◌∙◌}
use Rattle.std.specs.Prelude.{slice_index_or, slice_set}

-- the first i values mapped, and the others as they were
unfoldable pub continued_to : {X : Type 0} → (X → X) → List X → ℕ → List X
continued_to f [] i = []
continued_to f (x ∷ xs) zero = x ∷ xs
continued_to f (x ∷ xs) (suc i) = f x ∷ continued_to f xs i

pub continued_none : {X : Type 0} (f : X → X) (xs : List X) → xs ≡ continued_to f xs 0
unfolding continued_to
continued_none f [] = refl
continued_none f (x ∷ xs) = refl

pub continued_all : {X : Type 0} (f : X → X) (xs : List X) (i : ℕ) → length xs ≤ i → continued_to f xs i ≡ map f xs
unfolding continued_to
continued_all f [] i le = refl
continued_all f (x ∷ xs) zero le = absurd (omega (arith, le))
continued_all f (x ∷ xs) (suc i) le = ap (λ ys. f x ∷ ys) (continued_all f xs i (omega (arith, le)))

pub continued_more : {X : Type 0} (f : X → X) (d : X) (xs : List X) (i : ℕ) → i < length xs
    → slice_set (continued_to f xs i) i (f (slice_index_or (continued_to f xs i) i d)) ≡ continued_to f xs (suc i)
unfolding continued_to
continued_more f d [] i lt = absurd (omega (arith, lt))
continued_more f d (x ∷ []) zero lt = refl
continued_more f d (x ∷ y ∷ xs) zero lt = refl
continued_more f d (x ∷ xs) (suc i) lt = ap (λ ys. f x ∷ ys) (continued_more f d xs i (omega (arith, lt)))

continued_length : {X : Type 0} (f : X → X) (xs : List X) (i : ℕ) → length (continued_to f xs i) ≡ length xs
unfolding continued_to
continued_length f [] i = refl
continued_length f (x ∷ xs) zero = refl
continued_length f (x ∷ xs) (suc i) = ap (λ n. suc n) (continued_length f xs i)

-- one more of them, in a list where so many have been
pub continued_step : {X : Type 0} (f : X → X) (d r : X) (xs ys : List X) (i : ℕ) → ys ≡ continued_to f xs i
    → r ≡ f (slice_index_or ys i d) → i < length ys → slice_set ys i r ≡ continued_to f xs (i + 1)
continued_step f d r xs ys i so is lt =
    let long : length ys ≡ length xs = ap (λ zs. length zs) so ∙ continued_length f xs i in
    let below : i < length xs = omega (arith, lt, long) in
    let more : i + 1 ≡ suc i = omega arith in
    rw (more, is, so) (continued_more f d xs i below)

pub continued_end : {X : Type 0} (f : X → X) (xs ys : List X) (i : ℕ) → ys ≡ continued_to f xs i → length ys ≤ i
    → ys ≡ map f xs
continued_end f xs ys i so le =
    let long : length ys ≡ length xs = ap (λ zs. length zs) so ∙ continued_length f xs i in
    so ∙ continued_all f xs i (omega (arith, le, long))
