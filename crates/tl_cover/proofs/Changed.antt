-- Lists whose elements are changed one by one.
use Rattle.std.proofs.Common.{◌≡◌, ◌<◌, ◌≤◌, ℕ, zero, suc, ◌+◌, List, [], ◌∷◌, ◌++◌}
use Rattle.std.proofs.Common.{length, take, drop, refl, ap, ◌∙◌, arith, add-one, append_assoc}
use Rattle.std.specs.Prelude.{map, slice_index_or, slice_set}
use Rattle.std.proofs.lemmas.List.{map_more, take_all}

module _ {X : Type 0} (f : X → X) where
  -- the element that comes next is as it was
  pub reads_next : (old : List X) (i : ℕ) (d : X) → i < length old
      → slice_index_or (map f (take i old) ++ drop i old) i d ≡ slice_index_or old i d
  reads_next [] i d lt = absurd (omega (arith, lt))
  reads_next (x ∷ xs) zero d lt = refl
  reads_next (x ∷ xs) (suc i) d lt = reads_next xs i d (omega (arith, lt))

  -- and is changed
  pub sets_next : (old : List X) (i : ℕ) (d : X) → i < length old
      → slice_set (map f (take i old) ++ drop i old) i (f (slice_index_or old i d))
      ≡ map f (take (suc i) old) ++ drop (suc i) old
  sets_next [] i d lt = absurd (omega (arith, lt))
  sets_next (x ∷ xs) zero d lt = refl
  sets_next (x ∷ xs) (suc i) d lt = ap (λ (ys : List X). f x ∷ ys) (sets_next xs i d (omega (arith, lt)))

  -- as many are left
  pub long_next : (old : List X) (i : ℕ) → length (map f (take i old) ++ drop i old) ≡ length old
  long_next [] zero = refl
  long_next [] (suc i) = refl
  long_next (x ∷ xs) zero = refl
  long_next (x ∷ xs) (suc i) = ap suc (long_next xs i)

  pub changed_next : (old now : List X) (i : ℕ) (d y : X) → i < length old → now ≡ map f (take i old) ++ drop i old
      → y ≡ f (slice_index_or now i d) → slice_set now i y ≡ map f (take (i + 1) old) ++ drop (i + 1) old
  changed_next old now i d y lt is new =
      rw (add-one, new, is, reads_next old i d lt) (sets_next old i d lt)

-- one more is made of the elements of a list
pub map_pushed : {X Y : Type 0} (f : X → Y) (xs : List X) (ys more : List Y) (i : ℕ) (d : X) (y : Y) → i < length xs
    → ys ≡ map f (take i xs) → more ≡ ys ++ y ∷ [] → y ≡ f (slice_index_or xs i d) → more ≡ map f (take (i + 1) xs)
map_pushed f xs ys more i d y lt is pushed new = rw (map_more f xs i d lt, pushed, is, new) refl

-- all are made
pub map_whole : {X Y : Type 0} (f : X → Y) (xs : List X) (ys : List Y) (i : ℕ) → length xs ≤ i
    → ys ≡ map f (take i xs) → ys ≡ map f xs
map_whole f xs ys i all is = is ∙ ap (map f) (take_all i xs all)

-- the same behind what stood before
pub map_added : {X Y : Type 0} (f : X → Y) (xs : List X) (before ys more : List Y) (i : ℕ) (d : X) (y : Y)
    → i < length xs → ys ≡ before ++ map f (take i xs) → more ≡ ys ++ y ∷ [] → y ≡ f (slice_index_or xs i d)
    → more ≡ before ++ map f (take (i + 1) xs)
map_added f xs before ys more i d y lt is pushed new =
    rw (map_more f xs i d lt, pushed, is, new) (append_assoc before (map f (take i xs)) (f (slice_index_or xs i d) ∷ []))

pub map_added_all : {X Y : Type 0} (f : X → Y) (xs : List X) (before ys : List Y) (i : ℕ) → length xs ≤ i
    → ys ≡ before ++ map f (take i xs) → ys ≡ before ++ map f xs
map_added_all f xs before ys i all is = is ∙ ap (λ (l : List _). before ++ map f l) (take_all i xs all)
