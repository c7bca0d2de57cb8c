-- The situations and the counts of several traces, one after another.
use Rattle.std.proofs.Common.{◌≡◌, ◌<◌, ◌≤◌, ℕ, zero, suc, ◌+◌, List, [], ◌∷◌, ◌++◌, length, take, drop}
use Rattle.std.proofs.Common.{refl, sym, ap, ◌∙◌, arith, add-one}
use Rattle.std.proofs.lemmas.List.{at_drop_more, drop_all, take-append-drop}
use Rattle.std.specs.Prelude.{slice_index_or, slice_set, Option}
use Rattle.tl_tried.specs.declared.sum.Sum.{Sum}
use Rattle.tl_tried.specs.declared.tried.Tried.{Tried}
use Rattle.tl_tried.specs.statement.Sums.{cells_from, sums_from, with_cells, with_each, with_trace}

-- ---- the elements of two lists, one by one

module _ {X Y : Type 0} (add : X → Y → X) (new : Y → X) where
  -- those that are joined so far, with those that are left
  abbrev pub so_far : List X → List Y → ℕ → List X
  so_far xs ys i = take i xs ++ with_each add new (drop i xs) (drop i ys)

  within_next : (xs : List X) (ys : List Y) (i : ℕ) (x : X) (y : Y) → i < length xs → i < length ys
      → x ≡ slice_index_or xs i x → y ≡ slice_index_or ys i y
      → so_far (slice_set xs i (add x y)) ys (suc i) ≡ so_far xs ys i
  within_next [] ys i x y lt more here there = absurd (omega (arith, lt))
  within_next (p ∷ xs) [] i x y lt more here there = absurd (omega (arith, more))
  within_next (p ∷ xs) (q ∷ ys) zero x y lt more here there = rw (here, there) refl
  within_next (p ∷ xs) (q ∷ ys) (suc i) x y lt more here there =
      ap (λ (zs : List X). p ∷ zs) (within_next xs ys i x y (omega (arith, lt)) (omega (arith, more)) here there)

  -- an element that stood before has one more
  pub joined_within : (xs now : List X) (ys : List Y) (i : ℕ) (x : X) (y : Y) → i < length now
      → i < length ys → x ≡ slice_index_or now i x → y ≡ slice_index_or ys i y
      → so_far now ys i ≡ with_each add new xs ys
      → so_far (slice_set now i (add x y)) ys (i + 1) ≡ with_each add new xs ys
  joined_within xs now ys i x y lt more here there is =
      rw add-one (within_next now ys i x y lt more here there ∙ is)

  beyond_next : (xs : List X) (ys : List Y) (i : ℕ) (y : Y) → i ≡ length xs → i < length ys
      → y ≡ slice_index_or ys i y → so_far (xs ++ new y ∷ []) ys (suc i) ≡ so_far xs ys i
  beyond_next xs [] i y all more there = absurd (omega (arith, more))
  beyond_next [] (q ∷ ys) zero y all more there = rw there refl
  beyond_next [] (q ∷ ys) (suc i) y all more there = absurd (omega (arith, all))
  beyond_next (p ∷ xs) (q ∷ ys) zero y all more there = absurd (omega (arith, all))
  beyond_next (p ∷ xs) (q ∷ ys) (suc i) y all more there =
      ap (λ (zs : List X). p ∷ zs) (beyond_next xs ys i y (omega (arith, all)) (omega (arith, more)) there)

  -- one that didn't is new
  pub joined_beyond : (xs now : List X) (ys : List Y) (i : ℕ) (y : Y) → i ≡ length now
      → i < length ys → y ≡ slice_index_or ys i y → so_far now ys i ≡ with_each add new xs ys
      → so_far (now ++ new y ∷ []) ys (i + 1) ≡ with_each add new xs ys
  joined_beyond xs now ys i y all more there is = rw add-one (beyond_next now ys i y all more there ∙ is)

  none_left : (xs : List X) → with_each add new xs [] ≡ xs
  none_left [] = refl
  none_left (x ∷ xs) = refl

  -- all are joined
  pub joined_all : (xs now : List X) (ys : List Y) (i : ℕ) → length ys ≤ i
      → so_far now ys i ≡ with_each add new xs ys → now ≡ with_each add new xs ys
  joined_all xs now ys i all is =
      sym (rw (drop_all i ys all, none_left (drop i now)) (take-append-drop i now)) ∙ is

-- ---- traces, one by one

pub traces_on : (all : List Tried) (i : ℕ) (tried : Tried) (now more start : List Sum) → i < length all
    → tried ≡ slice_index_or all i tried → more ≡ with_trace i now tried.rows.items
    → sums_from i now (drop i all) ≡ sums_from 0 start all
    → sums_from (i + 1) more (drop (i + 1) all) ≡ sums_from 0 start all
unfolding sums_from
traces_on all i tried now more start lt is summed so_far =
    ap (λ (ss : List Sum). sums_from (i + 1) ss (drop (i + 1) all))
    (summed ∙ ap (λ (t : Tried). with_trace i now t.rows.items) is)
    ∙ sym (at_drop_more (sums_from i now) all i tried lt) ∙ so_far

pub traces_all : (all : List Tried) (i : ℕ) (now start : List Sum) → length all ≤ i
    → sums_from i now (drop i all) ≡ sums_from 0 start all → now ≡ sums_from 0 start all
unfolding sums_from
traces_all all i now start past so_far = rw (drop_all i all past) at so_far

pub cells_on : (all : List Tried) (i : ℕ) (d : Tried) (now more start : List (Option ℕ)) → i < length all
    → more ≡ with_cells now (slice_index_or all i d).cells.items
    → cells_from now (drop i all) ≡ cells_from start all → cells_from more (drop (i + 1) all) ≡ cells_from start all
unfolding cells_from
cells_on all i d now more start lt summed before =
    ap (λ (cs : List (Option ℕ)). cells_from cs (drop (i + 1) all)) summed
    ∙ sym (at_drop_more (cells_from now) all i d lt) ∙ before

pub cells_all : (all : List Tried) (i : ℕ) (now start : List (Option ℕ)) → length all ≤ i
    → cells_from now (drop i all) ≡ cells_from start all → now ≡ cells_from start all
unfolding cells_from
cells_all all i now start past before = rw (drop_all i all past) at before
