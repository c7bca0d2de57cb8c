-- Trees of numbers, of which one changes.
use Rattle.std.proofs.Common.{◌≡◌, ℕ, ◌<◌, List, [], length, map}
use Rattle.std.proofs.Common.{refl, sym, ap, ◌∙◌, inl, inr}
use Rattle.std.proofs.lemmas.Bool.{cases_eq, eq-eqb, ne_eqb}
use Rattle.std.proofs.lemmas.List.{get_or-map, get_or-set_other, get_or-set_same, length-map, map-set}
use Rattle.std.specs.BTreeMap.{BTreeMap}
use Rattle.std.specs.Prelude.{◌==◌, ◌&&◌, if◌then◌else◌, Option, slice_index_or, slice_set}
use Rattle.tl_wide.specs.statement.Numbers.{place_found, tree_at}

-- the tree that changes
at-own : (trees : List (BTreeMap ℕ ℕ)) (i : ℕ) (new : BTreeMap ℕ ℕ) → i < length trees
    → tree_at (slice_set trees i new) i ≡ new.entries
at-own trees i new lt = ap (λ ts. slice_index_or ts i []) (map-set (λ m. m.entries) trees i new)
    ∙ get_or-set_same (map (λ m. m.entries) trees) i new.entries [] (rw (length-map trees (λ m. m.entries)) lt)

-- and the others
at-other : (trees : List (BTreeMap ℕ ℕ)) (i j : ℕ) (new : BTreeMap ℕ ℕ) → (j ≡ i → ⊥)
    → tree_at (slice_set trees i new) j ≡ tree_at trees j
at-other trees i j new other = ap (λ ts. slice_index_or ts j []) (map-set (λ m. m.entries) trees i new)
    ∙ get_or-set_other (map (λ m. m.entries) trees) i j new.entries [] other

-- a tree that is read
at-read : (trees : List (BTreeMap ℕ ℕ)) (i : ℕ) (old : BTreeMap ℕ ℕ) → i < length trees
    → old ≡ slice_index_or trees i old → tree_at trees i ≡ old.entries
at-read trees i old lt is = get_or-map (λ m. m.entries) trees i old [] lt ∙ ap (λ m. m.entries) (sym is)

-- what is found then
pub found-then : (trees : List (BTreeMap ℕ ℕ)) (i name : ℕ) (old new : BTreeMap ℕ ℕ) (o : Option ℕ) → i < length trees
    → old ≡ slice_index_or trees i old
    → ((k : ℕ) → place_found new.entries k ≡ (if k == name then o else place_found old.entries k))
    → (j k : ℕ) → place_found (tree_at (slice_set trees i new) j) k
    ≡ (if (j == i) && (k == name) then o else place_found (tree_at trees j) k)
found-then trees i name old new o lt is changed j k = elim (cases_eq j i) [
  | inl same ↦ rw (same, eq-eqb i i refl, at-own trees i new lt, at-read trees i old lt is) (changed k)
  | inr other ↦ rw (ne_eqb j i other, at-other trees i j new other) refl
]

-- nothing is found anew
pub found-same : (trees : List (BTreeMap ℕ ℕ)) (i : ℕ) (old new : BTreeMap ℕ ℕ) → i < length trees
    → old ≡ slice_index_or trees i old → ((k : ℕ) → place_found new.entries k ≡ place_found old.entries k)
    → (j k : ℕ) → place_found (tree_at (slice_set trees i new) j) k ≡ place_found (tree_at trees j) k
found-same trees i old new lt is same j k = elim (cases_eq j i) [
  | inl own ↦ rw (own, at-own trees i new lt, at-read trees i old lt is) (same k)
  | inr other ↦ rw (at-other trees i j new other) refl
]
