-- The trees of the values of blocks.
use Rattle.std.specs.Prelude.{ℕ, List, [], map, Option, Some, None, slice_index_or}
use Rattle.std.specs.BTreeMap.{BTreeMap}
use Rattle.std.specs.List.{range_with_len}

-- the entries of one of some trees, none if there is no such tree
abbrev pub tree_at : {V : Type 0} → List (BTreeMap ℕ V) → ℕ → List (ℕ × V)
tree_at trees i = slice_index_or (map (λ m. m.entries) trees) i []

-- the entries of each of 1,024 trees, of which some may not be made
unfoldable pub trees_in : {V : Type 0} → List (BTreeMap ℕ V) → List (List (ℕ × V))
trees_in trees = map (tree_at trees) (range_with_len 0 1024)

-- this value in the place of one that there is
abbrev pub replaced : {V : Type 0} → V → Option V → Option V
replaced value None = None
replaced value (Some old) = Some value
