-- The values of blocks, in 1,024 trees.
use Rattle.std.specs.Prelude.{ℕ, ◌%◌, List, [], Option, slice_index_or}
use Rattle.std.specs.BTreeMap.{is_at}
use Rattle.std.specs.Map.{lookup}
use Rattle.std.specs.Ordering.{nat_cmp}

-- the value of a block in these entries
abbrev pub found_in : {V : Type 0} → List (ℕ × V) → ℕ → Option V
found_in entries block = lookup (is_at (nat_cmp block)) entries

-- the value of a block, in the tree of its low bits
abbrev pub value_in : {V : Type 0} → List (List (ℕ × V)) → ℕ → Option V
value_in trees block = found_in (slice_index_or trees (block % 1024) []) block
