-- What a table of blocks says of each.
use Rattle.std.specs.Prelude.{ℕ, ◌+◌, ◌%◌, ◌<◌, ◌≡◌, true, List, [], map, Option, Some, None, is_some}
use Rattle.std.specs.Prelude.{slice_index_or, slice_set}
use Rattle.std.specs.BTreeMap.{BTreeMap, is_at}
use Rattle.std.specs.Map.{lookup, set_value}
use Rattle.std.specs.Ordering.{nat_cmp}
use Rattle.tl_rules.specs.declared.table.Block.{Block}
use Rattle.tl_rules.specs.code.Tables.{empty_block}
use Rattle.tl_monitor.specs.statement.Count.{one_if}
use Rattle.tl_monitor.specs.statement.Numbers.{is_held}

-- ---- one tree of blocks

-- the entry under a number
abbrev pub value_found : List (ℕ × Block) → ℕ → Option Block
value_found entries k = lookup (is_at (nat_cmp k)) entries

abbrev pub block_or_empty : Option Block → Block
block_or_empty None = empty_block
block_or_empty (Some b) = b

abbrev pub value_in : List (ℕ × Block) → ℕ → Block
value_in entries k = block_or_empty (value_found entries k)

-- the entries with the state of block k in the place of its earlier one
abbrev pub with_value : List (ℕ × Block) → ℕ → Option Block → List (ℕ × Block)
with_value entries k None = entries
with_value entries k (Some b) = set_value (is_at (nat_cmp k)) entries b

-- how many keys of a block are pending, and one more if it is held
unfoldable pub open_of : Block → ℕ
open_of b = one_if (is_held b.held) + one_if b.acquire + one_if b.release + one_if (is_some b.probe) + one_if
    (is_some b.grant)

-- block k has an entry exactly if it has a state, and then something is open or held of it
abbrev pub IsValue : List (ℕ × Block) → ℕ → Option Block → Type 0
IsValue entries k None = value_found entries k ≡ None
IsValue entries k (Some b) = (is_some (value_found entries k) ≡ true) × (0 < open_of b)

-- of each block that is stored something is open or held
abbrev pub AllOpen : List (ℕ × Block) → Type 0
AllOpen entries = (k : ℕ) (b : Block) → value_found entries k ≡ Some b → 0 < open_of b

-- ---- the trees

-- the number of the tree of block k
abbrev pub tree_of : ℕ → ℕ
tree_of k = k % 1024

abbrev pub entries_of : List (BTreeMap ℕ Block) → List (List (ℕ × Block))
entries_of trees = map (λ m. m.entries) trees

abbrev pub tree_in : List (List (ℕ × Block)) → ℕ → List (ℕ × Block)
tree_in trees k = slice_index_or trees (tree_of k) []

abbrev pub block_found : List (List (ℕ × Block)) → ℕ → Option Block
block_found trees k = value_found (tree_in trees k) k

abbrev pub block_in : List (List (ℕ × Block)) → ℕ → Block
block_in trees k = block_or_empty (block_found trees k)

-- the same of all trees as of the block's own
abbrev pub with_seen : List (List (ℕ × Block)) → ℕ → Option Block → List (List (ℕ × Block))
with_seen trees k o = slice_set trees (tree_of k) (with_value (tree_in trees k) k o)

abbrev pub IsSeen : List (List (ℕ × Block)) → ℕ → Option Block → Type 0
IsSeen trees k o = IsValue (tree_in trees k) k o

abbrev pub AreOpen : List (List (ℕ × Block)) → Type 0
AreOpen trees = (i : ℕ) → AllOpen (slice_index_or trees i [])
