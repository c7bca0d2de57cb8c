-- What a client keeps of a block: nothing outside its table.
use Rattle.std.specs.Prelude.{ℕ, List, length, slice_get, Option, Some, None}
use Rattle.tl_params.specs.declared.perm.Perm.{Perm}
use Rattle.tl_params.specs.declared.perm.Perm.TheVariants as perm
use Rattle.tl_client.specs.declared.caching.table.Block.{Block}
use Rattle.tl_client.specs.declared.caching.table.Table.{Table}

abbrev pub held_of : Option Block → Perm
held_of None = perm.None
held_of (Some b) = b.held

abbrev pub copy_of : Option Block → Option (List ℕ)
copy_of None = None
copy_of (Some b) = b.copy

abbrev pub waiting_of : Option Block → Option (List ℕ)
waiting_of None = None
waiting_of (Some b) = b.waiting

abbrev pub held_in : Table → ℕ → Perm
held_in t k = held_of (slice_get t.blocks.items k)

abbrev pub copy_in : Table → ℕ → Option (List ℕ)
copy_in t k = copy_of (slice_get t.blocks.items k)

abbrev pub waiting_in : Table → ℕ → Option (List ℕ)
waiting_in t k = waiting_of (slice_get t.blocks.items k)

-- how many blocks it has
abbrev pub block_count : Table → ℕ
block_count t = length t.blocks.items
