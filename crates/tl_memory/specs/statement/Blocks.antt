-- The states of all blocks, after the beats of all links of a manager.
use Rattle.std.specs.Prelude.{ℕ, [], ◌≡◌, ◌<◌, ◌+◌, ◌*◌, length, Option, Some, None, slice_get}
use Rattle.tl_rules.specs.statement.Conformance.{Trace}
use Rattle.tl_bytes.specs.statement.Bytes.{may_be}
use Rattle.tl_memory.specs.declared.block.BlockState.{BlockState}
use Rattle.tl_memory.specs.declared.blocks.Blocks.{Blocks}
use Rattle.tl_memory.specs.statement.BlockMap.{value_in}
use Rattle.tl_memory.specs.statement.Known.{AreInside, KnowsState}

-- the possible values of each byte of the block are those from before the trace
abbrev pub IsUntold : {w : ℕ} → ℕ → ℕ → Trace w → Type 0
IsUntold {w} n block t = (place : ℕ) → place < 64
    → may_be n (64 * block + place) t ≡ may_be {w = w} n (64 * block + place) []

-- the state of a block after t, if one is kept; otherwise its state is still that from before the trace
abbrev pub KnowsKept : {w : ℕ} → Option (BlockState w) → ℕ → ℕ → Trace w → Type 0
KnowsKept {w} None n block t =
    IsUntold n block t × ((s : BlockState w) → KnowsState s n block [] → KnowsState s n block t)
KnowsKept (Some s) n block t = KnowsState s n block t

-- the place of a block among the states, if a state is kept
abbrev pub place_in : {w : ℕ} → Blocks w → ℕ → Option ℕ
place_in b block = value_in b.places block

-- the state at a place, if there is one
abbrev pub state_at : {w : ℕ} → Blocks w → Option ℕ → Option (BlockState w)
state_at b None = None
state_at b (Some place) = slice_get b.states.items place

-- the state of a block, if one is kept
abbrev pub state_in : {w : ℕ} → Blocks w → ℕ → Option (BlockState w)
state_in b block = state_at b (place_in b block)

-- the place of each block has a state and is that of no other block; the block that was met last has its place
pub record IsTable {w : ℕ} (b : Blocks w) : Type 0 where
  pub stand : (block place : ℕ) → place_in b block ≡ Some place → place < length b.states.items
  pub apart : (block other place : ℕ) → place_in b block ≡ Some place → place_in b other ≡ Some place → block ≡ other
  pub last_is : (block place : ℕ) → b.last ≡ Some (block, place) → place_in b block ≡ Some place

-- the states of all blocks are kept; no access writes outside its own block
pub record KnowsBlocks {w : ℕ} (b : Blocks w) (n : ℕ) (t : Trace w) : Type 0 where
  pub table_is : IsTable b
  pub states_are : (block : ℕ) → KnowsKept (state_in b block) n block t
  pub inside : AreInside t
