-- The possible values of the bytes of all blocks, as they are kept.
use Rattle.std.specs.BTreeMap.{is_at}
use Rattle.std.specs.Map.{lookup}
use Rattle.std.specs.Ordering.{nat_cmp}
use Rattle.std.specs.Prelude.{ℕ, Bool, true, false, ◌∷◌, ◌==◌, ◌+◌, ◌*◌, ◌<◌, ◌≡◌, List, [], Option, Some, None}
use Rattle.std.specs.Prelude.{is_some}
use Rattle.std.specs.Prelude.{if◌then◌else◌}
use Rattle.tl_beat.specs.declared.beat.Link.{Link}
use Rattle.tl_events.specs.declared.commit.Event.{Event}
use Rattle.tl_commits.specs.code.BlockValues.{AreFirst, AreSame, KnowsValues}
use Rattle.tl_commits.specs.declared.block_values.BlockValues.{BlockValues}
use Rattle.tl_commits.specs.statement.Completeness.{Completeness}
use Rattle.tl_commits.specs.statement.Events.{Events, beats_of}
use Rattle.tl_commits.specs.statement.Seen.{first_values, memory_may, seen, unseen}

-- the values of the blocks that have some of their own, and those of each other block; None if they may be any
pub record Table : Type 0 where
  pub entries : List (ℕ × BlockValues)
  pub first : Option BlockValues

-- these values, or else those
abbrev pub or_first : Option BlockValues → Option BlockValues → Option BlockValues
or_first None first = first
or_first (Some v) first = Some v

-- the values of a block's own, if it has some
abbrev pub own_in : Table → ℕ → Option BlockValues
own_in table block = lookup (is_at (nat_cmp block)) table.entries

-- the values of a block, if they aren't any
abbrev pub values_in : Table → ℕ → Option BlockValues
values_in table block = or_first (own_in table block) table.first

-- the block has values of its own
abbrev pub has_own : Table → ℕ → Bool
has_own table block = is_some (own_in table block)

-- the values of each block before the trace
abbrev pub AreFirstKept : Option BlockValues → Bool → Type 0
AreFirstKept None zero = zero ≡ false
AreFirstKept (Some v) zero = AreFirst zero v

-- values of a block's own that say what these do
abbrev pub IsFresh : Option BlockValues → BlockValues → Type 0
IsFresh None v = AreFirst false v
IsFresh (Some first) v = AreSame first v

-- no block has values of its own
pub record IsFirstTable (table : Table) (zero : Bool) : Type 0 where
  pub none : table.entries ≡ []
  pub first_are : AreFirstKept table.first zero

-- the bytes of the block may be any
abbrev pub IsUntouched : {w : ℕ} → Completeness → ℕ → ℕ → Events w → Type 0
IsUntouched complete n block e = (place : ℕ) → place < 64 → (seen complete n (64 * block + place) e ≡ unseen false)
    × (memory_may complete.zero n (64 * block + place) (beats_of e) ≡ first_values false)

-- these are the values of the block; if there are none, they are any
abbrev pub KnowsKept : {w : ℕ} → Option BlockValues → Completeness → ℕ → ℕ → Events w → Type 0
KnowsKept None complete n block e = IsUntouched complete n block e
KnowsKept (Some v) complete n block e = KnowsValues v complete n block e

-- these are the values of all blocks
abbrev pub KnowsTable : {w : ℕ} → Table → Completeness → ℕ → Events w → Type 0
KnowsTable table complete n e = (block : ℕ) → KnowsKept (values_in table block) complete n block e

-- the values of one block after this event, if it changes some, are these; those of the others stay
abbrev pub IsNext : {w : ℕ} → Option (ℕ × BlockValues) → Table → Completeness → ℕ → Link × Event w → Events w → Type 0
IsNext None table complete n x e = KnowsTable table complete n (x ∷ e)
IsNext (Some (own, v)) table complete n x e = (has_own table own ≡ true)
    × KnowsValues v complete n own (x ∷ e)
    × ((block : ℕ) → (block == own) ≡ false → KnowsKept (values_in table block) complete n block (x ∷ e))

-- the values of this block change so, and those of the others stay
pub record IsChanged (change : BlockValues → BlockValues → Type 0) (block : ℕ) (old new : Table) : Type 0 where
  pub was : BlockValues
  pub now : BlockValues
  pub there : own_in old block ≡ Some was
  pub changes : change was now
  pub others : (k : ℕ) → values_in new k ≡ (if k == block then Some now else values_in old k)
