-- The state of memory: of all links of a manager, and of all blocks.
use Rattle.std.specs.Prelude.{ℕ, [], ◌∷◌, ◌^◌, ◌<◌, ⊤}
use Rattle.tl_beat.specs.declared.beat.Beat.{Beat}
use Rattle.tl_beat.specs.declared.beat.Beat.TheVariants as beat
use Rattle.tl_rules.specs.statement.Conformance.{Trace}
use Rattle.tl_memory.specs.declared.memory.Memory.{Memory}
use Rattle.tl_memory.specs.statement.Blocks.{KnowsBlocks}
use Rattle.tl_memory.specs.statement.Links.{KnowsLinks}

-- the address of a beat of channel A has 32 bits
abbrev pub IsAddressed : {w : ℕ} → Beat w → Type 0
IsAddressed (beat.A x) = x.address < 2 ^ 32
IsAddressed _ = ⊤

-- the address of each beat of channel A has 32 bits
abbrev pub AreAddressed : {w : ℕ} → Trace w → Type 0
AreAddressed [] = ⊤
AreAddressed (x ∷ t) = IsAddressed x.1 × AreAddressed t

-- the states of the n links, and of all blocks
pub record KnowsMemory {w : ℕ} (m : Memory w) (n : ℕ) (t : Trace w) : Type 0 where
  pub links_are : KnowsLinks m.links n t
  pub blocks_are : KnowsBlocks m.blocks n t
  pub addressed : AreAddressed t
