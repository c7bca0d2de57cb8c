-- How a beat changes the knowledge of the bytes of memory.
use Rattle.std.specs.Box.{box_value}
use Rattle.std.specs.Prelude.{ℕ, true, false, ◌≡◌, ◌≢◌, if◌then◌else◌, option_map, Option, Some, None, slice_get}
use Rattle.tl_beat.specs.declared.beat.Beat.{Beat}
use Rattle.tl_beat.specs.declared.beat.Beat.TheVariants as beat
use Rattle.tl_beat.specs.declared.beat.BeatD.{BeatD}
use Rattle.tl_beat.specs.declared.beat.Link.{Link}
use Rattle.tl_bytes.specs.statement.Free.{is_free}
use Rattle.tl_params.specs.declared.perm.Perm.TheVariants as perm
use Rattle.tl_rules.specs.statement.Conformance.{Trace, on_link}
use Rattle.tl_rules.specs.statement.History.{begins}
use Rattle.tl_memory.specs.code.Elsewhere.{IsConcerned, PassesBy}
use Rattle.tl_memory.specs.code.Passing.{changes_held}
use Rattle.tl_memory.specs.code.Taking.{IsNext, IsSeen}
use Rattle.tl_memory.specs.declared.block.BlockState.{BlockState}
use Rattle.tl_memory.specs.declared.expected.Expected.{Expected}
use Rattle.tl_memory.specs.declared.free.Freedom.{Freedom}
use Rattle.tl_memory.specs.declared.memory.Change.{Change}
use Rattle.tl_memory.specs.declared.memory.Memory.{Memory}
use Rattle.tl_memory.specs.statement.Blocks.{place_in}
use Rattle.tl_memory.specs.statement.Expecting.{ExpectsLater, ExpectsResponse}

-- the beat leaves each block as it is but this one, if there is one
abbrev pub IsBorne : {w : ℕ} → Option ℕ → Link × Beat w → Trace w → Type 0
IsBorne own x t = (block : ℕ) → own ≢ Some block → PassesBy block x t

-- this is what the response may bring that begins with the beat, if one does
abbrev pub ExpectsBegun : {w : ℕ} → Option Expected → ℕ → Link × Beat w → Trace w → Type 0
ExpectsBegun {w} expected n x t = (y : BeatD w) → x.1 ≡ beat.D y → begins (beat.D y) (on_link x.0.0 t) ≡ true
    → ExpectsResponse expected n x.0.0 y.opcode y.source t t

-- and these are the values that it may bring with a beat that doesn't begin it, if they change
abbrev pub ExpectsAlong : {w : ℕ} → Option Expected → ℕ → Link × Beat w → Trace w → Type 0
ExpectsAlong {w} expected n x t = (y : BeatD w) → x.1 ≡ beat.D y → begins (beat.D y) (on_link x.0.0 t) ≡ false
    → ExpectsLater expected n x.0.0 y.opcode y.source t

-- the values that a change expects, if it expects some
abbrev pub expected_by : {w : ℕ} → Change w → Option Expected
expected_by change = option_map box_value change.expected

-- For whom the block was free before the beat that this is said to change, if there is one, whether the beat breaks
-- a rule or not. That block is the one of which its link may hold more or less.
pub record KnowsFree {w : ℕ} (change : Change w) (n : ℕ) (t : Trace w) : Type 0 where
  pub own : (block : ℕ) → change.held ≡ Some block → change.block ≡ Some block
  pub reading_is : (block : ℕ) → change.block ≡ Some block → change.reading ≡ is_free n perm.Branch block t
  pub writing_is : (block : ℕ) → change.block ≡ Some block → change.writing ≡ is_free n perm.Trunk block t

-- This is what the beat changes: the state of one block, of which one is kept at this place, or of none, what its link
-- holds of that block, and what the response may bring that begins with it, or whose beat it is. If a Grant begins with the
-- beat, this is the block of its request.
pub record IsChange {w : ℕ} (change : Change w) (m : Memory w) (n : ℕ) (x : Link × Beat w) (t : Trace w) : Type 0 where
  pub block_is : IsBorne change.block x t
  pub held_is : change.held ≡ (if changes_held x.1 (on_link x.0.0 t) then change.block else None)
  pub kept : (block : ℕ) → change.block ≡ Some block → place_in m.blocks block ≡ Some change.place
  pub next_is : (block : ℕ) (free : Option Freedom) (s : BlockState w) → change.block ≡ Some block
      → slice_get m.blocks.states.items change.place ≡ Some s → IsSeen free n block x t
      → IsNext change.next free s n block x t
  pub expected_is : ExpectsBegun (expected_by change) n x t
  pub along_is : ExpectsAlong (expected_by change) n x t
  pub concerned : IsConcerned change.block x.1 (on_link x.0.0 t)
