-- All links of a world carry the data of one memory: data that are granted or given back are those of memory. A block's
-- bytes are set with each Grant of it while no link holds it, and whenever Trunk of it is given up.
use Rattle.std.specs.Prelude.{ℕ, true, false, ◌∷◌, ◌≡◌, ◌%◌, None}
use Rattle.tl_beat.specs.declared.beat.Beat.{Beat}
use Rattle.tl_params.specs.declared.config.Config.{Config}
use Rattle.tl_params.specs.declared.perm.Perm.TheVariants as perm
use Rattle.tl_rules.specs.statement.Conformance.{Trace, on_link}
use Rattle.tl_rules.specs.statement.Effect.{Memory}
use Rattle.tl_rules.specs.statement.History.{block_at}
use Rattle.tl_rules.specs.statement.Windows.{is_free}
use Rattle.tl_bytes.specs.statement.Bytes.{carried_byte, could_be, tells}
use Rattle.tl_bytes.specs.statement.Early.{telling_beats}
use Rattle.tl_coherence.specs.statement.Flow.{EachTaken, trace_of}
use Rattle.tl_coherence.specs.statement.Headline.{IsGiven}
use Rattle.tl_coherence.specs.statement.Log.{Log}
use Rattle.tl_coherence.specs.statement.OneMemory.{one_memory_after}

-- a beat taken on a link after t agrees with this memory
pub record IsToldOf {w : ℕ} (memory : Memory) (link : ℕ) (x : Beat w) (t : Trace w) : Type 0 where
  -- the bytes that it sets for a block are those of memory
  pub told : (address : ℕ) → tells (block_at address) x (on_link link t) ≡ true
      → could_be (memory address) (carried_byte (telling_beats x (on_link link t)) (address % 64)) ≡ true
  -- a beat sets a block's bytes if a link holds the block after it and none did before, or if it gives Trunk up
  pub got_told : (n block : ℕ) → is_free n None perm.Trunk block t ≡ true
      → is_free n None perm.Trunk block ((record { 0 = link }, x) ∷ t) ≡ false → tells block x (on_link link t) ≡ true
  pub given_up_told : (n block : ℕ) → is_free n None perm.Branch block t ≡ false
      → is_free n None perm.Branch block ((record { 0 = link }, x) ∷ t) ≡ true → tells block x (on_link link t) ≡ true

-- each delivered beat agrees with the one memory as it was at that moment
abbrev pub TellsOfMemory : ℕ → Type 0
TellsOfMemory w = (config : Config) (log : Log w) → IsGiven config log
    → EachTaken (λ earlier link x. IsToldOf (one_memory_after config earlier).memory link x (trace_of earlier)) log
