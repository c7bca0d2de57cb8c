-- Each beat of a GrantData has the bytes of the one memory.
use Rattle.std.specs.Prelude.{ℕ, true, List, ◌≡◌, length, ⊤}
use Rattle.tl_beat.specs.declared.beat.Beat.{Beat}
use Rattle.tl_beat.specs.declared.beat.Beat.TheVariants as beat
use Rattle.tl_beat.specs.declared.channel.Channel.TheVariants as channel
use Rattle.tl_beat.specs.declared.opcode.OpD.TheVariants as d
use Rattle.tl_burst.specs.statement.Burst.{lanes_at}
use Rattle.tl_burst.specs.statement.Messages.{unfinished}
use Rattle.tl_params.specs.declared.config.Config.{Config}
use Rattle.tl_rules.specs.statement.Conformance.{Trace, on_link}
use Rattle.tl_rules.specs.statement.Effect.{Memory, IsBlock}
use Rattle.tl_rules.specs.statement.History.{grants}
use Rattle.tl_coherence.specs.statement.Flow.{EachTaken, trace_of}
use Rattle.tl_coherence.specs.statement.Headline.{IsGiven}
use Rattle.tl_coherence.specs.statement.Log.{Log}
use Rattle.tl_coherence.specs.statement.OneMemory.{one_memory_after}

-- if this is a beat of a GrantData after t, it has the bytes of the block, for its place in the burst
abbrev pub IsTrueGrant : {w : ℕ} → Memory → ℕ → Beat w → Trace w → Type 0
IsTrueGrant {w} memory link (beat.D y) t = (block : ℕ) → grants block y (on_link link t) ≡ true
    → y.opcode ≡ d.GrantData
    → (bytes : List ℕ) × IsBlock memory block bytes
    × (y.lanes ≡ lanes_at true w bytes (length (unfinished channel.D (on_link link t))))
IsTrueGrant memory link _ t = ⊤

-- this is true of each beat of a GrantData that was delivered, with the one memory of that moment
abbrev pub TrueGrants : ℕ → Type 0
TrueGrants w = (config : Config) (log : Log w) → IsGiven config log
    → EachTaken (λ earlier link x. IsTrueGrant (one_memory_after config earlier).memory link x (trace_of earlier)) log
