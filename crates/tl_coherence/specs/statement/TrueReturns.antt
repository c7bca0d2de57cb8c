-- Each beat with data on channel C has the bytes of the one memory.
use Rattle.std.specs.Prelude.{ℕ, true, List, ◌≡◌, length, ⊤}
use Rattle.tl_beat.specs.declared.beat.Beat.{Beat}
use Rattle.tl_beat.specs.declared.beat.Beat.TheVariants as beat
use Rattle.tl_beat.specs.declared.channel.Channel.TheVariants as channel
use Rattle.tl_beat.specs.statement.Opcode.{c_carries_data}
use Rattle.tl_burst.specs.statement.Burst.{lanes_at}
use Rattle.tl_burst.specs.statement.Messages.{unfinished}
use Rattle.tl_params.specs.declared.config.Config.{Config}
use Rattle.tl_rules.specs.statement.Conformance.{Trace, on_link}
use Rattle.tl_rules.specs.statement.Effect.{Memory, IsBlock}
use Rattle.tl_rules.specs.statement.History.{block_at}
use Rattle.tl_coherence.specs.statement.Flow.{EachTaken, trace_of}
use Rattle.tl_coherence.specs.statement.Headline.{IsGiven}
use Rattle.tl_coherence.specs.statement.Log.{Log}
use Rattle.tl_coherence.specs.statement.OneMemory.{one_memory_after}

-- if this is a beat with data on channel C after t, it has the bytes of its block, for its place in the burst
abbrev pub IsTrueReturn : {w : ℕ} → Memory → ℕ → Beat w → Trace w → Type 0
IsTrueReturn {w} memory link (beat.C y) t = c_carries_data y.opcode ≡ true
    → (bytes : List ℕ) × IsBlock memory (block_at y.address) bytes
    × (y.lanes ≡ lanes_at true w bytes (length (unfinished channel.C (on_link link t))))
IsTrueReturn memory link _ t = ⊤

-- this is true of each beat of a ProbeAckData or ReleaseData that was delivered, with the one memory of that moment
abbrev pub TrueReturns : ℕ → Type 0
TrueReturns w = (config : Config) (log : Log w) → IsGiven config log
    → EachTaken (λ earlier link x. IsTrueReturn (one_memory_after config earlier).memory link x (trace_of earlier)) log
