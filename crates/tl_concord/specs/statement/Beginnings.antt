-- No response of a world begins that breaks M1 or M4.
use Rattle.std.specs.Prelude.{ℕ, ◌≡◌, None, length, ⊤}
use Rattle.tl_beat.specs.declared.beat.Beat.{Beat}
use Rattle.tl_beat.specs.declared.beat.Beat.TheVariants as beat
use Rattle.tl_params.specs.declared.config.Config.{Config}
use Rattle.tl_rules.specs.statement.Conformance.{Trace}
use Rattle.tl_coherence.specs.statement.Flow.{EachTaken, trace_of}
use Rattle.tl_coherence.specs.statement.Headline.{IsGiven}
use Rattle.tl_coherence.specs.statement.Log.{Log}
use Rattle.tl_together.specs.statement.Coherence.{broken_beginning}

-- a beat of a response after t on one of n links doesn't break M1 or M4
abbrev pub BeginsUnbroken : {w : ℕ} → ℕ → ℕ → Beat w → Trace w → Type 0
BeginsUnbroken n link (beat.D y) t = broken_beginning n link y t ≡ None
BeginsUnbroken n link _ t = ⊤

-- no delivered beat breaks M1 or M4
abbrev pub Beginnings : ℕ → Type 0
Beginnings w = (config : Config) (log : Log w) → IsGiven config log
    → EachTaken (λ earlier link x. BeginsUnbroken (length config.clients.items) link x (trace_of earlier)) log
