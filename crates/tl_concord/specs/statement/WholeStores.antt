-- The store of a whole block, whose data no link carries, comes with a Grant that leaves Trunk on its link.
use Rattle.std.specs.Prelude.{ℕ, List, ◌∷◌, ◌≡◌, Some}
use Rattle.tl_beat.specs.declared.beat.Beat.{Beat}
use Rattle.tl_beat.specs.declared.beat.Link.{Link}
use Rattle.tl_beat.specs.declared.channel.Channel.{Channel}
use Rattle.tl_params.specs.declared.config.Config.{Config}
use Rattle.tl_params.specs.declared.perm.Perm.TheVariants as perm
use Rattle.tl_rules.specs.statement.Conformance.{on_link}
use Rattle.tl_rules.specs.statement.History.{held}
use Rattle.tl_client.specs.declared.operation.Op.TheVariants.{AcquireWhole}
use Rattle.tl_client.specs.declared.verdict.Finish.{Finish}
use Rattle.tl_coherence.specs.declared.event.Event.TheVariants.{Deliver}
use Rattle.tl_coherence.specs.declared.event.Outcome.TheVariants.{Done}
use Rattle.tl_coherence.specs.statement.Flow.{trace_of}
use Rattle.tl_coherence.specs.statement.Headline.{IsGiven}
use Rattle.tl_coherence.specs.statement.Log.{Log}
use Rattle.tl_coherence.specs.statement.Machine.{Open, pool_of}
use Rattle.tl_coherence.specs.statement.OneMemory.{one_memory_after}

-- if an operation that stores a whole block ends, its link holds Trunk of the block
abbrev pub WholeStores : ℕ → Type 0
WholeStores w = (config : Config) (log : Log w) (link : Link) (ch : Channel) (x : Beat w) (source : ℕ) (f : Finish)
    → IsGiven config ((Deliver link ch, Done x source f) ∷ log) → (o : Open w) (block : ℕ) (bytes : List ℕ)
    → (one_memory_after config log).opened link.0 (pool_of f) source ≡ Some o → o.asked ≡ AcquireWhole block bytes
    → held block (on_link link.0 (trace_of ((Deliver link ch, Done x source f) ∷ log))) ≡ perm.Trunk
