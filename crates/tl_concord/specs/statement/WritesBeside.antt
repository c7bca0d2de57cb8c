-- An access that writes is performed while no Grant of its block is on its way.
use Rattle.std.specs.Prelude.{ℕ, true, List, ◌∷◌, ◌≡◌, Some, None}
use Rattle.tl_beat.specs.declared.beat.Beat.{Beat}
use Rattle.tl_beat.specs.declared.beat.Beat.TheVariants as beat
use Rattle.tl_beat.specs.declared.beat.BeatD.{BeatD}
use Rattle.tl_beat.specs.declared.channel.Channel.TheVariants as channel
use Rattle.tl_burst.specs.declared.message.Message.TheVariants as message
use Rattle.tl_burst.specs.declared.message.MessageA.{MessageA}
use Rattle.tl_burst.specs.statement.Messages.{unfinished}
use Rattle.tl_params.specs.declared.config.Config.{Config}
use Rattle.tl_params.specs.declared.perm.Perm.TheVariants as perm
use Rattle.tl_rules.specs.statement.Conformance.{on_link}
use Rattle.tl_rules.specs.statement.Effect.{AccessResult}
use Rattle.tl_rules.specs.statement.History.{block_at, grants}
use Rattle.tl_rules.specs.statement.Windows.{needs}
use Rattle.tl_client.specs.declared.operation.Op.TheVariants.{Access}
use Rattle.tl_coherence.specs.declared.event.Event.{Event}
use Rattle.tl_coherence.specs.declared.event.Outcome.{Outcome}
use Rattle.tl_coherence.specs.statement.Flow.{trace_of}
use Rattle.tl_coherence.specs.statement.Headline.{IsGiven}
use Rattle.tl_coherence.specs.statement.Log.{Log}
use Rattle.tl_coherence.specs.statement.Machine.{Requests}
use Rattle.tl_coherence.specs.statement.OneMemory.{one_memory_after}

-- if an access that writes gets its answer by an event, no Grant of its block is unfinished after the event
abbrev pub WritesBesideNoGrant : ℕ → Type 0
WritesBesideNoGrant w = (config : Config) (log : Log w) (x : Event w × Outcome w) → IsGiven config (x ∷ log)
    → (c source : ℕ) (m : MessageA w) (r : AccessResult) → needs m.opcode ≡ perm.Trunk
    → (one_memory_after config log).opened c Requests source
    ≡ Some (record { asked = Access (message.A m); answer = None })
    → (one_memory_after config (x ∷ log)).opened c Requests source
    ≡ Some (record { asked = Access (message.A m); answer = Some r })
    → (link : ℕ) (y : BeatD w) (older : List (Beat w))
    → unfinished channel.D (on_link link (trace_of (x ∷ log))) ≡ beat.D y ∷ older
    → grants (block_at m.address) y (on_link link (trace_of (x ∷ log))) ≡ true → ⊥
