-- A client stores to its copy, which no link carries, only while its link holds Trunk of the block.
use Rattle.std.specs.Prelude.{ℕ, ◌≡◌}
use Rattle.tl_params.specs.declared.config.Config.{Config}
use Rattle.tl_params.specs.declared.perm.Perm.TheVariants as perm
use Rattle.tl_rules.specs.statement.Conformance.{on_link}
use Rattle.tl_rules.specs.statement.History.{block_at, held}
use Rattle.tl_client.specs.declared.operation.Op.TheVariants.{Store}
use Rattle.tl_client.specs.declared.reply.Reply.TheVariants.{Stored}
use Rattle.tl_coherence.specs.declared.event.Event.TheVariants.{Ask}
use Rattle.tl_coherence.specs.declared.event.Outcome.TheVariants.{Replied}
use Rattle.tl_coherence.specs.statement.Flow.{trace_of}
use Rattle.tl_coherence.specs.statement.Headline.{IsGiven}
use Rattle.tl_coherence.specs.statement.Log.{Log, system_after}
use Rattle.tl_coherence.specs.statement.Step.{stepped}

-- if a client replies Stored, its link holds Trunk of the block, by the beats that it has carried
abbrev pub HiddenStores : ℕ → Type 0
HiddenStores w = (config : Config) (log : Log w) → IsGiven config log → (c address size value : ℕ)
    → (stepped config (Ask c (Store address size value)) (system_after config log)).outcome ≡ Replied Stored
    → held (block_at address) (on_link c (trace_of log)) ≡ perm.Trunk
