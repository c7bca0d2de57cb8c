-- An access is performed at a moment at which no link holds a conflicting permission.
use Rattle.std.specs.Prelude.{ℕ, true, List, [], ◌∷◌, ◌≡◌, Some, None}
use Rattle.tl_beat.specs.declared.beat.BeatA.{BeatA}
use Rattle.tl_beat.specs.declared.beat.Link.{Link}
use Rattle.tl_beat.specs.declared.channel.Channel.{Channel}
use Rattle.tl_params.specs.declared.config.Config.{Config}
use Rattle.tl_rules.specs.statement.Conformance.{on_link}
use Rattle.tl_rules.specs.statement.History.{block_at, request_of}
use Rattle.tl_rules.specs.statement.Windows.{is_free, needs}
use Rattle.tl_coherence.specs.declared.event.Event.TheVariants.{Deliver}
use Rattle.tl_coherence.specs.declared.event.Outcome.{Outcome}
use Rattle.tl_coherence.specs.statement.Flow.{trace_of}
use Rattle.tl_coherence.specs.statement.Headline.{IsGiven}
use Rattle.tl_coherence.specs.statement.Log.{Log, system_after}
use Rattle.tl_coherence.specs.statement.OneMemory.{accesses_answered}
use Rattle.tl_coherence.specs.statement.Step.{stepped}

-- If a delivery answers the access with this source, whose request begins with x, then it answers no other access, and
-- after it no link holds a conflicting permission of the block.
abbrev pub PerformedFree : ℕ → Type 0
PerformedFree w = (config : Config) (log : Log w) (link : Link) (ch : Channel) (o : Outcome w)
    → IsGiven config ((Deliver link ch, o) ∷ log) → (c source : ℕ) (rest : List (ℕ × ℕ)) (x : BeatA w)
    → accesses_answered (stepped config (Deliver link ch) (system_after config log)).handed ≡ (c, source) ∷ rest
    → request_of source (on_link c (trace_of ((Deliver link ch, o) ∷ log))) ≡ Some x
    → (rest ≡ [])
    × ((n : ℕ) → is_free n None (needs x.opcode) (block_at x.address) (trace_of ((Deliver link ch, o) ∷ log)) ≡ true)
