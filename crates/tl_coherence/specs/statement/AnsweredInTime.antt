-- Each access is answered after a moment, since its request was complete, at which no link held a conflicting
-- permission. Only the beats that all links have carried count.
use Rattle.std.specs.Prelude.{ℕ, true, ◌≡◌, Some, ⊤}
use Rattle.tl_beat.specs.declared.beat.Beat.{Beat}
use Rattle.tl_beat.specs.declared.beat.Beat.TheVariants as beat
use Rattle.tl_beat.specs.declared.beat.BeatA.{BeatA}
use Rattle.tl_params.specs.declared.config.Config.{Config}
use Rattle.tl_rules.specs.statement.Conformance.{Trace, on_link}
use Rattle.tl_rules.specs.statement.History.{begins, block_at, request_of}
use Rattle.tl_rules.specs.statement.Windows.{has_window, needs}
use Rattle.tl_manager.specs.statement.Service.{is_access_answer}
use Rattle.tl_coherence.specs.statement.Flow.{EachTaken, trace_of}
use Rattle.tl_coherence.specs.statement.Headline.{IsGiven}
use Rattle.tl_coherence.specs.statement.Log.{Log}

-- if this beat begins the answer to an access after t, there was such a moment for the access
abbrev pub IsAnsweredInTime : {w : ℕ} → ℕ → Beat w → Trace w → Type 0
IsAnsweredInTime {w} link (beat.D y) t = (n : ℕ) (x : BeatA w) → begins (beat.D y) (on_link link t) ≡ true
    → is_access_answer y.opcode ≡ true → request_of y.source (on_link link t) ≡ Some x
    → has_window n link y.source (needs x.opcode) (block_at x.address) t ≡ true
IsAnsweredInTime link _ t = ⊤

-- this is true of each answer to an access that was delivered
abbrev pub AnsweredInTime : ℕ → Type 0
AnsweredInTime w = (config : Config) (log : Log w) → IsGiven config log
    → EachTaken (λ earlier link x. IsAnsweredInTime link x (trace_of earlier)) log
