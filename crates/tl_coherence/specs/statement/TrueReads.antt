-- Each read brings bytes that the one memory had at a moment in a window of the access.
use Rattle.std.specs.Prelude.{ℕ, true, [], ◌∷◌, List, ◌≡◌, ◌⊎◌, ◌%◌, ◌^◌, length, Option, Some, None, is_some, ⊤}
use Rattle.tl_beat.specs.declared.beat.Beat.{Beat}
use Rattle.tl_beat.specs.declared.beat.Beat.TheVariants as beat
use Rattle.tl_beat.specs.declared.beat.BeatA.{BeatA}
use Rattle.tl_beat.specs.declared.channel.Channel.TheVariants as channel
use Rattle.tl_beat.specs.declared.opcode.OpD.TheVariants as d
use Rattle.tl_burst.specs.statement.Burst.{lanes_at}
use Rattle.tl_burst.specs.statement.Messages.{unfinished}
use Rattle.tl_params.specs.declared.config.Config.{Config}
use Rattle.tl_rules.specs.statement.OpenMessages.{open_request}
use Rattle.tl_rules.specs.statement.Conformance.{on_link}
use Rattle.tl_rules.specs.statement.Effect.{Memory, as_payload, bytes_from}
use Rattle.tl_rules.specs.statement.History.{block_at, request_of}
use Rattle.tl_rules.specs.statement.Windows.{is_free, needs}
use Rattle.tl_coherence.specs.statement.Flow.{EachTaken, trace_of}
use Rattle.tl_coherence.specs.statement.Headline.{IsGiven}
use Rattle.tl_coherence.specs.statement.Log.{Log}
use Rattle.tl_coherence.specs.statement.OneMemory.{one_memory_after}

-- the lanes of beat k of the answer to a request, if it reads this memory
abbrev pub lanes_found : {w : ℕ} → BeatA w → Memory → ℕ → Option (List ℕ)
lanes_found {w} x memory k =
    lanes_at true w (as_payload (x.address % w) (bytes_from memory x.address (2 ^ x.size))) k

-- The log `now` is `before` and one more event. After the event no link holds a conflicting permission, and beat k of
-- the answer reads these lanes from the one memory before the event.
pub record IsFound {w : ℕ} (config : Config) (x : BeatA w) (lanes : Option (List ℕ)) (k : ℕ) (now before : Log w) :
    Type 0 where
  pub free : (n : ℕ) → is_free n None (needs x.opcode) (block_at x.address) (trace_of now) ≡ true
  pub lanes_are : lanes ≡ lanes_found x (one_memory_after config before).memory k

-- the request with this source is pending and complete on the link, and since its last beat there was such an event
unfoldable pub WasFound : {w : ℕ} → Config → ℕ → ℕ → BeatA w → Option (List ℕ) → ℕ → Log w → Type 0
WasFound config link source x lanes k [] = ⊥
WasFound config link source x lanes k (e ∷ log) =
    (is_some (open_request source (on_link link (trace_of (e ∷ log)))) ≡ true)
    × (IsFound config x lanes k (e ∷ log) log ⊎ WasFound config link source x lanes k log)

-- if this is a beat of an AccessAckData after the log, there was such an event for its request and its lanes
abbrev pub IsTrueRead : {w : ℕ} → Config → ℕ → Beat w → Log w → Type 0
IsTrueRead {w} config link (beat.D y) log = (x : BeatA w) → y.opcode ≡ d.AccessAckData
    → request_of y.source (on_link link (trace_of log)) ≡ Some x
    → WasFound config link y.source x y.lanes (length (unfinished channel.D (on_link link (trace_of log)))) log
IsTrueRead config link _ log = ⊤

-- this is true of each beat of an AccessAckData that was delivered
abbrev pub TrueReads : ℕ → Type 0
TrueReads w = (config : Config) (log : Log w) → IsGiven config log
    → EachTaken (λ earlier link x. IsTrueRead config link x earlier) log
