-- A response goes on as it began, no request comes with its source meanwhile, and while a Grant is on its way no link
-- holds Trunk of its block, and no other Grant of the block is on its way.
use Rattle.std.specs.Prelude.{ℕ, true, false, List, ◌∷◌, ◌≡◌, None, ⊤}
use Rattle.tl_beat.specs.declared.beat.Beat.{Beat}
use Rattle.tl_beat.specs.declared.beat.Beat.TheVariants as beat
use Rattle.tl_beat.specs.declared.beat.BeatA.{BeatA}
use Rattle.tl_beat.specs.declared.beat.BeatD.{BeatD}
use Rattle.tl_beat.specs.declared.channel.Channel.TheVariants as channel
use Rattle.tl_burst.specs.statement.Messages.{unfinished}
use Rattle.tl_params.specs.declared.config.Config.{Config}
use Rattle.tl_params.specs.declared.perm.Perm.TheVariants as perm
use Rattle.tl_rules.specs.statement.Conformance.{Trace, on_link}
use Rattle.tl_rules.specs.statement.History.{grants, is_release_ack}
use Rattle.tl_rules.specs.statement.Windows.{is_free}
use Rattle.tl_coherence.specs.statement.Flow.{EachTaken, trace_of}
use Rattle.tl_coherence.specs.statement.Headline.{IsGiven}
use Rattle.tl_coherence.specs.statement.Log.{Log}

-- a beat of a response after t
pub record IsResponse {w : ℕ} (link : ℕ) (x : BeatD w) (t : Trace w) : Type 0 where
  -- if it continues a response, it has that one's opcode and source
  pub continues : (y : BeatD w) (older : List (Beat w)) → unfinished channel.D (on_link link t) ≡ beat.D y ∷ older
      → (x.opcode ≡ y.opcode) × (x.source ≡ y.source)
  -- if it is of a Grant, no link holds Trunk of the block
  pub free : (n block : ℕ) → grants block x (on_link link t) ≡ true → is_free n None perm.Branch block t ≡ true
  -- then no Grant of the block is on its way on another link
  pub alone : (block : ℕ) → grants block x (on_link link t) ≡ true → (other : ℕ) (y : BeatD w) (older : List (Beat w))
      → unfinished channel.D (on_link other t) ≡ beat.D y ∷ older → grants block y (on_link other t) ≡ true
      → other ≡ link

-- a beat of a request after t has the source of no response on its way other than a ReleaseAck
abbrev pub IsFreshRequest : {w : ℕ} → ℕ → BeatA w → Trace w → Type 0
IsFreshRequest {w} link x t = (y : BeatD w) (older : List (Beat w))
    → unfinished channel.D (on_link link t) ≡ beat.D y ∷ older → is_release_ack y.opcode ≡ false
    → y.source ≡ x.source → ⊥

-- a beat of a response or of a request is right in this sense
abbrev pub IsRightBeat : {w : ℕ} → ℕ → Beat w → Trace w → Type 0
IsRightBeat link (beat.D x) t = IsResponse link x t
IsRightBeat link (beat.A x) t = IsFreshRequest link x t
IsRightBeat link _ t = ⊤

-- while a Grant is on its way, no link holds Trunk of its block
abbrev pub IsUndisturbed : {w : ℕ} → Trace w → Type 0
IsUndisturbed {w} t = (link n block : ℕ) (x : BeatD w) (older : List (Beat w))
    → unfinished channel.D (on_link link t) ≡ beat.D x ∷ older → grants block x (on_link link t) ≡ true
    → is_free n None perm.Branch block t ≡ true

-- each beat in the log is right after the earlier ones, and no Grant is disturbed after the log
pub record AreResponses {w : ℕ} (log : Log w) : Type 0 where
  pub each : EachTaken (λ earlier link x. IsRightBeat link x (trace_of earlier)) log
  pub undisturbed : IsUndisturbed (trace_of log)

-- the responses of each world are so
abbrev pub Responses : ℕ → Type 0
Responses w = (config : Config) (log : Log w) → IsGiven config log → AreResponses log
