-- The requests and answers of accesses are those of the one memory's open operations, beat by beat.
use Rattle.std.specs.Prelude.{ℕ, true, ◌∷◌, ◌≡◌, Some, None, ⊤}
use Rattle.tl_beat.specs.declared.beat.Beat.{Beat}
use Rattle.tl_beat.specs.declared.beat.Beat.TheVariants as beat
use Rattle.tl_beat.specs.declared.beat.BeatA.{BeatA}
use Rattle.tl_beat.specs.declared.beat.BeatD.{BeatD}
use Rattle.tl_burst.specs.declared.message.Message.{Message}
use Rattle.tl_burst.specs.declared.message.Message.TheVariants as message
use Rattle.tl_burst.specs.declared.message.MessageA.{MessageA}
use Rattle.tl_burst.specs.statement.Burst.{beats_of, begun}
use Rattle.tl_burst.specs.statement.Messages.{History, channel_of, unfinished}
use Rattle.tl_params.specs.declared.config.Config.{Config}
use Rattle.tl_rules.specs.statement.Conformance.{Trace, on_link}
use Rattle.tl_rules.specs.statement.Effect.{AccessResult, answer_of}
use Rattle.tl_rules.specs.statement.History.{ends}
use Rattle.tl_bytes.specs.statement.Bytes.{is_access}
use Rattle.tl_client.specs.declared.operation.Op.TheVariants.{Access}
use Rattle.tl_client.specs.statement.Send.{sourced}
use Rattle.tl_manager.specs.statement.Handing.{access_answer}
use Rattle.tl_manager.specs.statement.Service.{is_access_answer}
use Rattle.tl_coherence.specs.statement.Flow.{EachTaken, trace_of}
use Rattle.tl_coherence.specs.statement.Headline.{IsGiven}
use Rattle.tl_coherence.specs.statement.Log.{Log}
use Rattle.tl_coherence.specs.statement.Machine.{Machine, Requests}
use Rattle.tl_coherence.specs.statement.OneMemory.{one_memory_after}

-- with this beat `count` beats of the message have come: all of them if the beat completes it
pub record HasCome {w : ℕ} (m : Message w) (x : Beat w) (past : History w) : Type 0 where
  pub count : ℕ
  pub burst_is : x ∷ unfinished (channel_of x) past ≡ begun m count
  pub whole : ends x past ≡ true → count ≡ beats_of m

-- the beat is of the request of an access that the client has open, and that isn't performed
pub record IsAsked {w : ℕ} (machine : Machine w) (link : ℕ) (x : BeatA w) (t : Trace w) : Type 0 where
  pub asked : MessageA w
  pub opened : machine.opened link Requests x.source ≡ Some (record { asked = Access (message.A asked); answer = None })
  pub has_come : HasCome (message.A (sourced x.source asked)) (beat.A x) (on_link link t)

-- the beat is of the answer to an access that the client has open, with the result that it was performed with
pub record IsAnswered {w : ℕ} (machine : Machine w) (link : ℕ) (x : BeatD w) (t : Trace w) : Type 0 where
  pub asked : MessageA w
  pub result : AccessResult
  pub opened : machine.opened link Requests x.source
      ≡ Some (record { asked = Access (message.A asked); answer = Some result })
  pub has_come : HasCome
      (access_answer (sourced x.source asked) (answer_of (message.A (sourced x.source asked)) result))
      (beat.D x) (on_link link t)

-- the same for a beat that is of the request of an access or of its answer
abbrev pub IsOfAccess : {w : ℕ} → Machine w → ℕ → Beat w → Trace w → Type 0
IsOfAccess machine link (beat.A x) t = is_access x.opcode ≡ true → IsAsked machine link x t
IsOfAccess machine link (beat.D x) t = is_access_answer x.opcode ≡ true → IsAnswered machine link x t
IsOfAccess machine link _ t = ⊤

-- each delivered beat is such a beat, by the one memory as it was at that moment
abbrev pub CarriesAccesses : ℕ → Type 0
CarriesAccesses w = (config : Config) (log : Log w) → IsGiven config log
    → EachTaken (λ earlier link x. IsOfAccess (one_memory_after config earlier) link x (trace_of earlier)) log
