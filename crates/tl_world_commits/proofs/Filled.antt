-- What a Grant that is under way on a link of a world has brought is what the one memory has.
use Rattle.std.proofs.Common.{◌≡◌, ℕ, zero, suc, ◌+◌, ◌*◌, ◌/◌, ◌%◌, ◌<◌, Bool, true, false, ◌&&◌, List, ◌∷◌}
use Rattle.std.proofs.Common.{length, refl, sym, ◌∙◌, ap, subst, arith, None, Some}
use Rattle.std.specs.Prelude.{if◌then◌else◌, Option, nat_lt, slice_index}
use Rattle.std.proofs.Math.Nat.{div-add-mod}
use Rattle.tl_beat.specs.declared.beat.Beat.{Beat}
use Rattle.tl_beat.specs.declared.channel.Channel.{Channel}
use Rattle.tl_burst.specs.declared.message.Message.{Message}
use Rattle.tl_burst.specs.declared.message.MessageD.{MessageD}
use Rattle.tl_burst.specs.statement.Burst.{begun}
use Rattle.tl_burst.specs.statement.Messages.{History}
unfoldable use Rattle.tl_burst.specs.statement.Messages.{unfinished}
use Rattle.tl_params.specs.declared.config.Config.{Config}
unfoldable use Rattle.tl_rules.specs.statement.Conformance.{on_link}
use Rattle.tl_rules.specs.statement.History.{block_at, is_grant}
use Rattle.tl_bytes.specs.statement.Bytes.{could_be}
unfoldable use Rattle.tl_bytes.specs.statement.Bytes.{carried_byte}
use Rattle.tl_coherence.specs.protocol.Packet.{Answer, Grant, Kind, Packet, ReleaseAck}
use Rattle.tl_coherence.specs.protocol.Protocol.{is_on, packet}
use Rattle.tl_coherence.specs.refinement.AbstractStep.{AbstractState}
use Rattle.tl_coherence.specs.refinement.PacketMessages.{message_of_kind}
unfoldable use Rattle.tl_coherence.specs.refinement.PacketMessages.{block_message}
use Rattle.tl_coherence.specs.refinement.SimulationRelation.{MonitorRelations, SimulationRelation, is_caching}
unfoldable use Rattle.tl_coherence.specs.statement.Flow.{flow, trace_of}
use Rattle.tl_coherence.specs.statement.Headline.{IsGiven}
use Rattle.tl_coherence.specs.statement.Log.{Log}
unfoldable use Rattle.tl_coherence.specs.statement.Log.{system_after}
unfoldable use Rattle.tl_coherence.specs.statement.OneMemory.{one_memory_after}
use Rattle.tl_coherence.proofs.client.HalfTaken.{half-taken}
use Rattle.tl_coherence.proofs.deliveries.Matching.{shadow}
use Rattle.tl_coherence.proofs.flow.FlowTraces.{trace-flows}
use Rattle.tl_coherence.proofs.flow.Flows.{flowed}
use Rattle.tl_coherence.proofs.flow.NextOnD.{grant_sent}
use Rattle.tl_coherence.proofs.links.FromInvariant.{matched-given}
use Rattle.tl_coherence.proofs.protocol.HeadOfD.{IsGrantDue, ack_message, answer-due}
use Rattle.tl_coherence.proofs.protocol.HeadOfD.{grant-due, grant-rendered}
use Rattle.tl_coherence.proofs.queues.Codes.{access_kind}
use Rattle.tl_coherence.proofs.queues.Phases.{and_right}
use Rattle.tl_concord.proofs.Carried.{carried-begun}
use Rattle.tl_concord.proofs.GrantAsked.{grant-block}
use Rattle.tl_concord.proofs.GrantTold.{grant_lanes}
use Rattle.tl_commits.specs.statement.Copies.{brought, is_filled_by, is_filling}

module _ {w : ℕ} (config : Config) (log : Log w) (given : IsGiven config log) (c n : ℕ) where
  abbrev h : AbstractState w
  h = shadow config log

  is : SimulationRelation config log h.mail h.request h.state (system_after config log)
  is = matched-given config log given

  values : MonitorRelations log h.mail h.state (system_after config log)
  values = flowed config log given.width given.typed given.is_log

  -- beats of a Grant that is due
  pub record IsOfGrant (beats : List (Beat w)) : Type 0 where
    pub due : IsGrantDue c n h.state
    pub k : ℕ
    pub beats_are : beats ≡ begun (Message.D (grant_sent c n h.state due)) k

  never : {A : Type 0} (m : MessageD w) (j : ℕ) → is_grant m.opcode ≡ false
      → is_filled_by n (begun (Message.D m) j) (flow c log) ≡ true → A
  never m zero e filled = absurd cc
  never m (suc j) e filled = absurd (let no : false ≡ true = rw e at filled in cc)

  of-grant : is_filled_by n (unfinished Channel.D (flow c log)) (flow c log) ≡ true
      → IsOfGrant (unfinished Channel.D (flow c log))
  unfolding block_message
  of-grant = subst (λ (beats : List (Beat w)). is_filled_by n beats (flow c log) ≡ true → IsOfGrant beats)
      (sym ((values c).rest_is Channel.D))
      (half-taken c Channel.D (λ beats. is_filled_by n beats (flow c log) ≡ true → IsOfGrant beats) is (λ e. absurd cc)
      each)
    where
      answer : (m : Message w) (a : MessageD w) (j : ℕ) → m ≡ Message.D a → is_grant a.opcode ≡ false
          → is_filled_by n (begun m j) (flow c log) ≡ true → IsOfGrant (begun m j)
      answer m a j e off filled =
          never a j off (subst (λ (i : Message w). is_filled_by n (begun i j) (flow c log) ≡ true) e filled)

      of-block : (i : ℕ) (due : IsGrantDue c i h.state) (m : Message w) (j : ℕ)
          → m ≡ Message.D (grant_sent c i h.state due) → is_filled_by n (begun m j) (flow c log) ≡ true
          → IsOfGrant (begun m j)
      of-block i due m j e filled =
          at (same j (subst (λ (k : Message w). is_filled_by n (begun k j) (flow c log) ≡ true)
          e filled))
        where
          same : (k : ℕ) → is_filled_by n (begun (Message.D (grant_sent c i h.state due)) k) (flow c log) ≡ true → i ≡ n
          same zero f = absurd cc
          same (suc k) f = grant-block config log given c i due ((h.state.block i).source c) refl n
              (and_right (is_grant (grant_sent {w = w} c i h.state due).opcode) _ f)

          at : i ≡ n → IsOfGrant (begun m j)
          at here = subst (λ (b : ℕ). (d : IsGrantDue c b h.state) → m ≡ Message.D (grant_sent c b h.state d)
              → b ≡ n → IsOfGrant (begun m j)) (sym here)
              (λ d f same. record { due = d; k = j; beats_are = ap (λ (k : Message w). begun k j) f }) due e here

      acked : (i : ℕ) → message_of_kind ReleaseAck h.mail h.state c i
          ≡ Message.D (ack_message ((h.state.block i).release_source c))
      acked i = refl

      each : (k : Kind) (i : ℕ) (rest : List Packet) (j : ℕ) → (h.state.link c).d ≡ packet k i ∷ rest
          → is_on Channel.D k ≡ true
          → is_filled_by n (begun (message_of_kind k h.mail h.state c i) j) (flow c log) ≡ true
          → IsOfGrant (begun (message_of_kind k h.mail h.state c i) j)
      each Answer i rest j first own =
          let due = answer-due (is_caching config) c i rest h.mail h.state is.invariant (is.answered c i) first in
          answer (h.mail.answer c i) due.answer j due.answer_is (access_kind due.answer.opcode due.answers_access).0
      each ReleaseAck i rest j first own = answer _ (ack_message ((h.state.block i).release_source c)) j (acked i) refl
      each Grant i rest j first own =
          let due = grant-due (is_caching config) c i rest h.state is.invariant first in
          of-block i due _ j (grant-rendered c i h.state due)
      each k i rest j first own = absurd cc

  -- the beats of the link
  abbrev past : History w
  past = on_link c (trace_of log)

  as-flow : is_filling n past ≡ true → is_filled_by n (unfinished Channel.D (flow c log)) (flow c log) ≡ true
  as-flow e = sym (ap (λ (t : History w). is_filled_by n (unfinished Channel.D t) t) (trace-flows c log)) ∙ e

  pub filled : is_filling n past ≡ true → (place : ℕ) → place < 64
      → could_be ((one_memory_after config log).memory (64 * n + place))
      (carried_byte (unfinished Channel.D past) place)
      ≡ true
  filled e place lt =
      let of = of-grant (as-flow e) in
      rw (is.beside.memory n place lt)
      (ap (λ (t : History w). could_be (slice_index (h.state.block n).truth place)
      (carried_byte (unfinished Channel.D t)
      place)) (trace-flows c log)
      ∙ ap (λ (beats : List (Beat w)). could_be (slice_index (h.state.block n).truth place) (carried_byte beats place))
      of.beats_are
      ∙ carried-begun (Message.D (grant_sent c n h.state of.due)) of.due.data_too (h.state.block n).truth
      (grant_lanes w of.due.data_too of.due.k ((h.state.block n).source c) (h.state.block n).tracker
      (h.state.block n).truth) of.k place)

-- ---- what a load may bring

module _ {w : ℕ} (config : Config) (log : Log w) (given : IsGiven config log) (c address : ℕ) where
  abbrev v : ℕ
  v = (one_memory_after config log).memory address

  -- a byte that a Grant under way has brought may be that of memory
  pub brought-so : (value : Option ℕ) → brought address (on_link c (trace_of log)) ≡ Some value
      → could_be v value ≡ true
  brought-so value e = go (is_filling (block_at address) (on_link c (trace_of log))) refl (nat_lt (address % 64 / w)
      (length (unfinished Channel.D (on_link c (trace_of log))))) e
    where
      place : 64 * block_at address + address % 64 ≡ address
      place = div-add-mod address 64

      small : address % 64 < 64
      small = omega arith

      same : (a b : Option ℕ) → Some a ≡ Some b → could_be v a ≡ true → could_be v b ≡ true
      same a b f could = subst (λ (o : Option ℕ). could_be v o ≡ true) (inner f) could
        where
          inner : Some a ≡ Some b → a ≡ b
          inner g = cc

      go : (a : Bool) → is_filling (block_at address) (on_link c (trace_of log)) ≡ a → (b : Bool)
          → (if a && b then Some (carried_byte (unfinished Channel.D (on_link c (trace_of log))) (address % 64)) else
          None)
          ≡ Some value → could_be v value ≡ true
      go true f true g = same _ value g (subst (λ (i : ℕ). could_be ((one_memory_after config log).memory i)
          (carried_byte (unfinished Channel.D (on_link c (trace_of log))) (address % 64)) ≡ true) place
          (filled config log given c (block_at address) f (address % 64) small))
      go true f false g = absurd cc
      go false f b g = absurd cc
