-- The requests and answers of accesses are those of the one memory's open operations.
use Rattle.tl_concord.proofs.Imports.{Beat, BeatA, BeatD, OpD, Message, beat_of, begun, d_beat_of, History, channel_of}
use Rattle.tl_concord.proofs.Imports.{unfinished, Config, on_link, sourced, is_access_answer, Acquire, Answer, Grant}
use Rattle.tl_concord.proofs.Imports.{Kind, ReleaseAck, Request, SourceState, is_on}
use Rattle.tl_concord.proofs.Imports.{packet, AbstractState, IsOpened, block_message, message_of, message_of_kind}
use Rattle.tl_concord.proofs.Imports.{MonitorRelations, SimulationRelation, is_caching, trace_of, IsGiven, Log}
use Rattle.tl_concord.proofs.Imports.{system_after, Requests, one_memory_after, each-taken, trace-flows, flowed}
use Rattle.tl_concord.proofs.Imports.{matched-given, answer-due, grant-due, grant-rendered, IsNext, IsFirst}
use Rattle.tl_concord.proofs.Imports.{first-token, holds-first}
use Rattle.std.proofs.Common.{◌≡◌, ℕ, true, false, ◌+◌, List, ◌∷◌, Some, None, refl, sym, ◌∙◌, ap, subst, arith}
use Rattle.std.{specs.Prelude.◌==◌, specs.Prelude.map, specs.Prelude.suc, proofs.lemmas.Bool.eqb-true}
use Rattle.tl_beat.specs.declared.channel.Channel.{Channel}
use Rattle.tl_burst.{specs.declared.message.MessageA.MessageA, specs.statement.Burst.a_beat_of}
use Rattle.tl_burst.{specs.statement.Burst.beats_of, specs.statement.Part.completes}
use Rattle.tl_rules.specs.statement.Effect.{AccessResult, answer_of}
use Rattle.tl_bytes.specs.statement.Bytes.{is_access}
use Rattle.tl_manager.specs.statement.Handing.{access_answer}
use Rattle.tl_coherence.specs.{protocol.Invariant.is_asked, refinement.MemoryRelation.Answers}
use Rattle.tl_coherence.specs.{refinement.MemoryRelation.IsAccess, refinement.PacketMessages.acquire_of}
use Rattle.tl_coherence.specs.{statement.Machine.Machine}
use Rattle.tl_coherence.specs.protocol.Phase.{AcquireOpen, AcquirePhase}
use Rattle.tl_coherence.proofs.{deliveries.Matching.shadow, flow.Windowed.grants_no_access}
use Rattle.tl_coherence.proofs.{protocol.BothParts.is_asked-is}
use Rattle.tl_concord.proofs.Beats.{same_a, same_d}
use Rattle.tl_concord.specs.statement.Accesses.{CarriesAccesses, HasCome, IsAnswered, IsAsked, IsOfAccess}

-- the beat that is next of a message
come-next : {w : ℕ} (m : Message w) (x : Beat w) (past : History w) (k : ℕ) → x ≡ beat_of m k
    → unfinished (channel_of x) past ≡ begun m k → completes x (unfinished (channel_of x) past) ≡ (k + 1 == beats_of m)
    → HasCome m x past
come-next m x past k beat_is rest_is completes_is = record {
  count = suc k;
  burst_is = ap (λ r. x ∷ r) rest_is ∙ ap (λ y. y ∷ begun m k) beat_is;
  whole = λ last. one (eqb-true (k + 1) (beats_of m) (sym completes_is ∙ last));
}
  where
    one : k + 1 ≡ beats_of m → suc k ≡ beats_of m
    one e = omega (arith, e)

acquire_is_none : {w : ℕ} (phase : AcquirePhase) (source n k : ℕ) (y : BeatA w)
    → Beat.A y ≡ beat_of (acquire_of phase source n) k → is_access y.opcode ≡ false
acquire_is_none (AcquireOpen true g) source n k y e = ap (λ (z : BeatA _). is_access z.opcode) (same_a y _ e)
acquire_is_none v source n k y e = ap (λ (z : BeatA _). is_access z.opcode) (same_a y _ e)

module _ {w : ℕ} (config : Config) (log : Log w) (given : IsGiven config log) (c : ℕ) where
  abbrev h : AbstractState w
  h = shadow config log

  abbrev machine : Machine w
  machine = one_memory_after config log

  is : SimulationRelation config log h.mail h.request h.state (system_after config log)
  is = matched-given config log given

  values : MonitorRelations log h.mail h.state (system_after config log)
  values = flowed config log given.width given.typed given.is_log

  -- ---- requests

  asked-next : (y : BeatA w) (queue : List (Beat w)) → (system_after config log).channels c Channel.A ≡ Beat.A y ∷ queue
      → is_access y.opcode ≡ true → IsAsked machine c y (trace_of log)
  unfolding block_message
  asked-next y queue beats accesses = go first.kind first.number first.tokens first.own first.next
    where
      first : IsFirst Channel.A c h.mail h.state (system_after config log) (Beat.A y) queue
      first = first-token (is_caching config) Channel.A c h.mail h.state (system_after config log) (Beat.A y) queue
          given.width is.invariant is.carried beats

      Next : Kind → ℕ → Type 0
      Next k i = IsNext (Beat.A y) (unfinished Channel.A (on_link c (system_after config log).manager.trace))
          (message_of_kind k h.mail h.state c i) (map (message_of h.mail h.state c) first.rest) queue

      asks : (i k : ℕ) → (request : Message w) → Beat.A y ≡ beat_of request k
          → unfinished Channel.A (on_link c (system_after config log).manager.trace) ≡ begun request k
          → completes (Beat.A y) (unfinished Channel.A (on_link c (system_after config log).manager.trace))
          ≡ (k + 1 == beats_of request)
          → IsAccess i request None (machine.opened c Requests i) → IsAsked machine c y (trace_of log)
      asks i k request beat_is rest_is last_is (m, request_is, opened) = record {
        asked = m;
        opened = ap (machine.opened c Requests) from ∙ opened;
        has_come = come-next (Message.A (sourced y.source m)) (Beat.A y) (on_link c (trace_of log)) k
            (beat_is ∙ ap (λ (z : Message w). beat_of z k) same) (rests ∙ rest_is ∙ ap (λ (z : Message w). begun z k)
            same) (ap (completes (Beat.A y)) rests ∙ last_is ∙ ap (λ (z : Message w). k + 1 == beats_of z) same);
      }
        where
          from : y.source ≡ i
          from = ap (λ (z : BeatA w). z.source)
              (same_a y (a_beat_of (sourced i m) k) (beat_is ∙ ap (λ (z : Message w). beat_of z k) request_is))

          same : request ≡ Message.A (sourced y.source m)
          same = request_is ∙ ap (λ (j : ℕ). Message.A (sourced j m)) (sym from)

          rests : unfinished Channel.A (on_link c (trace_of log))
              ≡ unfinished Channel.A (on_link c (system_after config log).manager.trace)
          rests = ap (unfinished Channel.A) (trace-flows c log) ∙ (values c).rest_is Channel.A

      go : (k : Kind) (i : ℕ) → (h.state.link c).a ≡ packet k i ∷ first.rest → is_on Channel.A k ≡ true → Next k i
          → IsAsked machine c y (trace_of log)
      go Request i tokens own next =
          asks i next.k (h.mail.request c i) next.beat_is next.rest_is next.completes_is
          (subst (λ (u : SourceState). IsOpened c i h.mail h.state u (machine.opened c Requests i))
          (is_asked-is (h.state.uses c i) (holds-first Request (h.state.link c).a first.rest (packet Request i)
          (λ j. is_asked (h.state.uses c j)) tokens refl (is.invariant.requests c))) (is.beside.requests c i))
      go Acquire i tokens own next = absurd (let no : false ≡ true =
          sym (acquire_is_none ((h.state.block i).pair c).acquiring ((h.state.block i).source c) i next.k y
          next.beat_is)
          ∙ accesses in cc)
      go v i tokens own next = absurd cc

  -- ---- answers

  answered-next : (y : BeatD w) (queue : List (Beat w)) → (system_after config log).channels c Channel.D ≡ Beat.D
      y ∷ queue → is_access_answer y.opcode ≡ true → IsAnswered machine c y (trace_of log)
  unfolding block_message
  answered-next y queue beats answers = go first.kind first.number first.tokens first.own first.next
    where
      first : IsFirst Channel.D c h.mail h.state (system_after config log) (Beat.D y) queue
      first = first-token (is_caching config) Channel.D c h.mail h.state (system_after config log) (Beat.D y) queue
          given.width is.invariant is.carried beats

      Next : Kind → ℕ → Type 0
      Next k i = IsNext (Beat.D y) (unfinished Channel.D ((system_after config log).clients c).past)
          (message_of_kind k h.mail h.state c i) (map (message_of h.mail h.state c) first.rest) queue

      says : (i k : ℕ) → y.source ≡ i → (request answer : Message w) → Beat.D y ≡ beat_of answer k
          → unfinished Channel.D ((system_after config log).clients c).past ≡ begun answer k
          → completes (Beat.D y) (unfinished Channel.D ((system_after config log).clients c).past)
          ≡ (k + 1 == beats_of answer) → (r : AccessResult) → IsAccess i request (Some r) (machine.opened c Requests i)
          → Answers request r answer → IsAnswered machine c y (trace_of log)
      says i k from request answer beat_is rest_is last_is r (m, request_is, opened) says_so = record {
        asked = m;
        result = r;
        opened = ap (machine.opened c Requests) from ∙ opened;
        has_come = come-next (answered (sourced y.source m)) (Beat.D y) (on_link c (trace_of log)) k
            (beat_is ∙ ap (λ (z : Message w). beat_of z k) same) (rests ∙ rest_is ∙ ap (λ (z : Message w). begun z k)
            same) (ap (completes (Beat.D y)) rests ∙ last_is ∙ ap (λ (z : Message w). k + 1 == beats_of z) same);
      }
        where
          answered : MessageA w → Message w
          answered n = access_answer n (answer_of (Message.A n) r)

          same : answer ≡ answered (sourced y.source m)
          same = (subst (λ (z : Message w). Answers z r answer) request_is says_so).0
              ∙ ap (λ (j : ℕ). answered (sourced j m)) (sym from)

          rests : unfinished Channel.D (on_link c (trace_of log))
              ≡ unfinished Channel.D ((system_after config log).clients c).past
          rests = ap (unfinished Channel.D) (trace-flows c log) ∙ (values c).rest_is Channel.D

      no_answer : {o : OpD} → y.opcode ≡ o → is_access_answer o ≡ false → IsAnswered machine c y (trace_of log)
      no_answer e f = absurd (let no : false ≡ true = sym f ∙ sym (ap is_access_answer e) ∙ answers in cc)

      go : (k : Kind) (i : ℕ) → (h.state.link c).d ≡ packet k i ∷ first.rest → is_on Channel.D k ≡ true → Next k i
          → IsAnswered machine c y (trace_of log)
      go Answer i tokens own next =
          let due = answer-due (is_caching config) c i first.rest h.mail h.state is.invariant (is.answered c i) tokens
          in
          let opened = subst (λ (u : SourceState). IsOpened c i h.mail h.state u (machine.opened c Requests i)) due.used
          (is.beside.requests c i) in
          says i next.k
          (ap (λ (z : BeatD w). z.source) (same_d y (d_beat_of due.answer next.k)
          (next.beat_is ∙ ap (λ (z : Message w). beat_of z next.k) due.answer_is)) ∙ due.from)
          (h.mail.request c i) (h.mail.answer c i) next.beat_is next.rest_is next.completes_is opened.0 opened.1
          opened.2
      go Grant i tokens own next =
          let due = grant-due (is_caching config) c i first.rest h.state is.invariant tokens in
          no_answer (ap (λ (z : BeatD w). z.opcode) (same_d y _
          (next.beat_is ∙ ap (λ (z : Message w). beat_of z next.k) (grant-rendered c i h.state due))))
          (grants_no_access due.data_too)
      go ReleaseAck i tokens own next = no_answer (ap (λ (z : BeatD w). z.opcode) (same_d y _ next.beat_is)) refl
      go v i tokens own next = absurd cc

of-access : {w : ℕ} (config : Config) (log : Log w) → IsGiven config log → (c : ℕ) (x : Beat w) (queue : List (Beat w))
    → (system_after config log).channels c (channel_of x) ≡ x ∷ queue
    → IsOfAccess (one_memory_after config log) c x (trace_of log)
of-access config log given c (Beat.A y) queue beats = asked-next config log given c y queue beats
of-access config log given c (Beat.D y) queue beats = answered-next config log given c y queue beats
of-access config log given c v queue beats = tt

pub carries_accesses : {w : ℕ} → CarriesAccesses w
carries_accesses config log given =
    each-taken config (λ earlier link x. IsOfAccess (one_memory_after config earlier) link x (trace_of earlier))
    (of-access config) log given
