-- At a Grant the client holds what it is granted.
-- Which deliveries are stalled: a Probe while a Release of its block is outstanding, and the last beat of a request
-- whose block is in service, or for which there is no tracker.
use Rattle.std.proofs.Common.{◌≡◌, ℕ, Bool, true, false, not, ◌&&◌, List, [], ◌∷◌, Option, Some, None, refl, sym, ◌∙◌}
use Rattle.std.proofs.Common.{ap, arith, is_none, option_map, is_some}
use Rattle.tl_coherence.proofs
use proofs.Imports.{and-false, not-false, not-true, Beat, BeatB, BeatD, Link, Channel, OpD, IsWidth, Message, MessageA}
use proofs.Imports.{MessageD, d_beat_of, channel_of, is_empty, Config, ReleaseOf, Level, Cap, Prune, Perm, Rule}
use proofs.Imports.{cap_code, cap_right, block_at, is_probe, held, pending, Op, Finish, op_block, EndConfig, Endpoint}
use proofs.Imports.{finish_of, offered, grant_opcode, Passes, must_wait, offered_as, open_level, is_access_answer}
use proofs.Imports.{Deliver, Outcome, releases_with, Answer, Grant, Kind, Packet, ReleaseAck, AcquirePhase}
use proofs.Imports.{is_unreleased, Acquires, SourceState, State, is_on, packet, AbstractState, kind_taken, IsLet, op_of}
use proofs.Imports.{AccessMessages, message_of_kind, block_message, SimulationRelation, is_caching, IsCoherent, started}
use proofs.Imports.{IsExact, Moves, is_stall, is_moving, Log, system_after, Releases, Requests, is_client, moves}
use proofs.Imports.{stalls, is_movable, one_memory_after, delivered, stepped_at, stepped, System, terms_at}
use Rattle.tl_coherence.specs.statement.Delivery.{IsReleasing, is_emptiness, outcome_of_delivery}
use Rattle.tl_client.specs.declared.operation.Op.TheVariants.{Release}
use Rattle.tl_manager.proofs.judging.Stalls.{never-stalled}
use Rattle.tl_manager.specs.statement.Offer.{Judgement, breaks_or, waits_or, is_waiting, judged_on, judged_at}
use Rattle.tl_client.specs.statement.Endpoint as client
use Rattle.tl_client.specs.statement.Offer as offer
use Rattle.tl_manager.specs.statement.End as manager_end
use Rattle.tl_manager.specs.statement.Offer as manager
use proofs.protocol.Capacities.{source_of_release}
use proofs.protocol.HeadOfD.{IsGrantDue, ack_message, answer-due, grant-due, grant-rendered, grant_message}
use proofs.queues.{Tokens.same_number, Phases.and_left, Steps.first-outcome}
use proofs.memory.BesideTaken.{IsTaken, IsTakenUp, IsTakenIn, stall-delivered, opened-started}
use proofs.links.Ending.{IsEnding, ending}
use proofs.client.DeliverD.{finish_at}
use proofs.deliveries.Matching.{matched-event}
use proofs.manager.RequestsTaken.{next_tracker}

-- ---- how a response ends its operation

pub same-response : {w : ℕ} (m n : MessageD w) → Message.D m ≡ Message.D n → m ≡ n
same-response m n e = cc

answer_grants : (w : ℕ) (o : OpD) (param size address : ℕ) (payload : List ℕ) (p : Perm) → is_access_answer o ≡ true
    → Finish.Granted p ≡ finish_of w o param size address payload → ⊥
answer_grants w o param size address payload p e f = grind arith

ack_grants : (p : Perm) → Finish.Granted p ≡ Finish.Released → ⊥
ack_grants p e = absurd cc

-- at a beat
pub granted-at : {w : ℕ} (y : BeatD w) (e : Endpoint w) (d : Bool) (k : Cap) → y.opcode ≡ grant_opcode d
    → y.param ≡ cap_code k → finish_at y e ≡ Finish.Granted (cap_right k)
granted-at {w} y e d k opcode param = grind arith

answer_at : {w : ℕ} (y : BeatD w) (e : Endpoint w) (p : Perm) → is_access_answer y.opcode ≡ true
    → Finish.Granted p ≡ finish_at y e → ⊥
answer_at {w} y e p is f = grind (arith, answer_grants)

pub released-at : {w : ℕ} (y : BeatD w) (e : Endpoint w) → y.opcode ≡ OpD.ReleaseAck → finish_at y e ≡ Finish.Released
released-at {w} y e opcode = cc opcode

same_grant : (p q : Perm) → Finish.Granted p ≡ Finish.Granted q → p ≡ q
same_grant p q e = cc

-- ---- the operation that it answers

acquired_block : (w : ℕ) (x : AcquirePhase) (n : ℕ) (bytes : List ℕ) → op_block (op_of {w = w} x n bytes) ≡ n
acquired_block w x n bytes = grind arith

pub opened-acquire : {w : ℕ} (config : Config) (log : Log w) (h : AbstractState w) (sys : System w) (c source n : ℕ)
    (u : SourceState) → SimulationRelation config log h.mail h.request h.state sys → h.state.uses c source ≡ u
    → u ≡ Acquires n → (one_memory_after config log).opened c Requests source ≡ Some
    (record { asked = op_of ((h.state.block n).pair c).acquiring n ((h.state.block n).waiting c); answer = None })
opened-acquire {w} config log h sys c source n u is e f = grind arith

same_op : {w : ℕ} (x y : Op w) → Some x ≡ Some y → x ≡ y
same_op x y e = cc

-- ---- what the client holds then

pub held_granted : {w : ℕ} (config : Config) (tracker : ℕ) {c n : ℕ} (rest : List Packet) (h : AbstractState w)
    (due : IsGrantDue c n h.state)
    → (((kind_taken config tracker c Grant n rest h).state.block n).pair c).held ≡ cap_right due.k
held_granted {w} config tracker {c} {n} rest h due = grind arith

pub granted-holds : {w : ℕ} {config : Config} {log : Log w} (link : Link) (ch : Channel) (h : AbstractState w)
    (x : Beat w) (source : ℕ) (p : Perm) (op : Op w)
    → IsWidth w → SimulationRelation config log h.mail h.request h.state (system_after config log)
    → (stepped config (Deliver link ch) (system_after config log)).outcome ≡ Outcome.Done x source (Finish.Granted p)
    → started link.0 Requests source log ≡ Some op
    → held (op_block op) ((stepped config (Deliver link ch) (system_after config log)).after.clients link.0).past ≡ p
unfolding block_message
granted-holds {w} {config} {log} link ch h x source p op width is done asked = go end.first.kind refl end.first.own
  where
    sys : System w
    sys = system_after config log

    c : ℕ
    c = link.0

    end : IsEnding config log link ch h x source (Finish.Granted p)
    end = ending _ log link ch h x source _ width is done

    n : ℕ
    n = end.first.number

    tokens : (k : Kind) → end.first.kind ≡ k → (h.state.link c).d ≡ packet k n ∷ end.first.rest
    tokens k e = end.first.tokens ∙ ap (λ i. packet i n ∷ end.first.rest) e

    response_is : (k : Kind) → end.first.kind ≡ k → message_of_kind k h.mail h.state c n ≡ Message.D end.response
    response_is k e = ap (λ i. message_of_kind i h.mail h.state c n) (sym e) ∙ end.response_is

    grant : (e : end.first.kind ≡ Grant)
        → held (op_block op) ((stepped config (Deliver link ch) sys).after.clients c).past ≡ p
    grant e =
        let due = grant-due (is_caching config) c n _ _ is.invariant (tokens Grant e) in
        let m : MessageD w = grant_message due.data_too due.k ((h.state.block n).source c) (h.state.block n).tracker
        (h.state.block n).truth in
        let same = same-response _ m (sym (response_is Grant e) ∙ grant-rendered c n h.state due) in
        let opened = opened-acquire _ log h sys c source n _ is refl
        (ap (h.state.uses c) (end.source_is ∙ ap (λ i. i.source) same) ∙ due.used) in
        let op_is = same_op op _ (sym asked ∙ sym (opened-started config log c Requests source)
        ∙ ap (λ o. option_map (λ i. i.asked) o) opened) in
        cc (
          op_is,
          acquired_block w ((h.state.block n).pair c).acquiring n ((h.state.block n).waiting c),
          ((matched-event h (Deliver link ch) width tt is).known c).held_is n,
          end.on_d,
          end.follows,
          e,
          held_granted config (next_tracker sys) end.first.rest h due,
          same_grant p (cap_right due.k) (end.finish_is ∙ granted-at _
              (sys.clients c) due.data_too due.k (ap (λ i. i.opcode) same) (ap (λ i. i.param) same)),
        )

    go : (k : Kind) → end.first.kind ≡ k → is_on Channel.D end.first.kind ≡ true
        → held (op_block op) ((stepped config (Deliver link ch) sys).after.clients c).past ≡ p
    go Grant e own = grant e
    go Answer e own =
        let due = answer-due (is_caching config) c n _ h.mail _ is.invariant (is.answered c n) (tokens Answer e) in
        let same = same-response _ _ (sym (response_is Answer e) ∙ due.answer_is) in
        absurd (answer_at (d_beat_of end.response end.first.next.k) (sys.clients c) p
        (ap (λ i. is_access_answer i.opcode) same ∙ due.answers_access) end.finish_is)
    go ReleaseAck e own =
        let m : MessageD w = ack_message ((h.state.block n).release_source c) in
        absurd (ack_grants p (end.finish_is ∙ released-at _ (sys.clients c)
        (ap (λ i. i.opcode) (same-response end.response m (sym (response_is ReleaseAck e))))))
    go k e own = absurd (let f : false ≡ true = rw e at own in cc)

-- ---- a request at the manager

waits-as-it-must : {w : ℕ} (config : Config) (link : _) (x : Beat w) (e : manager_end.End w) (a b : Option Rule)
    (must : Bool) (rest : Judgement) → is_waiting rest ≡ false
    → IsTakenIn (offered_as (breaks_or a (breaks_or b (waits_or must rest))) config link x e)
    → is_waiting (breaks_or a (breaks_or b (waits_or must rest))) ≡ must
waits-as-it-must config link x e None None true rest silent taken = refl
waits-as-it-must config link x e None None false rest silent taken = silent
waits-as-it-must config link x e a b must rest silent taken = absurd taken

passes-or-breaks : (a b : Option Rule) → is_waiting (breaks_or a (breaks_or b Passes)) ≡ false
passes-or-breaks a b = grind arith

stalled-as-it-must : {w : ℕ} (config : Config) (link : _) (ch : Channel) (x : Beat w) (e : manager_end.End w)
    → IsTakenIn (manager.offered config link ch x e)
    → manager.stalls config link ch x e ≡ must_wait config link x e.trace
unfolding judged_at manager.offered manager.stalls
stalled-as-it-must config link ch x e taken = go (open_level config link e) taken
  where
    go : (o : Option Level) → IsTakenIn (offered_as (judged_on config o link ch x e.trace) config link x e)
        → is_waiting (judged_on config o link ch x e.trace) ≡ must_wait config link x e.trace
    go None refused = absurd refused
    go (Some l) is = waits-as-it-must config link x e _ _ _ _ (passes-or-breaks _ _) is

-- ---- a Probe at a client

up-unbroken : {w : ℕ} (terms : EndConfig) (ch : Channel) (x : Beat w) (e : client.Endpoint w)
    → IsTakenUp (offered terms ch x e).answer → is_none (offer.broken_before terms ch x e) ≡ true
unfolding offered
up-unbroken terms ch x e taken =
    let go : (o : Option Rule) → IsTakenUp (offer.judged o terms x e).answer → is_none o ≡ true =
    elim [ None ↦ λ is. refl | Some r ↦ λ refused. absurd refused ] in
    go (offer.broken_before terms ch x e) taken

stalled-as-it-waits : {w : ℕ} (terms : EndConfig) (ch : Channel) (x : Beat w) (e : client.Endpoint w)
    → IsTakenUp (offered terms ch x e).answer → offer.stalls terms ch x e ≡ offer.waits x e.past
unfolding offer.stalls
stalled-as-it-waits terms ch x e taken = rw (up-unbroken terms ch x e taken) refl

-- ---- what is outstanding of a Release

module _ {w : ℕ} {config : Config} {log : Log w} {mail : AccessMessages w} {request : ℕ → MessageA w}
    {s : State (List ℕ)} (matched : SimulationRelation config log mail request s (system_after config log))
    (coherent : IsCoherent (system_after config log) log (one_memory_after config log)) (c n : ℕ) where
  releasing-started : pending (ReleaseOf n) ((system_after config log).clients c).past ≡ true → IsReleasing c n log
  releasing-started p =
      let not_kept = not-true (is_unreleased ((s.block n).pair c).letting) (sym ((matched.known c).releases n) ∙ p) in
      let let_by : s.lets c source ≡ Some n = source_of_release c n matched.invariant not_kept in
      let found = of_let (rw let_by at (matched.beside.releases c source)) in
      (source, found.0, found.1)
    where
      source : ℕ
      source = (s.block n).release_source c

      of_let : IsLet (Some n) ((one_memory_after config log).opened c Releases source)
          → (prune : Prune) × (started c Releases source log ≡ Some (Release n prune))
      of_let (p, is) = (p, sym (coherent.opened c Releases source) ∙ ap (λ o. option_map (λ x. x.asked) o) is)

  pub started-releasing : IsReleasing c n log → pending (ReleaseOf n) ((system_after config log).clients c).past ≡ true
  started-releasing (source, prune, is) = go (s.lets c source) refl (matched.beside.releases c source)
    where
      asked_is : option_map (λ x. x.asked) ((one_memory_after config log).opened c Releases source) ≡ Some
          (Release n prune)
      asked_is = coherent.opened c Releases source ∙ is

      same_release : (m : ℕ) (p : Prune) (a b : Option (Op w)) → a ≡ Some (Release m p) → b ≡ Some (Release n prune)
          → a ≡ b → m ≡ n
      same_release m p a b e f g = cc

      nothing : (x : Op w) → None ≡ Some x → ⊥
      nothing x e = absurd cc

      go : (o : Option ℕ) → s.lets c source ≡ o → IsLet o ((one_memory_after config log).opened c Releases source)
          → pending (ReleaseOf n) ((system_after config log).clients c).past ≡ true
      go None e none = absurd (nothing _ (rw none at asked_is))
      go (Some m) e (p, opened) =
          let asked : option_map (λ x. x.asked) ((one_memory_after config log).opened c Releases source) ≡ Some
          (Release m p) = rw opened refl in
          let named : releases_with c source (s.block n) ≡ true = sym (matched.invariant.named.releases c source n)
          ∙ (rw (e ∙ ap (λ i. Some i) (same_release m p _ _ asked asked_is refl)) (same_number n)) in
          (matched.known c).releases n ∙ and_left (not (is_unreleased ((s.block n).pair c).letting)) _ named

-- ---- deliveries

emptiness : {w : ℕ} (config : Config) (terms : EndConfig) (link : ℕ) (ch : Channel) (beats : List (Beat w))
    (s : System w) → is_emptiness (delivered config terms link ch beats s).outcome ≡ is_empty beats
emptiness config terms link ch [] s = refl
emptiness config terms link ch (x ∷ rest) s =
    first-outcome (λ o. is_emptiness o ≡ false) config terms link ch x rest s refl refl (λ source f. refl)

-- one that is neither empty nor stalled moves a beat
moving-else : {w : ℕ} (config : Config) (terms : EndConfig) (link : ℕ) (ch : Channel) (beats : List (Beat w))
    (s : System w) → is_emptiness (delivered config terms link ch beats s).outcome ≡ false
    → is_stall (delivered config terms link ch beats s).outcome ≡ false
    → is_moving (delivered config terms link ch beats s).outcome ≡ true
moving-else config terms link ch [] s some unstalled = absurd cc
moving-else config terms link ch (x ∷ rest) s some unstalled = first-outcome (λ o. is_stall o ≡ false
    → is_moving o ≡ true) config terms link ch x rest s (λ e. absurd cc) (λ e. refl) (λ source f e. refl) unstalled

-- a movable delivery moves a beat, where empty and stalled ones are what they should be
pub movable-moves : {w : ℕ} (config : Config) (log : Log w) (c : ℕ) (ch : Channel)
    → (is_client config c ≡ true → IsExact config log c ch)
    → is_movable config c ch (system_after config log) ≡ true → is_moving (outcome_of_delivery config log c ch) ≡ true
unfolding is_movable stepped
movable-moves {w} config log c ch exactly movable =
    go (terms_at config c) refl ((system_after config log).channels c ch) refl movable
  where
    sys : System w
    sys = system_after config log

    go : (o : Option EndConfig) → terms_at config c ≡ o → (beats : List (Beat w)) → sys.channels c ch ≡ beats
        → moves config o c ch beats sys ≡ true → is_moving (outcome_of_delivery config log c ch) ≡ true
    go (Some terms) e (x ∷ rest) f g =
        let is : IsExact config log c ch = exactly (ap is_some e) in
        let same = ap (λ o. (stepped_at config o (Deliver (record { 0 = c }) ch) sys).outcome) e in
        let some : is_emptiness (outcome_of_delivery config log c ch) ≡ false = is.empty ∙ ap is_empty f in
        let unstalled : is_stall (outcome_of_delivery config log c ch) ≡ false =
        cc (is.stalled, movable, and-false (not (is_empty (sys.channels c ch)))) in
        ap is_moving same ∙ moving-else config terms c ch _ sys (sym (ap is_emptiness same) ∙ some)
        (sym (ap is_stall same) ∙ unstalled)
    go o e beats f g = absurd cc

-- ---- exact stalls

-- what is known of the first beat of a channel: its channel, that no rule refuses it, and that on B it is a Probe
pub record IsFirst {w : ℕ} (config : Config) (terms : EndConfig) (c : ℕ) (ch : Channel) (x : Beat w)
    (sys : System w) : Type 0 where
  pub on : channel_of x ≡ ch
  pub taken : IsTaken config terms c ch x sys
  pub probes : (y : BeatB w) → x ≡ Beat.B y → is_probe y.opcode ≡ true

module _ {w : ℕ} {config : Config} {log : Log w} {mail : AccessMessages w} {request : ℕ → MessageA w}
    {s : State (List ℕ)} (matched : SimulationRelation config log mail request s (system_after config log))
    (coherent : IsCoherent (system_after config log) log (one_memory_after config log)) (c : ℕ) (terms : EndConfig)
    (is : terms_at config c ≡ Some terms) where
  movable-is : (ch : Channel) (x : Beat w) (rest : List (Beat w)) → (system_after config log).channels c ch ≡ x ∷ rest
      → is_movable config c ch (system_after config log) ≡ not (stalls config terms c ch x (system_after config log))
  unfolding is_movable
  movable-is ch x rest e = rw (is, e) refl

  outcome-is : (ch : Channel) → outcome_of_delivery config log c ch
      ≡ (delivered config terms c ch ((system_after config log).channels c ch) (system_after config log)).outcome
  unfolding stepped
  outcome-is ch = rw (outcome_of_delivery, is) refl

  moves-exactly : (ch : Channel) (x : Beat w) (rest : List (Beat w)) → (system_after config log).channels c ch
      ≡ x ∷ rest → IsFirst config terms c ch x (system_after config log) → Moves config log c x
  moves-exactly Channel.A (Beat.A y) rest e first = movable-is Channel.A _ rest e ∙ ap not (stalled-as-it-must config
      (record { 0 = c }) Channel.A (Beat.A y) (system_after config log).manager (first.taken.1 refl))
  moves-exactly Channel.C (Beat.C y) rest e first = movable-is Channel.C _ rest e
      ∙ ap not (never-stalled config (record { 0 = c }) Channel.C (Beat.C y) (system_after config log).manager refl)
  moves-exactly Channel.E (Beat.E y) rest e first = movable-is Channel.E _ rest e
      ∙ ap not (never-stalled config (record { 0 = c }) Channel.E (Beat.E y) (system_after config log).manager refl)
  moves-exactly Channel.D (Beat.D y) rest e first = movable-is Channel.D _ rest e ∙ ap not (stalled-as-it-waits terms
      Channel.D (Beat.D y) ((system_after config log).clients c) (first.taken.0 refl))
  moves-exactly Channel.B (Beat.B y) rest e first =
      let waits : is_movable config c Channel.B (system_after config log)
      ≡ not (pending (ReleaseOf (block_at y.address)) ((system_after config log).clients c).past) =
      movable-is Channel.B _ rest e ∙ ap not (stalled-as-it-waits terms Channel.B (Beat.B y)
      ((system_after config log).clients c) (first.taken.0 refl) ∙ rw (first.probes y refl) refl) in
      let there : is_movable config c Channel.B (system_after config log) ≡ false → IsReleasing c
      (block_at y.address) log = λ h. releasing-started matched coherent c (block_at y.address) (not-false _ (cc)) in
      (there, (λ h. waits ∙ ap not (started-releasing matched coherent c (block_at y.address) h)))
  moves-exactly ch x rest e first = absurd (let on = first.on in cc)

  pub exact : (ch : Channel) → ((x : Beat w) (rest : List (Beat w)) → (system_after config log).channels c ch ≡ x ∷ rest
      → IsFirst config terms c ch x (system_after config log)) → IsExact config log c ch
  exact ch firsts = record {
    empty = ap is_emptiness (outcome-is ch) ∙ emptiness config terms c ch ((system_after config log).channels c ch)
        (system_after config log);
    stalled = stall ((system_after config log).channels c ch) refl;
    moves = λ x rest e. moves-exactly ch x rest e (firsts x rest e);
  }
    where
      not_not : (b : Bool) → b ≡ not (not b)
      not_not b = grind arith

      stall : (beats : List (Beat w)) → (system_after config log).channels c ch ≡ beats
          → is_stall (outcome_of_delivery config log c ch) ≡ not (is_empty ((system_after config log).channels c ch))
          && not (is_movable config c ch (system_after config log))
      stall [] e = rw (outcome-is ch, e) refl
      stall (x ∷ rest) e = ap is_stall (outcome-is ch)
          ∙ rw (movable-is ch x rest e, e) (stall-delivered config terms c ch x rest (system_after config log)
          (firsts x rest e).taken ∙ not_not (stalls config terms c ch x (system_after config log)))
