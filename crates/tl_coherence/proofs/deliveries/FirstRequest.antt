-- The request that is first on channel A: it is taken, or has to wait.
-- A delivery on channel A: what is first there, that it is taken unless it has to wait, and the manager's end
-- afterwards.
use Rattle.std.proofs.Common.{◌≡◌, ℕ, suc, ◌+◌, ◌<◌, Bool, true, false, ◌==◌, if◌then◌else◌, List, [], ◌∷◌, Some, None}
use Rattle.std.proofs.Common.{refl, sym, ◌∙◌, ap, subst, arith, inl, length, eqb-true, map, nat_le}
use Rattle.tl_coherence.proofs
use proofs.queues.FirstToken.{first-token}
use proofs.Imports.{is_caching, is_on}
use proofs.Imports.{or_parts, Beat, Channel, IsWidth, length-begun, Message, MessageA, IsBlankAfter, a_beat_of}
use proofs.Imports.{beats_of, begun, unfinished, completes, Config, is_last, not_last, broken_in_order, on_link}
use proofs.Imports.{block_at, ends, same_block, EndConfig, reaction-part, End, before_stall, must_wait, reaction}
use proofs.Imports.{is_in_service, services, Deliver, Outcome, Acquire, Kind, Packet, Request, Free, on, packet}
use proofs.Imports.{AbstractState, abstract_delivery, abstract_step, kind_taken, packet_taken}
use proofs.Imports.{ChannelRelation, MemoryRelation, message_of, SimulationRelation, Log, Machine, accesses_answered}
use proofs.Imports.{performing, Step, handing, manager_took, only, stepped, System, terms_at, with_channel}
use proofs.Imports.{with_manager}
use Rattle.tl_coherence.specs.refinement.AbstractStep as follow
use Rattle.tl_manager.specs.statement.Offer.{offered}
use Rattle.tl_manager.specs.statement.Offer as manager
use proofs.memory.BesideRequests.{IsOnce, acquire-accesses, beside-request_taken, beside-acquire_taken, request-once}
use proofs.manager.{Performing.end_after, Performing.at_manager-more, Accounts.at_manager-matched, Memories.IsManagerOf}
use proofs.manager.Probing.{link_of, ends-coming, IsComing, IsUnwaited}
use proofs.manager.RequestsTaken.{next_tracker, unwaited-asked, ready-request, at_manager-request_taken, acquire_wanted}
use proofs.manager.RequestsTaken.{ready-acquire, at_manager-acquire_taken}
use proofs.manager.Admitted.{order-access, order-acquire, early-acquire, unserved-free, first-beat, passes-first}
use proofs.manager.Admitted.{waits-first, offered-taken, offered-stalled}
use proofs.queues.{Tokens.same_number, Carried.IsNext}
use proofs.queues.Steps.{manager-with_messages, stepped-empty, stepped-to-manager}
use proofs.deliveries.CarriedRequests.{carried-more, system_after, carried-request_taken, carried-acquire_taken}
use proofs.protocol.HeadOfD.{IsReady}
use proofs.protocol.Room.{IsAsked, asked-first, IsWanted, wanted-first, acquisition-blank, acquisition_beats, front-of}

-- ---- the request that is first

-- The first token of channel A is of this request, and what comes of its beats.
pub record IsOnLink {w : ℕ} (config : Config) (h : AbstractState w) (sys : System w) (c : ℕ) (kind : Kind) (i : ℕ)
    (rest : List Packet) (m : MessageA w) : Type 0 where
  pub tokens : (h.state.link c).a ≡ packet kind i ∷ rest
  pub on_it : on kind (h.state.link c) ≡ packet kind i ∷ rest
  pub renders : message_of h.mail h.state c (packet kind i) ≡ Message.A m
  pub blank : IsBlankAfter (beats_of (Message.A m)) (Message.A m)
  pub order : (k : ℕ) → k < beats_of (Message.A m) → unfinished Channel.A (on_link c sys.manager.trace)
      ≡ begun (Message.A m) k → must_wait config (link_of c) (Beat.A (a_beat_of m k)) sys.manager.trace ≡ false
      → broken_in_order config.profile (Beat.A (a_beat_of m k)) (on_link c sys.manager.trace) ≡ None
  pub early : (k : ℕ) → unfinished Channel.A (on_link c sys.manager.trace) ≡ begun (Message.A m) k
      → before_stall (broken_in_order config.profile (Beat.A (a_beat_of m k)) (on_link c sys.manager.trace)) ≡ None
  pub unwaited : (k : ℕ) → k + 1 < beats_of (Message.A m) → IsUnwaited c m.source h.state
  pub ready : (k : ℕ) → IsComing config c k m sys.manager → beats_of (Message.A m) ≡ suc k
      → must_wait config (link_of c) (Beat.A (a_beat_of m k)) sys.manager.trace ≡ false
      → IsReady (next_tracker sys) c kind i h
  pub after : (k : ℕ) → IsComing config c k m sys.manager → beats_of (Message.A m) ≡ suc k
      → must_wait config (link_of c) (Beat.A (a_beat_of m k)) sys.manager.trace ≡ false
      → IsManagerOf config (kind_taken config (next_tracker sys) c kind i rest h) (end_after config c k m sys.manager)
  pub carried : (k : ℕ) (queue : List (Beat w)) → IsComing config c k m sys.manager
      → sys.channels c Channel.A ≡ Beat.A (a_beat_of m k) ∷ queue → beats_of (Message.A m) ≡ suc k
      → must_wait config (link_of c) (Beat.A (a_beat_of m k)) sys.manager.trace ≡ false
      → ChannelRelation (kind_taken config (next_tracker sys) c kind i rest h).mail
      (kind_taken config (next_tracker sys) c kind i rest h).state (system_after config c k m queue sys)
  pub beside : (k : ℕ) (machine : Machine w) → IsComing config c k m sys.manager → beats_of (Message.A m) ≡ suc k
      → MemoryRelation h.mail h.state machine
      → MemoryRelation (kind_taken config (next_tracker sys) c kind i rest h).mail
      (kind_taken config (next_tracker sys) c kind i rest h).state
      (performing (accesses_answered (reaction config (link_of c) (Beat.A (a_beat_of m k)) sys.manager).handed) machine)
  pub once : (k : ℕ) (machine : Machine w) → IsComing config c k m sys.manager → beats_of (Message.A m) ≡ suc k
      → MemoryRelation h.mail h.state machine
      → IsOnce (accesses_answered (reaction config (link_of c) (Beat.A (a_beat_of m k)) sys.manager).handed) h machine

pub ends-burst : {w : ℕ} (c k : ℕ) (m : MessageA w) (e : End w) → unfinished Channel.A (on_link c e.trace)
    ≡ begun (Message.A m) k → ends (Beat.A (a_beat_of m k)) (on_link c e.trace) ≡ (k + 1 == beats_of (Message.A m))
ends-burst c k m e burst = rw (burst, length-begun (Message.A m) k) refl

on_link-access : {w : ℕ} {config : Config} {log : Log w} (h : AbstractState w) {sys : System w} {c source : ℕ}
    (rest : List Packet)
    → SimulationRelation config log h.mail h.request h.state sys → (h.state.link c).a ≡ packet Request source ∷ rest
    → (asked : IsAsked config c source h.mail h.state) → IsOnLink config h sys c Request source rest asked.request
on_link-access {w} {config} {log} h {sys} {c} {source} rest is first asked = record {
  tokens = first;
  on_it = first;
  renders = asked.is_it;
  blank = asked.blank;
  order = λ k lt burst moves. order-access c _ asked.request k is asked.used asked.source_is asked.access burst;
  early = λ k burst. ap before_stall (order-access c source asked.request k is
      asked.used asked.source_is asked.access burst);
  unwaited = λ k more i src own j f same. unwaited-asked c _ is asked.used i src own j f (cc asked.source_is);
  ready = λ k comes last moves. ready-request h is asked comes last moves;
  after = λ k comes last moves. at_manager-request_taken h rest is asked comes last moves;
  carried = λ k queue comes beats last moves. carried-request_taken h rest queue is first asked comes beats last moves;
  beside = λ k machine comes last beside. beside-request_taken h rest is asked comes last beside;
  once = λ k machine comes last beside. request-once h is asked comes last beside;
}

on_link-acquire : {w : ℕ} {config : Config} {log : Log w} (h : AbstractState w) {sys : System w} {c n : ℕ}
    (rest : List Packet) → IsWidth w
    → SimulationRelation config log h.mail h.request h.state sys → (h.state.link c).a ≡ packet Acquire n ∷ rest
    → (asked : IsWanted w c n h.state) → IsOnLink config h sys c Acquire n rest (acquire_wanted c n h.state asked)
on_link-acquire {w} {config} {log} h {sys} {c} {n} rest width is first asked = record {
  tokens = first;
  on_it = first;
  renders = asked.renders;
  blank = acquisition-blank w asked.whole asked.grow ((h.state.block n).source c) n width;
  order = λ k lt burst moves. order-acquire k is asked (free k lt burst moves) burst;
  early = λ k burst. early-acquire k is asked burst;
  unwaited = λ k more. let one = acquisition_beats w asked.whole asked.grow ((h.state.block n).source c) n in
      absurd (omega (arith, more, one));
  ready = λ k comes last moves. ready-acquire h is asked comes last moves;
  after = λ k comes last moves. at_manager-acquire_taken h rest is asked comes last moves;
  carried = λ k queue comes beats last moves. carried-acquire_taken h rest queue is first asked comes beats last moves;
  beside = λ k machine comes last beside. beside-acquire_taken h rest is asked comes last beside;
  once = λ k machine comes last beside. inl (acquire-accesses h k is asked comes last);
}
  where
    m : MessageA w
    m = acquire_wanted c n _ asked

    free : (k : ℕ) → k < beats_of (Message.A m) → unfinished Channel.A (on_link c sys.manager.trace)
        ≡ begun (Message.A m) k → must_wait config (link_of c) (Beat.A (a_beat_of m k)) sys.manager.trace ≡ false
        → (h.state.block n).service ≡ Free
    free k lt burst moves =
        let one = acquisition_beats w asked.whole asked.grow ((h.state.block n).source c) n in
        let ended : ends (Beat.A (a_beat_of m k)) (on_link c sys.manager.trace) ≡ true =
        ends-burst c k m sys.manager burst ∙ is_last k (beats_of (Message.A m)) (omega (arith, lt, one)) in
        let free_at = unserved-free _ is.managed
        (or_parts (is_in_service (block_at m.address) (services sys.manager.trace))
        (nat_le config.trackers (length (services sys.manager.trace))) (rw ended at moves)).0 in
        ap (λ i. (h.state.block i).service) (sym (same_block n)) ∙ free_at

-- ---- what is first on the channel

-- the request whose beat is first, and which of its beats that is
pub record IsArrival {w : ℕ} (config : Config) (h : AbstractState w) (sys : System w) (c : ℕ) (x : Beat w)
    (queue : List (Beat w)) : Type 0 where
  pub kind : Kind
  pub number : ℕ
  pub rest : List Packet
  pub request : MessageA w
  pub is_it : IsOnLink config h sys c kind number rest request
  pub next : IsNext x (unfinished Channel.A (on_link c sys.manager.trace)) (Message.A request)
      (map (message_of h.mail h.state c) rest) queue

pub arrival-first : {w : ℕ} {config : Config} {log : Log w} (h : AbstractState w) {sys : System w} (c : ℕ) (x : Beat w)
    (queue : List (Beat w)) → IsWidth w → SimulationRelation config log h.mail h.request h.state sys
    → sys.channels c Channel.A ≡ x ∷ queue → IsArrival config h sys c x queue
arrival-first {w} {config} {log} h {sys} c x queue width is beats =
    let first = first-token (is_caching config) Channel.A c h.mail h.state sys x queue width is.invariant is.carried beats
    in
    of_kind first.kind first.number first.rest first.tokens first.own
  where
    arrived : (k : Kind) (i : ℕ) (rest : List Packet) (m : MessageA w) → IsOnLink config h sys c k i rest m
        → IsArrival config h sys c x queue
    arrived k i rest m on = record {
      kind = k;
      number = i;
      rest = rest;
      request = m;
      is_it = on;
      next = front-of c _ rest m x queue width is on.tokens on.renders beats;
    }

    of_kind : (k : Kind) (i : ℕ) (rest : List Packet) → (h.state.link c).a ≡ packet k i ∷ rest
        → is_on Channel.A k ≡ true → IsArrival config h sys c x queue
    of_kind Request i rest e own =
        let asked = asked-first c i rest is e in
        arrived _ i rest _ (on_link-access h rest is e asked)
    of_kind Acquire i rest e own =
        let wanted = wanted-first c i rest is e in
        arrived _ i rest _ (on_link-acquire h rest width is e wanted)
    of_kind k i rest e own = absurd cc

-- ---- it is taken, or has to wait

pub coming-arrival : {w : ℕ} {config : Config} {log : Log w} {h : AbstractState w} {sys : System w} {c : ℕ} {x : Beat w}
    {queue : List (Beat w)} → IsWidth w → SimulationRelation config log h.mail h.request h.state sys
    → sys.channels c Channel.A ≡ x ∷ queue → (arrives : IsArrival config h sys c x queue)
    → must_wait config (link_of c) x sys.manager.trace ≡ false → IsComing config c arrives.next.k arrives.request
    sys.manager
coming-arrival {config} {sys} {c} {queue} width is beats arrives moves =
    let y = a_beat_of arrives.request arrives.next.k in
    let first = first-beat c y queue is (beats ∙ ap (λ z. z ∷ queue) arrives.next.beat_is) in
    let moves_so : must_wait config (link_of c) (Beat.A y) sys.manager.trace ≡ false =
    rw arrives.next.beat_is at moves in
    record {
      width = width;
      kept = is.manager_kept;
      within = arrives.next.within;
      burst = arrives.next.rest_is;
      typed = first.typed;
      blank = arrives.is_it.blank;
      passes = passes-first is.all_live first (arrives.is_it.order arrives.next.k arrives.next.within
          arrives.next.rest_is moves_so) moves_so;
    }

-- a beat that is delivered on channel A and needn't wait is taken
pub request-taken : {w : ℕ} {config : Config} {log : Log w} {h : AbstractState w} {sys : System w} {c : ℕ} {x : Beat w}
    {queue : List (Beat w)} → IsWidth w → SimulationRelation config log h.mail h.request h.state sys
    → sys.channels c Channel.A ≡ x ∷ queue → (arrives : IsArrival config h sys c x queue)
    → must_wait config (link_of c) x sys.manager.trace ≡ false → offered config (link_of c) Channel.A x sys.manager
    ≡ (
      manager.Sent (reaction config (link_of c) x sys.manager).handed,
      end_after config c arrives.next.k arrives.request sys.manager,
    )
request-taken {config} {sys} {c} width is beats arrives moves =
    let comes = coming-arrival width is beats arrives moves in
    rw arrives.next.beat_is (offered-taken config (link_of c) Channel.A
    (Beat.A (a_beat_of arrives.request arrives.next.k)) sys.manager comes.passes)

-- and one that has to wait is stalled, and not refused
pub request-stalled : {w : ℕ} {config : Config} {log : Log w} {h : AbstractState w} {sys : System w} {c : ℕ}
    {x : Beat w} {queue : List (Beat w)} → SimulationRelation config log h.mail h.request h.state sys
    → sys.channels c Channel.A ≡ x ∷ queue → (arrives : IsArrival config h sys c x queue)
    → must_wait config (link_of c) x sys.manager.trace ≡ true
    → offered config (link_of c) Channel.A x sys.manager ≡ (manager.Stalled, sys.manager)
request-stalled {config} {sys} {c} {queue} is beats arrives waits =
    let y = a_beat_of arrives.request arrives.next.k in
    rw arrives.next.beat_is (offered-stalled config (link_of c) Channel.A (Beat.A y) sys.manager
    (waits-first is.all_live (first-beat c y queue is (beats ∙ ap (λ z. z ∷ queue) arrives.next.beat_is))
    (arrives.is_it.early arrives.next.k arrives.next.rest_is) (rw arrives.next.beat_is at waits)))

-- ---- what a delivery on channel A comes to

more_beats : (k n : ℕ) → (k + 1 == n) ≡ false → k < n → k + 1 < n
more_beats k n e lt = grind (arith, same_number)

-- The protocol after a beat that is taken: with the last one the request is, and with any other one nothing changes.
moved-a : {w : ℕ} {config : Config} {h : AbstractState w} {sys : System w} {c : ℕ} {x : Beat w}
    {queue : List (Beat w)} (P : AbstractState w → Type 0) → sys.channels c Channel.A ≡ x ∷ queue
    → (arrives : IsArrival config h sys c x queue) → (beats_of (Message.A arrives.request) ≡ suc arrives.next.k
    → P (kind_taken config (next_tracker sys) c arrives.kind arrives.number arrives.rest h))
    → (arrives.next.k + 1 < beats_of (Message.A arrives.request) → P h)
    → P (abstract_delivery config c Channel.A (Outcome.Moved x) sys h)
moved-a {w} {config} {h} {sys} {c} {x} P beats arrives last more =
    let last_is : follow.is_last (sys.channels c Channel.A) rest ≡ completes x rest = rw beats refl in
    subst (λ b. P (if b then packet_taken config (next_tracker sys) c (h.state.link c).a h else h))
    (sym last_is) (go (completes x rest) refl)
  where
    rest : List (Beat w)
    rest = unfinished Channel.A (on_link c sys.manager.trace)

    go : (b : Bool) → completes x rest ≡ b
        → P (if b then packet_taken config (next_tracker sys) c (h.state.link c).a h else h)
    go true e =
        let all = eqb-true (arrives.next.k + 1) (beats_of (Message.A arrives.request))
        (sym arrives.next.completes_is ∙ e) in
        subst P (sym (rw arrives.is_it.tokens refl)) (last (omega (arith, all)))
    go false e = more (more_beats arrives.next.k (beats_of (Message.A arrives.request))
        (sym arrives.next.completes_is ∙ e) arrives.next.within)

-- the step at a beat that is taken
abbrev pub step_moved : {w : ℕ} → Config → ℕ → ℕ → MessageA w → Beat w → List (Beat w) → System w → Step w
step_moved config c k m x queue sys = handing (Outcome.Moved x) (reaction config (link_of c) x sys.manager).handed
    (with_manager (end_after config c k m sys.manager) (with_channel c Channel.A queue sys))

-- A delivery finds no beat, or one that has to wait, or one that is taken.
pub delivery-a : {w : ℕ} {config : Config} {log : Log w} (h : AbstractState w) {sys : System w} (c : ℕ)
    (terms : EndConfig) (P : Step w → Type 0) → IsWidth w → SimulationRelation config log h.mail h.request h.state sys
    → terms_at config c ≡ Some terms → (sys.channels c Channel.A ≡ [] → P (only Outcome.Empty sys))
    → ((x : Beat w) (queue : List (Beat w)) → sys.channels c Channel.A ≡ x ∷ queue
    → must_wait config (link_of c) x sys.manager.trace ≡ true → P (only Outcome.Stalled sys))
    → ((x : Beat w) (queue : List (Beat w)) → sys.channels c Channel.A ≡ x ∷ queue
    → (arrives : IsArrival config h sys c x queue) → must_wait config (link_of c) x sys.manager.trace ≡ false
    → P (step_moved config c arrives.next.k arrives.request x queue sys))
    → P (stepped config (Deliver (link_of c) Channel.A) sys)
delivery-a {w} {config} h {sys} c terms P width is client empty stalled moved = go (sys.channels c Channel.A) refl
  where
    step : Step w
    step = stepped config (Deliver (link_of c) Channel.A) sys

    taken_or_not : (x : Beat w) (queue : List (Beat w)) → sys.channels c Channel.A ≡ x ∷ queue
        → IsArrival config h sys c x queue → (b : Bool) → must_wait config (link_of c) x sys.manager.trace ≡ b → P step
    taken_or_not x queue e arrives true waits = subst P (sym (stepped-to-manager config
        (link_of c) Channel.A sys terms x queue client e refl ∙ ap (λ p. manager_took c Channel.A x queue p sys)
        (request-stalled is e arrives waits))) (stalled x queue e waits)
    taken_or_not x queue e arrives false moves = subst P (sym (stepped-to-manager config
        (link_of c) Channel.A sys terms x queue client e refl ∙ ap (λ p. manager_took c Channel.A x queue p sys)
        (request-taken width is e arrives moves))) (moved x queue e arrives moves)

    go : (xs : List (Beat w)) → sys.channels c Channel.A ≡ xs → P step
    go [] e = subst P (sym (stepped-empty config (link_of c) Channel.A sys terms client e)) (empty e)
    go (x ∷ queue) e = taken_or_not x queue e (arrival-first h c x queue width is e)
        (must_wait config (link_of c) x sys.manager.trace) refl

-- and what the manager knows is what the protocol says then
pub at_manager-delivered_a : {w : ℕ} {config : Config} {log : Log w} (h : AbstractState w) {sys : System w} (c : ℕ)
    (terms : EndConfig) → IsWidth w → SimulationRelation config log h.mail h.request h.state sys
    → terms_at config c ≡ Some terms → IsManagerOf config (abstract_step config (Deliver (link_of c) Channel.A) sys h)
    (stepped config (Deliver (link_of c) Channel.A) sys).after.manager
at_manager-delivered_a {w} {config} h {sys} c terms width is client =
    let known = at_manager-matched is in
    delivery-a h c terms (λ step. IsManagerOf config (abstract_delivery config c Channel.A step.outcome sys h)
    step.after.manager) width is client (λ e. known) (λ x queue e waits. known) (λ x queue beats arrives moves.
    let comes = coming-arrival width is beats arrives moves in
    let k : ℕ = arrives.next.k in
    let after : End w = end_after config c k arrives.request sys.manager in
    subst (IsManagerOf config (abstract_delivery config c Channel.A (Outcome.Moved x) sys h))
    (sym (manager-with_messages (reaction config (link_of c) x sys.manager).handed
    (with_manager after (with_channel c Channel.A queue sys)))) (moved-a (λ i. IsManagerOf config i after)
    beats arrives (λ last. arrives.is_it.after k comes last (rw arrives.next.beat_is at moves))
    (λ more. at_manager-more comes more (arrives.is_it.unwaited k more) known)))

-- and the channels carry the messages of the tokens
pub carried-delivered_a : {w : ℕ} {config : Config} {log : Log w} (h : AbstractState w) {sys : System w} (c : ℕ)
    (terms : EndConfig) → IsWidth w → SimulationRelation config log h.mail h.request h.state sys
    → terms_at config c ≡ Some terms → ChannelRelation (abstract_step config (Deliver (link_of c) Channel.A) sys h).mail
    (abstract_step config (Deliver (link_of c) Channel.A) sys h).state
    (stepped config (Deliver (link_of c) Channel.A) sys).after
carried-delivered_a {w} {config} {log} h {sys} c terms width is client =
    delivery-a h c terms (λ step. ChannelRelation (abstract_delivery config c Channel.A step.outcome sys
    h).mail (abstract_delivery config c Channel.A step.outcome sys h).state step.after) width is client
    (λ e. is.carried) (λ x queue e waits. is.carried) (λ x queue beats arrives moves.
    let comes = coming-arrival width is beats arrives moves in
    let k : ℕ = arrives.next.k in
    let m : MessageA w = arrives.request in
    let first : sys.channels c Channel.A ≡ Beat.A (a_beat_of m k) ∷ queue = cc (beats, arrives.next.beat_is) in
    let same = ap (λ y. (step_moved config c k m y queue sys).after) (sym arrives.next.beat_is) in
    moved-a (λ i. ChannelRelation i.mail i.state (step_moved config c k m x queue sys).after) beats arrives
    (λ last. rw same at (arrives.is_it.carried k queue comes first last (rw arrives.next.beat_is at moves)))
    (λ more. subst (ChannelRelation h.mail h.state) same (carried-more queue is comes first
    (ends-coming comes ∙ not_last k (beats_of (Message.A m)) more))))

-- and the one-memory machine is beside the protocol, once the accesses that are answered are performed
pub beside-delivered_a : {w : ℕ} {config : Config} {log : Log w} (h : AbstractState w) {sys : System w} (c : ℕ)
    (terms : EndConfig) {machine : Machine w} → IsWidth w → SimulationRelation config log h.mail h.request h.state sys
    → terms_at config c ≡ Some terms → MemoryRelation h.mail h.state machine
    → MemoryRelation (abstract_step config (Deliver (link_of c) Channel.A) sys h).mail
    (abstract_step config (Deliver (link_of c) Channel.A) sys h).state
    (performing (accesses_answered (stepped config (Deliver (link_of c) Channel.A) sys).handed) machine)
unfolding performing accesses_answered
beside-delivered_a {w} {config} h {sys} c terms {machine} width is client beside = delivery-a h c terms
    (λ step. MemoryRelation (abstract_delivery config c Channel.A step.outcome sys h).mail (abstract_delivery config
    c Channel.A step.outcome sys h).state (performing (accesses_answered step.handed) machine)) width is client
    (λ e. beside) (λ x queue e waits. beside) (λ x queue beats arrives moves.
    let comes = coming-arrival width is beats arrives moves in
    let k : ℕ = arrives.next.k in
    let m : MessageA w = arrives.request in
    let same = ap (λ y. (reaction config (link_of c) y sys.manager).handed) (sym arrives.next.beat_is) in
    moved-a (λ i. MemoryRelation i.mail i.state
    (performing (accesses_answered (reaction config (link_of c) x sys.manager).handed) machine)) beats arrives
    (λ last. rw same at (arrives.is_it.beside k machine comes last beside)) (λ more.
    let part = ap (λ d. d.handed) (reaction-part config (link_of c) (Beat.A (a_beat_of m k)) sys.manager
    (ends-coming comes ∙ not_last k (beats_of (Message.A m)) more)) in
    subst (λ i. MemoryRelation h.mail h.state (performing (accesses_answered i) machine)) (sym part ∙ same) beside))

-- at most one access is answered then, and it can be performed
pub once-delivered_a : {w : ℕ} {config : Config} {log : Log w} (h : AbstractState w) {sys : System w} (c : ℕ)
    (terms : EndConfig) {machine : Machine w} → IsWidth w → SimulationRelation config log h.mail h.request h.state sys
    → terms_at config c ≡ Some terms → MemoryRelation h.mail h.state machine
    → IsOnce (accesses_answered (stepped config (Deliver (link_of c) Channel.A) sys).handed) h machine
unfolding accesses_answered
once-delivered_a {w} {config} h {sys} c terms {machine} width is client beside = delivery-a h c
    terms (λ step. IsOnce (accesses_answered step.handed) h machine) width is client (λ e. inl refl)
    (λ x queue e waits. inl refl) (λ x queue beats arrives moves.
    let comes = coming-arrival width is beats arrives moves in
    let k : ℕ = arrives.next.k in
    let m : MessageA w = arrives.request in
    let same = ap (λ y. (reaction config (link_of c) y sys.manager).handed) (sym arrives.next.beat_is) in
    moved-a (λ i. IsOnce (accesses_answered (reaction config (link_of c) x sys.manager).handed) h machine) beats arrives
    (λ last. rw same at (arrives.is_it.once k machine comes last beside)) (λ more.
    let part = ap (λ d. d.handed) (reaction-part config (link_of c) (Beat.A (a_beat_of m k)) sys.manager
    (ends-coming comes ∙ not_last k (beats_of (Message.A m)) more)) in
    inl (ap accesses_answered (sym same ∙ part))))
