-- A GrantAck that is delivered to the manager: the channels and the one memory afterwards.
-- The protocol keeps its invariant as it follows any event of the world.
-- What is kept of the whole is kept by every event: so it holds after every log, beside the protocol as it follows.
use Rattle.std.proofs.Common.{◌≡◌, ℕ, suc, ◌+◌, Bool, true, false, List, [], ◌∷◌, Option, Some, None, refl, sym, ◌∙◌}
use Rattle.std.proofs.Common.{ap, subst, arith, eqb-true}
use Rattle.tl_coherence.proofs
use proofs.Imports.{Beat, Link, Channel, IsWidth, Message, MessageA, beats_of, unfinished, completes, Config, on_link}
use proofs.Imports.{Op, EndConfig, reaction-ack, must_wait, reaction, Event, Ask, Deliver, Outcome, IsInvariant}
use proofs.Imports.{GrantAck, Kind, Packet, State, freed_block, grant_ack_taken, is_on, packet, AbstractState}
use proofs.Imports.{abstract_step, abstract_step_by, first_abstract_state, ChannelRelation, MemoryRelation}
use proofs.Imports.{AccessMessages, block_message, SimulationRelation, is_caching, is_moving, IsTyped, Log}
use proofs.Imports.{system_after, Machine, moved, accesses_answered, one_memory_after, performing, Step, client_of}
use proofs.Imports.{manager_took, only, stepped, System, terms_at, with_channel, with_messages}
use Rattle.tl_coherence.{specs.statement.Headline.AreTyped, specs.statement.Log.IsLog}
use Rattle.tl_client.specs.statement.Endpoint as client
use Rattle.tl_client.specs.statement.Ask as ask
use proofs.memory.BesideKinds.{beside_block}
use proofs.queues.{Channels.carried-shown, Steps.stepped-to-manager, Steps.stepped-asked, Steps.stepped-empty}
use proofs.simulation.{Bounded.grant_ack_taken-shown, Fresh.fresh-matched}
use proofs.simulation.Moved.{IsDelivery, taken_of, followed-cases, on-first, asked-cases, delivered-cases}
use proofs.simulation.Moved.{answered-followed, given-followed, invariant-asked, ready-client, nobody_moves}
use proofs.simulation.BeatsInFlight.{sound-after, typed-after}
use proofs.simulation.SizedAfter.{AreStrange, strangers-asked, strangers-kind_taken, AreSourced, sourced-asked}
use proofs.simulation.SizedAfter.{sourced-kind_taken, AllSized, sized-asked, sized-kind_taken}
use proofs.deliveries.{AskedWell.asked-well, ReportsAfter.delivered-d, ReportsAfter.delivered-c}
use proofs.deliveries.DeliverDUnmoved.{IsDelivered, delivered-unmoved, client-of}
use proofs.deliveries.AskedAfter.{carried-ask, beside-ask, IsAllowed, manager-kept}
use proofs.deliveries.ManagersAfter.{IsAtManager, at-manager, after_taken, delivered-last, delivered-part, delivered-b}
use proofs.deliveries.FirstRequest.{IsArrival, arrival-first, coming-arrival, request-stalled, delivery-a}
use proofs.deliveries.FirstRequest.{carried-delivered_a, beside-delivered_a}
use proofs.manager.{BlockAccounts.managed-traced, Accounts.are_served-traced}
use proofs.manager.RequestsTaken.{invariant-taken, next_tracker}
use proofs.protocol.{BothParts.first-grant_ack, HeadOfD.IsReady}
use proofs.client.{ClientDelivered.shadow_of, ClientDelivered.askable, ClientAsked.IsEndOf, ClientStep.clients-kept}
use proofs.client.Waiting.{AreAcquired, asked-acquired, kind_taken-acquired}

ack_kind : (k : Kind) → is_on Channel.E k ≡ true → k ≡ GrantAck
ack_kind k e = grind arith

pub delivered-e : {w : ℕ} {config : Config} {log : Log w} (link : Link) (h : AbstractState w) (terms : client.EndConfig)
    (x : Beat w) (queue : List (Beat w)) → IsWidth w
    → SimulationRelation config log h.mail h.request h.state (system_after config log)
    → terms_at config link.0 ≡ Some terms → (system_after config log).channels link.0 Channel.E ≡ x ∷ queue
    → is_moving (stepped config (Deliver link Channel.E) (system_after config log)).outcome ≡ true
    → IsDelivered config log link Channel.E h
unfolding block_message with_messages performing accesses_answered
delivered-e {w} {config} {log} link h terms x queue width matched known beats moving =
    go (completes x (unfinished Channel.E (on_link link.0 sys.manager.trace))) refl
  where
    sys : System w
    sys = system_after config log

    is : IsAtManager config log link Channel.E h x queue
    is = at-manager link Channel.E h terms x queue width matched known refl beats moving

    n : ℕ
    n = is.first.number

    kind : is.first.kind ≡ GrantAck
    kind = ack_kind _ is.first.own

    tokens : (h.state.link link.0).e ≡ packet GrantAck n ∷ is.first.rest
    tokens = is.first.tokens ∙ ap (λ k. packet k n ∷ is.first.rest) kind

    go : (b : Bool) → completes x (unfinished Channel.E (on_link link.0 sys.manager.trace)) ≡ b
        → IsDelivered config log link Channel.E h
    go false part = delivered-part width matched refl is part
    go true last =
        let unpushed : (d : ℕ) (at : Channel) → (after_taken config link Channel.E x queue sys []).channels d at
        ≡ (with_channel link.0 Channel.E queue sys).channels d at = λ d at. refl in
        let quiet = beside_block n (freed_block (h.state.block n)) (grant_ack_taken link.0 n is.first.rest h.state)
        (λ i. refl) (λ d i. refl) (λ d i. refl) refl (λ d. refl) (λ d. refl) matched.beside in
        delivered-last [] (λ d at. None) refl is last (ap (λ z. (reaction config link z sys.manager).handed)
        (cc (is.first.next.beat_is, kind)) ∙ ap (λ d. d.handed) (reaction-ack config link
        (record { sink = (h.state.block n).tracker }) sys.manager)) (λ d at. unpushed d at)
        (λ taken. rw kind (carried-shown width (grant_ack_taken-shown link.0 n is.first.rest h.mail matched.invariant
        (invariant-taken h link.0 GrantAck n is.first.rest matched tokens tt) tokens
        (first-grant_ack matched.invariant tokens)) taken matched.carried))
        (rw kind quiet)

-- ---- channel A

-- a request that is moved needn't wait
pub request-moves : {w : ℕ} {config : Config} {log : Log w} {mail : AccessMessages w} {request : ℕ → MessageA w}
    {s : State (List ℕ)} {sys : System w} (link : Link) {x : Beat w} {queue : List (Beat w)}
    → SimulationRelation config log mail request s sys → is_moving (stepped config (Deliver link Channel.A) sys).outcome
    ≡ true → sys.channels link.0 Channel.A ≡ x ∷ queue → IsArrival config (shadow_of mail request s) sys link.0 x queue
    → must_wait config (record { 0 = link.0 }) x sys.manager.trace ≡ false
request-moves {w} {config} {log} {mail} {request} {s} {sys} link {x} {queue} h moving beats arrives =
    go (must_wait config (record { 0 = link.0 }) x sys.manager.trace) refl
  where
    stands : (terms : EndConfig) → terms_at config link.0 ≡ Some terms
        → must_wait config (record { 0 = link.0 }) x sys.manager.trace ≡ true
        → is_moving (stepped config (Deliver link Channel.A) sys).outcome ≡ false
    stands terms at waits = ap (λ i. is_moving i.outcome) (stepped-to-manager config link Channel.A sys terms
        x queue at beats refl) ∙ ap (λ a. is_moving
        (manager_took link.0 Channel.A x queue a sys).outcome) (request-stalled h beats arrives waits)

    at_terms : (o : Option EndConfig) → terms_at config link.0 ≡ o
        → must_wait config (record { 0 = link.0 }) x sys.manager.trace ≡ true
        → is_moving (stepped config (Deliver link Channel.A) sys).outcome ≡ false
    at_terms None at waits = nobody_moves config sys link Channel.A at
    at_terms (Some terms) at waits = stands terms at waits

    go : (b : Bool) → must_wait config (record { 0 = link.0 }) x sys.manager.trace ≡ b → b ≡ false
    go false e = refl
    go true e = absurd (let no : true ≡ false = sym moving ∙ at_terms (terms_at config link.0) refl e in cc)

ready-a : {w : ℕ} {config : Config} {log : Log w} {mail : AccessMessages w} {request : ℕ → MessageA w}
    {s : State (List ℕ)} {sys : System w} {link : Link} {x : Beat w} {queue : List (Beat w)} → IsWidth w
    → SimulationRelation config log mail request s sys → (d : IsDelivery config mail s sys link Channel.A x queue)
    → IsReady (next_tracker sys) link.0 d.first.kind d.first.number (shadow_of mail request s)
ready-a {w} {config} {log} {mail} {request} {s} {sys} {link} {x} {queue} width h d =
    let next_number : (k n : ℕ) → k + 1 ≡ n → n ≡ suc k = λ k n e. omega (arith, e) in
    let arrives = arrival-first _ link.0 x queue width h d.beats in
    let moves = request-moves link h d.moves d.beats arrives in
    subst (λ (y : Packet). IsReady (next_tracker sys) link.0 y.kind y.number (shadow_of mail request s))
    (cc)
    (arrives.is_it.ready arrives.next.k (coming-arrival width h d.beats arrives moves) (next_number arrives.next.k
    (beats_of (Message.A arrives.request)) (eqb-true (arrives.next.k + 1) (beats_of (Message.A arrives.request))
    (sym arrives.next.completes_is ∙ d.whole))) (cc (arrives.next.beat_is, moves)))

-- ---- channels C and E

-- what comes on them needs nothing more to be taken
abbrev is_up : Channel → Bool
is_up Channel.C = true
is_up Channel.E = true
is_up _ = false

ready_up : {w : ℕ} (tracker c : ℕ) (ch : Channel) (k : Kind) (i : ℕ) (h : AbstractState w) → is_up ch ≡ true
    → is_on ch k ≡ true → IsReady tracker c k i h
ready_up tracker c ch k i h e f = grind arith

-- ---- every event

-- what is taken with the last beat of a message may be taken
pub ready-delivered : {w : ℕ} {config : Config} {log : Log w} {mail : AccessMessages w} {request : ℕ → MessageA w}
    {s : State (List ℕ)} {sys : System w} {link : Link} (ch : Channel) {x : Beat w} {queue : List (Beat w)} → IsWidth w
    → SimulationRelation config log mail request s sys → (d : IsDelivery config mail s sys link ch x queue)
    → IsReady (next_tracker sys) link.0 d.first.kind d.first.number (shadow_of mail request s)
ready-delivered Channel.A width h d = ready-a width h d
ready-delivered {mail} {request} {s} {sys} {link} Channel.C width h d =
    ready_up (next_tracker sys) link.0 Channel.C _ d.first.number (shadow_of mail request s) refl d.first.own
ready-delivered {mail} {request} {s} {sys} {link} Channel.E width h d =
    ready_up (next_tracker sys) link.0 Channel.E _ d.first.number (shadow_of mail request s) refl d.first.own
ready-delivered {link} ch width h d = ready-client link ch _ _ _ width h refl d.first.own d.moves d.beats d.first.tokens
    d.first.next

invariant-delivered : {w : ℕ} {config : Config} {log : Log w} {mail : AccessMessages w} {request : ℕ → MessageA w}
    {s : State (List ℕ)} {sys : System w} {link : Link} {ch : Channel} {x : Beat w} {queue : List (Beat w)} → IsWidth w
    → SimulationRelation config log mail request s sys → (d : IsDelivery config mail s sys link ch x queue)
    → IsInvariant (is_caching config) (taken_of config mail request s sys link.0 d.first.kind d.first.number
    d.first.rest).state
invariant-delivered {mail} {request} {s} {link} {ch} width h d = invariant-taken _ link.0 _ _ _ h (on-first d)
    (ready-delivered ch width h d)

pub invariant-followed : {w : ℕ} {config : Config} {log : Log w} {mail : AccessMessages w} {request : ℕ → MessageA w}
    {s : State (List ℕ)} {sys : System w}
    (event : Event w) → IsWidth w → SimulationRelation config log mail request s sys
    → IsInvariant (is_caching config) (abstract_step config event sys (shadow_of mail request s)).state
invariant-followed {config} event width h = followed-cases event (λ i. IsInvariant (is_caching config) i.state) width h
    h.invariant (λ terms c o at. invariant-asked terms c o h at) (λ link ch x queue d. invariant-delivered width h d)

-- ---- steps

pub stepped-nobody : {w : ℕ} (config : Config) (event : Event w) (sys : System w)
    → terms_at config (client_of event) ≡ None → stepped config event sys ≡ only Outcome.NoSuchClient sys
unfolding stepped
stepped-nobody config event sys e = grind arith

pub not_moving : {w : ℕ} (x y : Step w) → x ≡ y → is_moving x.outcome ≡ true → is_moving y.outcome ≡ false → ⊥
not_moving {w} x y e moving still = let no : true ≡ false = cc in cc

-- ---- the channels and the one memory after any delivery

delivered-a : {w : ℕ} {config : Config} {log : Log w} (c : ℕ) (h : AbstractState w) (terms : EndConfig) → IsWidth w
    → SimulationRelation config log h.mail h.request h.state (system_after config log) → terms_at config c ≡ Some terms
    → IsDelivered config log (record { 0 = c }) Channel.A h
unfolding one_memory_after
delivered-a {w} {config} {log} c h terms width is at =
    let sys : System w = system_after config log in
    let m : Machine w = one_memory_after config log in
    let still = delivery-a h c terms (λ step. moved (Deliver (record { 0 = c }) Channel.A) step.outcome m
    ≡ m) width is at (λ e. refl) (λ x queue e waits. refl) (λ x queue e arrives moves. refl) in
    record {
      carried = carried-delivered_a h c terms width is at;
      beside = beside-delivered_a h c terms width is at (subst (MemoryRelation h.mail h.state) (sym still) is.beside);
    }

delivered-all : {w : ℕ} {config : Config} {log : Log w} (link : Link) (ch : Channel) (h : AbstractState w) → IsWidth w
    → SimulationRelation config log h.mail h.request h.state (system_after config log)
    → IsDelivered config log link ch h
delivered-all {w} {config} {log} link ch h width is = go (is_moving (stepped config (Deliver link ch) sys).outcome) refl
  where
    sys : System w
    sys = system_after config log

    moves : (at : Channel) (terms : EndConfig) (beats : List (Beat w)) → terms_at config link.0 ≡ Some terms
        → sys.channels link.0 at ≡ beats
        → is_moving (stepped config (Deliver link at) sys).outcome ≡ true → IsDelivered config log link at h
    moves at terms [] known none moving =
        absurd (not_moving _ _ (stepped-empty config link at sys terms known none) moving refl)
    moves Channel.A terms (x ∷ queue) known beats moving = delivered-a link.0 h terms width is known
    moves Channel.B terms (x ∷ queue) known beats moving = delivered-b link h terms x queue width is known beats moving
    moves Channel.C terms (x ∷ queue) known beats moving = delivered-c link.0 h x queue width is beats
    moves Channel.D terms (x ∷ queue) known beats moving = delivered-d link h terms x queue width is known beats moving
    moves Channel.E terms (x ∷ queue) known beats moving = delivered-e link h terms x queue width is known beats moving

    found : (o : Option EndConfig) → terms_at config link.0 ≡ o
        → is_moving (stepped config (Deliver link ch) sys).outcome ≡ true → IsDelivered config log link ch h
    found None none moving = absurd (not_moving _ _ (stepped-nobody config (Deliver link ch) sys none) moving refl)
    found (Some terms) known moving = moves ch terms (sys.channels link.0 ch) known refl moving

    go : (b : Bool) → is_moving (stepped config (Deliver link ch) sys).outcome ≡ b → IsDelivered config log link ch h
    go true moving = found (terms_at config link.0) refl moving
    go false still = delivered-unmoved link ch h is still

-- ---- and after any event

record IsFollowed {w : ℕ} (config : Config) (log : Log w) (event : Event w) (h : AbstractState w) : Type 0 where
  pub carried : ChannelRelation (abstract_step config event (system_after config log) h).mail
      (abstract_step config event (system_after config log) h).state
      (stepped config event (system_after config log)).after
  pub beside : MemoryRelation (abstract_step config event (system_after config log) h).mail
      (abstract_step config event (system_after config log) h).state
      (one_memory_after config ((event, (stepped config event (system_after config log)).outcome) ∷ log))

-- where this is the step
abbrev FollowedBy : {w : ℕ} → Config → Log w → Event w → AbstractState w → Step w → Type 0
FollowedBy config log event h x = ChannelRelation (abstract_step_by config event x.outcome (system_after config log)
    h).mail (abstract_step_by config event x.outcome (system_after config log) h).state x.after
    × MemoryRelation (abstract_step_by config event x.outcome (system_after config log) h).mail
    (abstract_step_by config event x.outcome (system_after config log) h).state (performing (accesses_answered x.handed)
    (moved event x.outcome (one_memory_after config log)))

asked-all : {w : ℕ} {config : Config} {log : Log w} (c : ℕ) (o : Op w) (h : AbstractState w) → IsWidth w
    → SimulationRelation config log h.mail h.request h.state (system_after config log)
    → FollowedBy config log (Ask c o) h (stepped config (Ask c o) (system_after config log))
unfolding one_memory_after performing accesses_answered
asked-all {w} {config} {log} c o h width is = go (terms_at config c) refl
  where
    sys : System w
    sys = system_after config log

    go : (i : Option EndConfig) → terms_at config c ≡ i
        → FollowedBy config log (Ask c o) h (stepped config (Ask c o) sys)
    go None none = rw (stepped-nobody config (Ask c o) sys none) (is.carried, is.beside)
    go (Some terms) known =
        let r = (ask.asked terms o (sys.clients c)).reply in
        let replied : (stepped config (Ask c o) sys).outcome ≡ Outcome.Replied r =
        ap (λ x. x.outcome) (stepped-asked config c o sys terms known) in
        (rw replied (carried-ask h c terms o width is known), rw replied (beside-ask h c terms o width is known))

followed-all : {w : ℕ} {config : Config} {log : Log w} (event : Event w) (h : AbstractState w) → IsWidth w
    → SimulationRelation config log h.mail h.request h.state (system_after config log) → IsFollowed config log event h
unfolding one_memory_after
followed-all (Ask c o) h width is = let all = asked-all c o h width is in
    record { carried = all.0; beside = all.1 }
followed-all (Deliver link ch) h width is = let all = delivered-all link ch h width is in
    record { carried = all.carried; beside = all.beside }

-- ---- all that is kept, after an event

sized-followed : {w : ℕ} {config : Config} {log : Log w} (h : AbstractState w) {sys : System w} (event : Event w)
    → IsWidth w → SimulationRelation config log h.mail h.request h.state sys → IsTyped event
    → AllSized (abstract_step config event sys h).state
unfolding stepped
sized-followed {config} {log} h {sys} (Ask c o) width is typed = asked-cases config log h.mail h.request h.state sys
    c o (terms_at config c) (λ i. AllSized i.state) refl is.sized (λ terms at. sized-asked c o _ h is.invariant typed
    (asked-well config log h sys c terms o width is at).word is.sized)
sized-followed {config} h {sys} (Deliver link ch) width is typed =
    delivered-cases link ch (λ i. AllSized i.state) width is is.sized
    (λ x queue d. sized-kind_taken config (next_tracker sys) link.0 d.first.kind d.first.number d.first.rest h is.sized)

strangers-followed : {w : ℕ} {config : Config} {log : Log w} (h : AbstractState w) {sys : System w} (event : Event w)
    → IsWidth w → SimulationRelation config log h.mail h.request h.state sys
    → AreStrange config (abstract_step config event sys h).state.uses
strangers-followed {config} h {sys} event width is = followed-cases event (λ i. AreStrange config i.state.uses) width
    is is.strangers (λ terms c o at. strangers-asked config c o (ask.asked terms o (sys.clients c)).reply h terms at
    is.strangers) (λ link ch x queue d.
    let t = client-of config link.0 ch x queue sys d.beats (is.sound link.0 ch) in
    strangers-kind_taken config (next_tracker sys) link.0 d.first.kind d.first.number d.first.rest h
    t.0 is.invariant t.1 is.strangers)

sourced-followed : {w : ℕ} {config : Config} {log : Log w} (h : AbstractState w) {sys : System w} (event : Event w)
    → IsWidth w → SimulationRelation config log h.mail h.request h.state sys
    → AreSourced config (abstract_step config event sys h).mail.request (abstract_step config event sys h).state.uses
sourced-followed {config} {log} h {sys} event width is = followed-cases event
    (λ i. AreSourced config i.mail.request i.state.uses) width is is.sourced (λ terms c o at. sourced-asked config c o
    _ h (asked-well config log h sys c terms o width is at).source is.sourced) (λ link ch x queue d. sourced-kind_taken
    config (next_tracker sys) link.0 _ _ _ h is.invariant (on-first d) is.sourced)

acquired-followed : {w : ℕ} {config : Config} {log : Log w} (h : AbstractState w) {sys : System w} (event : Event w)
    → IsWidth w → SimulationRelation config log h.mail h.request h.state sys
    → AreAcquired (abstract_step config event sys h).request (abstract_step config event sys h).state.block
acquired-followed {config} h {sys} event width is = followed-cases event (λ i. AreAcquired i.request i.state.block)
    width is is.acquired (λ terms c o at. asked-acquired c o _ h is.invariant (askable terms c o is at) is.acquired)
    (λ link ch x queue d. kind_taken-acquired config (next_tracker sys) link.0 d.first.kind d.first.number d.first.rest
    h is.acquired)

allowed : {w : ℕ} {config : Config} {log : Log w} (h : AbstractState w) {sys : System w} (event : Event w) → IsWidth w
    → SimulationRelation config log h.mail h.request h.state sys → (terms : EndConfig)
    → terms_at config (client_of event) ≡ Some terms → IsAllowed config event terms sys h
allowed h (Ask c o) width is terms at = askable terms c o is at
allowed h event width is terms at = tt

-- what is kept of the whole is kept by an event
pub matched-event : {w : ℕ} {config : Config} {log : Log w} (h : AbstractState w) (event : Event w) → IsWidth w
    → IsTyped event → SimulationRelation config log h.mail h.request h.state (system_after config log)
    → SimulationRelation config ((event, (stepped config event (system_after config log)).outcome) ∷ log)
    (abstract_step config event (system_after config log) h).mail (abstract_step config event (system_after config log)
    h).request (abstract_step config event (system_after config log) h).state
    (stepped config event (system_after config log)).after
matched-event {w} {config} {log} h event width typed is =
    let sys : System w = system_after config log in
    let all : IsFollowed config log event h = followed-all event h width is in
    let end : (c : ℕ) → IsEndOf c (abstract_step config event sys h) ((stepped config event sys).after.clients c) =
    λ c. clients-kept event width is c in
    let invariant = invariant-followed event width is in
    let manager = manager-kept h event width is (allowed h event width is) in
    record {
      invariant = invariant;
      sized = sized-followed h event width is typed;
      strangers = strangers-followed h event width is;
      carried = all.carried;
      sound = sound-after width is event typed;
      typed = typed-after width is event typed;
      sourced = sourced-followed h event width is;
      answered = answered-followed event width is;
      given = given-followed event width is;
      known = λ c. (end c).knows.0;
      opened = λ c. (end c).knows.1;
      kept = λ c. (end c).well.kept;
      accounted = λ c. (end c).well.accounted;
      copies = λ c. (end c).copies;
      waiting = λ c. (end c).waiting;
      live = λ c. (end c).live;
      managed = managed-traced invariant manager.manager_kept manager.traced;
      served = are_served-traced invariant manager.manager_kept manager.traced;
      served_with = manager.served_with;
      acquired = acquired-followed h event width is;
      manager_kept = manager.manager_kept;
      memory = manager.memory;
      all_live = manager.all_live;
      beside = all.beside;
    }

-- ---- after every log

-- the protocol beside the whole after these events
unfoldable pub shadow : {w : ℕ} → Config → Log w → AbstractState w
shadow config [] = first_abstract_state
shadow config (x ∷ log) = abstract_step config x.0 (system_after config log) (shadow config log)

-- What is kept of the whole holds after every log.
pub matched : {w : ℕ} (config : Config) (log : Log w) → IsWidth w → AreTyped log → IsLog config log
    → SimulationRelation config log (shadow config log).mail (shadow config log).request (shadow config log).state
    (system_after config log)
unfolding shadow system_after AreTyped IsLog
matched config [] width typed is = fresh-matched config
matched {w} config (x ∷ log) width typed is =
    let sys : System w = system_after config log in
    let h : AbstractState w = shadow config log in
    let h' : AbstractState w = abstract_step config x.0 sys h in
    subst (λ o. SimulationRelation config ((x.0, o) ∷ log) h'.mail h'.request h'.state (stepped config x.0 sys).after)
    (sym is.0) (matched-event h x.0 width typed.0 (matched config log width typed.1 is.1))
