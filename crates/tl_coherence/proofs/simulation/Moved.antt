-- A delivery that moves a beat: the beat was taken, and what was handed out for it is on the channels.
-- What the protocol does at an event of the world: nothing, what a client is asked for, or the first token of a
-- channel.
-- The protocol keeps its invariant as a client is asked, and as a client takes a message.
use Rattle.std.proofs.Common.{◌≡◌, ℕ, ◌+◌, ◌<◌, Bool, true, false, not, ◌&&◌, ◌==◌, if◌then◌else◌, List, [], ◌∷◌}
use Rattle.std.proofs.Common.{Option, Some, None, Result, Ok, refl, sym, ◌∙◌, ap, arith, ◌⊎◌, inl, inr, ne_eqb, map}
use Rattle.tl_coherence.proofs
use proofs.Imports.{cases_eq, Beat, Link, Channel, IsWidth, beats-positive, Message, MessageA, beats_of, grown}
use proofs.Imports.{unfinished, completes, Config, Rule, on_link, Op, Verdict, EndConfig, Offered, Handed, Event, Ask}
use proofs.Imports.{Deliver, Outcome, IsInvariant, Answer, Grant, Kind, Packet, Probe, ReleaseAck, NoRelease}
use proofs.Imports.{is_unreleased, State, is_on, on, packet, packets_on, AbstractState, abstract_delivery}
use proofs.Imports.{abstract_step, abstract_step_by, asked, kind_taken, packet_taken, IsCarried, ChannelRelation}
use proofs.Imports.{AccessMessages, message_of, message_of_kind, messages_on, SimulationRelation, is_caching, receiver}
use proofs.Imports.{is_moving, Log, Step, client_took, handed_by, handing, is_to_client, judged, manager_took}
use proofs.Imports.{outcome_of, stepped_at, stepped, System, same_channel, terms_at, with_channel, with_client}
use proofs.Imports.{with_manager}
use Rattle.tl_coherence.specs.refinement.AbstractStep.{is_last}
use Rattle.tl_client.specs.statement.Ask as ask
use Rattle.tl_client.proofs.endpoint.Outstanding.{unfinished-offered}
use Rattle.tl_manager.specs.laws.After.{is_of_clients, taken_after}
use Rattle.tl_client.specs.laws.After as after
use Rattle.tl_client.specs.statement.Endpoint as client
use Rattle.tl_client.specs.statement.EndpointInvariant as client_kept
use Rattle.tl_client.specs.statement.Offer as offer
use Rattle.tl_manager.specs.code.Kept as manager
use Rattle.tl_manager.specs.statement.Reaction as manager_reaction
use Rattle.tl_manager.specs.statement.End as manager_end
use Rattle.tl_manager.specs.statement.Offer as manager_offer
use Rattle.tl_manager.proofs.pending.Afterwards as manager_after
use proofs.client.ProbeDelivered.{probe-delivered, AreAnswered, answered-asked, answered-kind_taken}
use proofs.client.Waiting.{AreGiven, given-asked, given-kind_taken}
use proofs.client.ClientDelivered.{askable, shadow_of}
use proofs.queues.{Carried.IsNext, Carried.carried-next, Moves.on_same, Channels.same_channel-is, Tokens.same_number}
use proofs.queues.Steps.{stepped-to-client, stepped-to-manager, IsLanded, HasHeard, HasTaken}
use proofs.queues.FirstToken.{IsFirst, first-token}
use proofs.protocol.{HeadOfD.IsReady, FollowKept.asked-kept, BothParts.kept-letting}
use proofs.manager.RequestsTaken.{next_tracker}

-- ---- to a client

-- a client takes the beat: not a refusal, nor a stall
abbrev pub is_taken : {w : ℕ} → Result (Verdict × Option (Message w)) Rule → Bool
is_taken (Ok (Verdict.Taken, m)) = true
is_taken (Ok (Verdict.Done source finish, m)) = true
is_taken _ = false

pub offered-taken : {w : ℕ} (terms : client.EndConfig) (ch : Channel) (x : Beat w) (e : client.Endpoint w)
    → is_taken (offer.offered terms ch x e).answer ≡ true → offer.offered terms ch x e ≡ offer.taken x e
unfolding offer.offered
offered-taken {w} terms ch x e is =
    let later : (o : Option Rule) → is_taken (offer.judged_later o x e).answer ≡ true
    → offer.judged_later o x e ≡ offer.taken x e = elim [ None ↦ λ h. refl | Some rule ↦ λ h. absurd cc ] in
    let waiting : (b : Bool) → is_taken
    (if b then offer.silent Verdict.Stalled e else offer.judged_later (offer.broken_later terms x e) x e).answer ≡ true
    → (if b then offer.silent Verdict.Stalled e else offer.judged_later (offer.broken_later terms x e) x e)
    ≡ offer.taken x e = elim [ true ↦ λ h. absurd cc | false ↦ λ h. later (offer.broken_later terms x e) h ] in
    let before : (o : Option Rule) → is_taken (offer.judged o terms x e).answer ≡ true → offer.judged o terms x e
    ≡ offer.taken x e = elim [ None ↦ λ h. waiting (offer.waits x e.past) h | Some rule ↦ λ h. absurd cc ] in
    before (offer.broken_before terms ch x e) is

-- the step, where a client takes the beat
pub record IsTakenByClient {w : ℕ} (terms : client.EndConfig) (c : ℕ) (ch : Channel) (x : Beat w)
    (queue : List (Beat w)) (sys : System w) (step : Step w) : Type 0 where
  pub verdict_is : Verdict
  pub message : Option (Message w)
  pub takes : offer.offered terms ch x (sys.clients c) ≡ offer.taken x (sys.clients c)
  pub answer : (offer.taken x (sys.clients c)).answer ≡ Ok (verdict_is, message)
  pub heard : after.heard (offer.offered terms ch x (sys.clients c)).answer x (sys.clients c).past
      ≡ x ∷ (sys.clients c).past
  pub step_is : step ≡ handing (outcome_of x verdict_is) (handed_by c message)
      (with_client c (offer.taken x (sys.clients c)).after (with_channel c ch queue sys))

client_moves : {w : ℕ} (terms : client.EndConfig) (c : ℕ) (ch : Channel) (x : Beat w) (queue : List (Beat w))
    (sys : System w)
    → is_moving (client_took c ch x queue (offer.offered terms ch x (sys.clients c)) sys).outcome ≡ true
    → IsTakenByClient terms c ch x queue sys (client_took c ch x queue (offer.offered terms ch x (sys.clients c)) sys)
client_moves {w} terms c ch x queue sys moving = go (offer.offered terms ch x (sys.clients c)).answer refl moving
  where
    o : Offered w
    o = offer.offered terms ch x (sys.clients c)

    made : (v : Verdict) (m : Option (Message w)) → o.answer ≡ Ok (v, m) → is_taken {w = w} (Ok (v, m)) ≡ true
        → after.heard (Ok (v, m)) x (sys.clients c).past ≡ x ∷ (sys.clients c).past
        → judged (Ok (v, m)) c ch x queue o.after sys ≡ handing (outcome_of x v) (handed_by c m)
        (with_client c o.after (with_channel c ch queue sys))
        → IsTakenByClient terms c ch x queue sys (judged o.answer c ch x queue o.after sys)
    made v m e taken heard is =
        let takes = offered-taken terms ch x _ (ap is_taken e ∙ taken) in
        record {
          verdict_is = v;
          message = m;
          takes = takes;
          answer = ap (λ p. p.answer) (sym takes) ∙ e;
          heard = ap (λ a. after.heard a x (sys.clients c).past) e ∙ heard;
          step_is = cc (e, is, takes);
        }

    go : (a : Result (Verdict × Option (Message w)) Rule) → o.answer ≡ a
        → is_moving (judged a c ch x queue o.after sys).outcome ≡ true
        → IsTakenByClient terms c ch x queue sys (judged o.answer c ch x queue o.after sys)
    go a e f = grind (arith, made)

pub client-moves : {w : ℕ} (config : Config) (link : Link) (ch : Channel) (sys : System w) (terms : client.EndConfig)
    (x : Beat w) (queue : List (Beat w)) → terms_at config link.0 ≡ Some terms → sys.channels link.0 ch ≡ x ∷ queue
    → is_to_client ch ≡ true → is_moving (stepped config (Deliver link ch) sys).outcome ≡ true
    → IsTakenByClient terms link.0 ch x queue sys (stepped config (Deliver link ch) sys)
client-moves {w} config link ch sys terms x queue known first up moving =
    let same : (a b : Step w) → a ≡ b → IsTakenByClient terms link.0 ch x queue sys b
    → IsTakenByClient terms link.0 ch x queue sys a = λ a b e h. rw e h in
    let step = stepped-to-client config link ch sys terms x queue known first up in
    same (stepped config (Deliver link ch) sys)
    (client_took link.0 ch x queue (offer.offered terms ch x (sys.clients link.0)) sys) step
    (client_moves terms link.0 ch x queue sys (ap (λ y. is_moving y.outcome) (sym step) ∙ moving))

pub client-heard : {w : ℕ} {terms : client.EndConfig} {c : ℕ} {ch : Channel} {x : Beat w} {queue : List (Beat w)}
    {sys : System w} {step : Step w} → IsWidth w → client_kept.IsEndpointInvariant (sys.clients c)
    → IsTakenByClient terms c ch x queue sys step → HasHeard x (sys.clients c) (offer.taken x (sys.clients c)).after
client-heard {w} {terms} {c} {ch} {x} {sys} width kept is at =
    cc (is.takes, unfinished-offered terms ch x (sys.clients c) at width kept, is.heard)

-- ---- to the manager

pub offered-passes : {w : ℕ} (config : Config) (link : Link) (ch : Channel) (x : Beat w) (e : manager_end.End w)
    (handed : Handed w) → (manager_offer.offered config link ch x e).0 ≡ manager_offer.Sent handed
    → manager_offer.offered config link ch x e ≡ (
      manager_offer.Sent (manager_reaction.reaction config link x e).handed,
      manager_offer.taken link x (manager_reaction.reaction config link x e) e,
    )
unfolding manager_offer.offered
offered-passes {w} config link ch x e handed is = grind arith

-- the step, where the manager takes the beat
pub record IsTakenByManager {w : ℕ} (config : Config) (link : Link) (ch : Channel) (x : Beat w) (queue : List (Beat w))
    (sys : System w) (step : Step w) : Type 0 where
  pub takes : manager_offer.offered config link ch x sys.manager ≡ (
    manager_offer.Sent (manager_reaction.reaction config link x sys.manager).handed,
    manager_offer.taken link x (manager_reaction.reaction config link x sys.manager) sys.manager,
  )
  pub step_is : step ≡ handing (Outcome.Moved x) (manager_reaction.reaction config link x sys.manager).handed
      (with_manager (manager_offer.taken link x (manager_reaction.reaction config link x sys.manager) sys.manager)
      (with_channel link.0 ch queue sys))

manager_moves : {w : ℕ} (config : Config) (link : Link) (ch : Channel) (x : Beat w) (queue : List (Beat w))
    (sys : System w) → is_moving (manager_took link.0 ch x queue (manager_offer.offered config link ch x sys.manager)
    sys).outcome ≡ true → IsTakenByManager config link ch x queue sys
    (manager_took link.0 ch x queue (manager_offer.offered config link ch x sys.manager) sys)
manager_moves {w} config link ch x queue sys moving = go (manager_offer.offered config link ch x sys.manager) refl
    moving
  where
    go : (a : manager_offer.Reception w × manager_end.End w) → manager_offer.offered config link ch x sys.manager ≡ a
        → is_moving (manager_took link.0 ch x queue a sys).outcome ≡ true
        → IsTakenByManager config link ch x queue sys
        (manager_took link.0 ch x queue (manager_offer.offered config link ch x sys.manager) sys)
    go (manager_offer.Sent handed, e) f h =
        let takes = offered-passes config link ch x _ handed (ap (λ p. p.0) f) in
        record { takes = takes; step_is = ap (λ p. manager_took link.0 ch x queue p sys) takes }
    go a f h = absurd cc

pub manager-moves : {w : ℕ} (config : Config) (link : Link) (ch : Channel) (sys : System w) (terms : client.EndConfig)
    (x : Beat w) (queue : List (Beat w)) → terms_at config link.0 ≡ Some terms → sys.channels link.0 ch ≡ x ∷ queue
    → is_to_client ch ≡ false → is_moving (stepped config (Deliver link ch) sys).outcome ≡ true
    → IsTakenByManager config link ch x queue sys (stepped config (Deliver link ch) sys)
manager-moves {w} config link ch sys terms x queue known first down moving =
    let same : (a b : Step w) → a ≡ b → IsTakenByManager config link ch x queue sys b
    → IsTakenByManager config link ch x queue sys a = λ a b e h. rw e h in
    let step = stepped-to-manager config link ch sys terms x queue known first down in
    same (stepped config (Deliver link ch) sys)
    (manager_took link.0 ch x queue (manager_offer.offered config link ch x sys.manager) sys) step
    (manager_moves config link ch x queue sys (ap (λ y. is_moving y.outcome) (sym step) ∙ moving))

pub manager-heard : {w : ℕ} (config : Config) (link : Link) (ch : Channel) (x : Beat w) (queue : List (Beat w))
    (sys : System w) (step : Step w) → IsWidth w → manager.IsTyped x → manager.IsKept config sys.manager
    → IsTakenByManager config link ch x queue sys step
    → HasTaken link.0 x sys.manager (manager_offer.taken link x (manager_reaction.reaction config link x sys.manager)
    sys.manager)
manager-heard {w} config link ch x queue sys step width typed kept is d = λ at. go at
  where
    one : (at : Channel) → is_of_clients at ≡ true → unfinished at
        (on_link d (manager_offer.taken link x (manager_reaction.reaction config link x sys.manager) sys.manager).trace)
        ≡ unfinished at
        (if link.0 == d then x ∷ on_link d sys.manager.trace else on_link d sys.manager.trace)
    one at up = ap (λ p. unfinished at (on_link d p.1.trace)) (sym is.takes)
        ∙ manager_after.unfinished-offered config link ch x sys.manager d at width typed kept up
        ∙ ap (λ p. unfinished at (taken_after p.0 (link, x) d (on_link d sys.manager.trace))) is.takes

    go : (at : Channel) → is_to_client at ≡ false → unfinished at
        (on_link d (manager_offer.taken link x (manager_reaction.reaction config link x sys.manager) sys.manager).trace)
        ≡ unfinished at
        (if link.0 == d then x ∷ on_link d sys.manager.trace else on_link d sys.manager.trace)
    go at e = grind (arith, one)

-- ---- a beat that isn't the last of its message

pub carried-part : {w : ℕ} (mail : AccessMessages w) (s : State (List ℕ)) {c : ℕ} {ch : Channel} {x : Beat w}
    {queue : List (Beat w)} {pushes : ℕ → Channel → Option (Message w)} {sys sys' : System w} → IsWidth w
    → IsLanded c ch x queue pushes sys sys' → ((d : ℕ) (at : Channel) → pushes d at ≡ None)
    → completes x (unfinished ch (receiver ch c sys)) ≡ false → ChannelRelation mail s sys → ChannelRelation mail s sys'
carried-part {w} mail s {c} {ch} {x} {queue} {sys} {sys'} width is none part h d at =
    go (cases_eq d c) (same_channel at ch) refl
  where
    rest : ℕ → Channel → List (Beat w)
    rest i j = unfinished j (receiver j i sys)

    moved : (r q : List (Beat w)) → unfinished at (receiver at d sys') ≡ r → sys'.channels d at ≡ q
        → IsCarried r (messages_on at mail s d) q
        → IsCarried (unfinished at (receiver at d sys')) (messages_on at mail s d) (sys'.channels d at)
    moved r q e f i = rw (e, f) i

    channel_is : sys'.channels d at ≡ (if (d == c) && same_channel at ch then queue else sys.channels d at)
    channel_is = cc (is.channels d at, none d at)

    first : (ms : List (Message w)) → IsCarried (rest c ch) ms (x ∷ queue) → IsCarried (grown x (rest c ch)) ms queue
    first [] i = absurd (let e : x ∷ queue ≡ [] = i.1 in cc)
    first (m ∷ ms) i =
        let next = carried-next x _ m ms queue (λ n. beats-positive n width) i in
        let more = next.more (before next.k (beats_of m) next.within (sym next.completes_is ∙ part)) in
        rw (more.0) more.1
      where
        before : (k n : ℕ) → k < n → (k + 1 == n) ≡ false → k + 1 < n
        before k n le ne = grind (arith, same_number)

    go : (d ≡ c) ⊎ (d ≡ c → ⊥) → (b : Bool) → same_channel at ch ≡ b
        → IsCarried (unfinished at (receiver at d sys')) (messages_on at mail s d) (sys'.channels d at)
    go (inl same) true e = moved (grown x (rest d at)) queue (is.rests d at ∙ rw (same, same_number c, e) refl)
        (channel_is ∙ rw (same, same_number c, e) refl)
        (rw (same, same_channel-is at ch e) (first (messages_on ch mail s c) (rw is.first at (h c ch))))
    go (inl same) false e = moved _ _ (is.rests d at ∙ rw (same, same_number c, e) refl)
        (channel_is ∙ rw (same, same_number c, e) refl) (h d at)
    go (inr other) b e = moved _ _ (is.rests d at ∙ rw (ne_eqb d c other) refl)
        (channel_is ∙ rw (ne_eqb d c other) refl) (h d at)

-- a delivery that completes a message: the beat is moved, and is the last of the message of the first token
pub record IsDelivery {w : ℕ} (config : Config) (mail : AccessMessages w) (s : State (List ℕ)) (sys : System w)
    (link : Link) (ch : Channel) (x : Beat w) (queue : List (Beat w)) : Type 0 where
  pub moves : is_moving (stepped config (Deliver link ch) sys).outcome ≡ true
  pub beats : sys.channels link.0 ch ≡ x ∷ queue
  pub whole : completes x (unfinished ch (receiver ch link.0 sys)) ≡ true
  pub first : IsFirst ch link.0 mail s sys x queue

-- what the protocol does then
abbrev pub taken_of : {w : ℕ} → Config → AccessMessages w → (ℕ → MessageA w) → (s : State (List ℕ)) → (sys : System w)
    → ℕ → Kind → ℕ → List Packet → AbstractState w
taken_of config mail request s sys c k i rest =
    kind_taken config (next_tracker sys) c k i rest (shadow_of mail request s)

pub delivered-cases : {w : ℕ} {config : Config} {log : Log w} {mail : AccessMessages w} {request : ℕ → MessageA w}
    {s : State (List ℕ)} {sys : System w} (link : Link) (ch : Channel) (P : AbstractState w → Type 0) → IsWidth w
    → SimulationRelation config log mail request s sys → P (shadow_of mail request s)
    → ((x : Beat w) (queue : List (Beat w)) (d : IsDelivery config mail s sys link ch x queue)
    → P (taken_of config mail request s sys link.0 d.first.kind d.first.number d.first.rest))
    → P (abstract_delivery config link.0 ch (stepped config (Deliver link ch) sys).outcome sys
    (shadow_of mail request s))
delivered-cases {w} {config} {mail} {request} {s} {sys} link ch P width h none kinds = go (sys.channels link.0 ch) refl
  where
    before : AbstractState w
    before = shadow_of mail request s

    o : Outcome w
    o = (stepped config (Deliver link ch) sys).outcome

    rest_now : List (Beat w)
    rest_now = unfinished ch (receiver ch link.0 sys)

    event : AbstractState w
    event = packet_taken config (next_tracker sys) link.0 (packets_on ch (s.link link.0)) before

    taken : (x : Beat w) (queue : List (Beat w)) → IsDelivery config mail s sys link ch x queue → P event
    taken x queue d = rw d.first.tokens (kinds x queue d)

    either : (x y : Bool) → (x ≡ true → y ≡ true → P event) → P (if x && y then event else before)
    either x y e = grind (arith, none)

    go : (beats : List (Beat w)) → sys.channels link.0 ch ≡ beats
        → P (if is_moving o && is_last (sys.channels link.0 ch) rest_now then event else before)
    go [] e = either (is_moving o) (is_last (sys.channels link.0 ch) rest_now)
        (λ moves last. absurd (let no : false ≡ true = sym (ap (λ beats. is_last beats rest_now) e) ∙ last in cc))
    go (x ∷ queue) e = either (is_moving o) (is_last (sys.channels link.0 ch) rest_now)
        (λ moves last. taken x queue (record {
          moves = moves;
          beats = e;
          whole = sym (ap (λ beats. is_last beats rest_now) e) ∙ last;
          first = first-token (is_caching config) ch link.0 mail s sys x queue width h.invariant h.carried e;
        }))

pub asked-cases : {w : ℕ} (config : Config) (log : Log w) (mail : AccessMessages w) (request : ℕ → MessageA w)
    (s : State (List ℕ)) (sys : System w) (c : ℕ) (operation : Op w) (o : Option EndConfig) (P : AbstractState w
    → Type 0) → terms_at config c ≡ o → P (shadow_of mail request s)
    → ((terms : EndConfig) → terms_at config c ≡ Some terms
    → P (asked c operation (ask.asked terms operation (sys.clients c)).reply (shadow_of mail request s)))
    → P (abstract_step_by config (Ask c operation) (stepped_at config o (Ask c operation) sys).outcome sys
    (shadow_of mail request s))
asked-cases config log mail request s sys c operation None P at none asks = none
asked-cases config log mail request s sys c operation (Some terms) P at none asks = asks terms at

asked_now : {w : ℕ} (config : Config) (mail : AccessMessages w) (request : ℕ → MessageA w) (s : State (List ℕ))
    (sys : System w) (c : ℕ) (operation : Op w) (P : AbstractState w → Type 0)
    → P (abstract_step_by config (Ask c operation) (stepped_at config (terms_at config c) (Ask c operation) sys).outcome
    sys (shadow_of mail request s)) → P (abstract_step config (Ask c operation) sys (shadow_of mail request s))
unfolding stepped
asked_now config mail request s sys c operation P is = is

-- what holds of the protocol as it is, after what a client was asked for, and after the first token of each channel
-- where its message is complete, holds as it follows the event
pub followed-cases : {w : ℕ} {config : Config} {log : Log w} {mail : AccessMessages w} {request : ℕ → MessageA w}
    {s : State (List ℕ)} {sys : System w} (event : Event w) (P : AbstractState w → Type 0) → IsWidth w
    → SimulationRelation config log mail request s sys → P (shadow_of mail request s)
    → ((terms : EndConfig) (c : ℕ) (operation : Op w) → terms_at config c ≡ Some terms
    → P (asked c operation (ask.asked terms operation (sys.clients c)).reply (shadow_of mail request s)))
    → ((link : Link) (ch : Channel) (x : Beat w) (queue : List (Beat w))
    (d : IsDelivery config mail s sys link ch x queue)
    → P (taken_of config mail request s sys link.0 d.first.kind d.first.number d.first.rest))
    → P (abstract_step config event sys (shadow_of mail request s))
followed-cases {config} {log} {mail} {request} {s} {sys} (Ask c operation) P width h none asks kinds =
    asked_now config mail request s sys c operation P (asked-cases config log mail request s sys c operation
    (terms_at config c) P refl none (λ terms at. asks terms c operation at))
followed-cases (Deliver link ch) P width h none asks kinds =
    delivered-cases link ch P width h none (λ x queue d. kinds link ch x queue d)

-- ---- answers and Grants that are on their way

-- the first token of its kind
pub on-first : {w : ℕ} {config : Config} {mail : AccessMessages w} {s : State (List ℕ)} {sys : System w} {link : Link}
    {ch : Channel} {x : Beat w} {queue : List (Beat w)} (d : IsDelivery config mail s sys link ch x queue)
    → on d.first.kind (s.link link.0) ≡ packet d.first.kind d.first.number ∷ d.first.rest
on-first {s} {link} {ch} d = on_same ch _ (s.link link.0) d.first.own ∙ d.first.tokens

pub answered-followed : {w : ℕ} {config : Config} {log : Log w} {mail : AccessMessages w} {request : ℕ → MessageA w}
    {s : State (List ℕ)} {sys : System w}
    (event : Event w) → IsWidth w → SimulationRelation config log mail request s sys
    → AreAnswered (abstract_step config event sys (shadow_of mail request s)).mail
    (abstract_step config event sys (shadow_of mail request s)).state
answered-followed {mail} {request} {s} {sys} event width h = followed-cases event (λ x. AreAnswered x.mail x.state)
    width h h.answered (λ terms c o at. answered-asked c o (ask.asked terms o (sys.clients c)).reply _ h.answered)
    (λ link ch x queue d. answered-kind_taken (next_tracker sys) link.0 _ _ _ _ h (on-first d))

pub given-followed : {w : ℕ} {config : Config} {log : Log w} {mail : AccessMessages w} {request : ℕ → MessageA w}
    {s : State (List ℕ)} {sys : System w} (event : Event w)
    → IsWidth w → SimulationRelation config log mail request s sys
    → AreGiven config.profile (abstract_step config event sys (shadow_of mail request s)).state
given-followed {config} {mail} {request} {s} {sys} event width h = followed-cases event (λ x. AreGiven config.profile
    x.state) width h h.given (λ terms c o at. given-asked _ c o _ _ h.invariant (askable terms c o h at) h.given)
    (λ link ch x queue d. given-kind_taken config (next_tracker sys) link.0 d.first.kind d.first.number d.first.rest _
    h.given)

pub invariant-asked : {w : ℕ} {config : Config} {log : Log w} {mail : AccessMessages w} {request : ℕ → MessageA w}
    {s : State (List ℕ)} {sys : System w} (terms : EndConfig) (c : ℕ) (o : Op w)
    → SimulationRelation config log mail request s sys → terms_at config c ≡ Some terms
    → IsInvariant (is_caching config) (asked c o (ask.asked terms o (sys.clients c)).reply
    (shadow_of mail request s)).state
invariant-asked {mail} {request} {s} {sys} terms c o h at = asked-kept c o _ _ h.invariant (askable terms c o h at)

pub nobody_moves : {w : ℕ} (config : Config) (sys : System w) (link : Link) (ch : Channel)
    → terms_at config link.0 ≡ None → is_moving (stepped config (Deliver link ch) sys).outcome ≡ false
unfolding stepped
nobody_moves config sys link ch none = cc none

-- a Probe that is moved doesn't wait for a Release
probe_ready : {w : ℕ} {config : Config} {log : Log w} {mail : AccessMessages w} {request : ℕ → MessageA w}
    {s : State (List ℕ)} {sys : System w} (link : Link) (n : ℕ) (rest : List Packet) {x : Beat w}
    {queue : List (Beat w)} → IsWidth w → SimulationRelation config log mail request s sys
    → is_moving (stepped config (Deliver link Channel.B) sys).outcome ≡ true → sys.channels link.0 Channel.B ≡ x ∷ queue
    → (s.link link.0).b ≡ packet Probe n ∷ rest → IsNext x (unfinished Channel.B (sys.clients link.0).past)
    (message_of_kind Probe mail s link.0 n) (map (message_of mail s link.0) rest) queue
    → ((s.block n).pair link.0).letting ≡ NoRelease
probe_ready {w} {config} {log} {mail} {request} {s} {sys} link n rest {x} {queue} width h moves beats first next =
    at_terms (terms_at config link.0) refl
  where
    stands : (terms : EndConfig) → terms_at config link.0 ≡ Some terms → (b : Bool)
        → is_unreleased ((s.block n).pair link.0).letting ≡ b → ((s.block n).pair link.0).letting ≡ NoRelease
    stands terms at true kept = kept-letting ((s.block n).pair link.0).letting (ap not kept)
    stands terms at false waits =
        let probed = probe-delivered terms (next_tracker sys) link.0 n rest width h at beats first next in
        let step : is_moving (stepped config (Deliver link Channel.B) sys).outcome ≡ false =
        ap (λ i. is_moving i.outcome) (stepped-to-client config link Channel.B sys terms x queue at beats refl)
        ∙ ap (λ o. is_moving (client_took link.0 Channel.B x queue o sys).outcome) (probed.waits_for waits) in
        absurd (let no : true ≡ false = sym moves ∙ step in cc)

    at_terms : (o : Option EndConfig) → terms_at config link.0 ≡ o → ((s.block n).pair link.0).letting ≡ NoRelease
    at_terms None at = absurd (let no : true ≡ false = sym moves ∙ nobody_moves config sys link Channel.B at in cc)
    at_terms (Some terms) at = stands terms at (is_unreleased ((s.block n).pair link.0).letting) refl

-- what a client takes, it may take
pub ready-client : {w : ℕ} {config : Config} {log : Log w} {mail : AccessMessages w} {request : ℕ → MessageA w}
    {s : State (List ℕ)} {sys : System w} (link : Link) (ch : Channel) (k : Kind) (i : ℕ) (rest : List Packet)
    {x : Beat w} {queue : List (Beat w)} → IsWidth w → SimulationRelation config log mail request s sys
    → is_to_client ch ≡ true → is_on ch k ≡ true → is_moving (stepped config (Deliver link ch) sys).outcome ≡ true
    → sys.channels link.0 ch ≡ x ∷ queue → packets_on ch (s.link link.0) ≡ packet k i ∷ rest
    → IsNext x (unfinished ch (receiver ch link.0 sys)) (message_of_kind k mail s link.0 i)
    (map (message_of mail s link.0) rest) queue → IsReady (next_tracker sys) link.0 k i (shadow_of mail request s)
ready-client link Channel.B Probe i rest
    width h up own moves beats first next = probe_ready link i rest width h moves beats first next
ready-client link Channel.D Answer i rest width h up own moves beats first next = tt
ready-client link Channel.D Grant i rest width h up own moves beats first next = tt
ready-client link Channel.D ReleaseAck i rest width h up own moves beats first next = tt
ready-client link ch k i rest width h up own moves beats first next = absurd cc
