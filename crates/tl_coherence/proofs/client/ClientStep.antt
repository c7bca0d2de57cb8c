-- The clients' ends after one of them is asked, and after the manager takes a beat.
-- Clients' ends after every event: each is that of the protocol as it follows.
use Rattle.std.proofs.Common.{◌≡◌, ℕ, Bool, true, false, not, if◌then◌else◌, List, [], ◌∷◌, Option, Some, None, Result}
use Rattle.std.proofs.Common.{refl, sym, ◌∙◌, ap, subst, arith, ◌⊎◌, inl, inr}
use Rattle.tl_coherence.proofs
use proofs.Imports.{cases_eq, Beat, Link, Channel, IsWidth, Message, MessageA, unfinished, completes, Config, Rule}
use proofs.Imports.{kept_up, Op, Verdict, is_refused, EndConfig, Endpoint, Offered, is_stalled, taken, offered}
use proofs.Imports.{trackers_of, least_untaken, services, Event, Ask, Deliver, IsInvariant, Kind, is_unreleased, State}
use proofs.Imports.{is_on, packets_on, AbstractState, abstract_step, abstract_step_by, asked, packet_taken}
use proofs.Imports.{AccessMessages, SimulationRelation, is_caching, receiver, is_moving, Log, Step, client_of}
use proofs.Imports.{client_took, handed_by, is_to_client, judged, manager_took, replied, stepped_at, stepped, System}
use proofs.Imports.{terms_at, with_channel, with_client, with_manager, with_messages}
use Rattle.tl_coherence.specs.refinement.AbstractStep.{is_last}
use Rattle.tl_coherence.specs.statement.Step as step
use Rattle.tl_client.specs.statement.Ask as ask
use Rattle.tl_manager.specs.statement.End as manager_end
use Rattle.tl_manager.specs.statement.Offer as manager
use Rattle.tl_client.proofs.endpoint.Stalls.{taken_now}
use proofs.client.{ClientDelivered.shadow_of, ClientDelivered.delivered-d, ClientEnd.end-matched, ClientEnd.end-aside}
use proofs.client.{ClientAsked.IsEndOf, ClientAsked.end-asked, ProbeDelivered.IsProbed, ProbeDelivered.delivered-b}
use proofs.client.AsideAll.{Leaves, leaves-none, leaves-asked, is_for_manager, leaves-at_manager, leaves-at_client}
use proofs.queues.{Steps.clients-with_messages, Moves.kind_channel, Moves.on_same}
use proofs.queues.FirstToken.{IsFirst, first-token}

-- all ends are those of the protocol after this step
abbrev pub AreEnds : {w : ℕ} → Config → Event w → System w → AbstractState w → ℕ → Step w → Type 0
AreEnds config event sys h c step = IsEndOf c (abstract_step_by config event step.outcome sys h) (step.after.clients c)

-- an end that is left alone
pub left_alone : {w : ℕ} (c : ℕ) (h h' : AbstractState w) (e f : Endpoint w) → Leaves c h h' → f ≡ e → IsEndOf c h e
    → IsEndOf c h' f
left_alone c h h' e f leaves same end = subst (λ x. IsEndOf c h' x) (sym same) (end-aside leaves end)

-- ---- a client is asked

pub own_client : {w : ℕ} (c : ℕ) (e : Endpoint w) (s : System w) → (with_client c e s).clients c ≡ e
own_client {w} c e s = grind arith

pub other_client : {w : ℕ} (k c : ℕ) (e : Endpoint w) (s : System w) → (k ≡ c → ⊥)
    → (with_client c e s).clients k ≡ s.clients k
other_client {w} k c e s ne = grind arith

pub asked_ends : {w : ℕ} {config : Config} {log : Log w} {mail : AccessMessages w} {request : ℕ → MessageA w}
    {s : State (List ℕ)} {sys : System w} (terms : EndConfig) (c k : ℕ)
    (o : Op w) → IsWidth w → SimulationRelation config log mail request s sys
    → AreEnds config (Ask c o) sys (shadow_of mail request s) k (replied c (ask.asked terms o (sys.clients c)) sys)
asked_ends {w} {mail} {request} {s} {sys} terms c k o width h =
    let a : ask.Asked w = ask.asked terms o (sys.clients c) in
    let now : (i : ℕ) → (replied c a sys).after.clients i ≡ (with_client c a.after sys).clients i =
    λ i. ap (λ f. f i) (clients-with_messages (handed_by c a.message) (with_client c a.after sys)) in
    elim (cases_eq k c) [
      | inl same ↦ rw same (rw (now c ∙ own_client c a.after sys)
          (end-asked terms c o (shadow_of mail request s) (sys.clients c) width h.invariant.named (end-matched h c)))
      | inr other ↦ left_alone k (shadow_of mail request s) (asked c o a.reply (shadow_of mail request s))
          _ _ (leaves-asked c o a.reply (shadow_of mail request s) k
          other) (now k ∙ other_client k c a.after sys other) (end-matched h k)
    ]

-- ---- the manager takes a beat

-- the kinds of the channels to the manager, and to a client
manager_kind : (ch : Channel) (k : Kind) → is_to_client ch ≡ false → is_on ch k ≡ true → is_for_manager k ≡ true
manager_kind ch k down own = ap (λ i. not (is_to_client i)) (kind_channel ch k own) ∙ ap not down

pub client_kind : (ch : Channel) (k : Kind) → is_to_client ch ≡ true → is_on ch k ≡ true → is_for_manager k ≡ false
client_kind ch k up own = ap (λ i. not (is_to_client i)) (kind_channel ch k own) ∙ ap not up

-- a message that the manager takes leaves all ends alone
manager_leaves : {w : ℕ} {caching : ℕ → Bool} (config : Config) (tracker : ℕ) {c : ℕ} {ch : Channel}
    (h : AbstractState w) (d : ℕ) {sys : System w} {x : Beat w} {queue : List (Beat w)} → is_to_client ch ≡ false
    → IsInvariant caching h.state → IsFirst ch c h.mail h.state sys x queue
    → Leaves d h (packet_taken config tracker c (packets_on ch (h.state.link c)) h)
manager_leaves config tracker {c} {ch} h d down inv first =
    rw first.tokens (leaves-at_manager config tracker c first.kind first.number first.rest h d
    (manager_kind ch first.kind down first.own) inv (on_same ch first.kind (h.state.link c) first.own ∙ first.tokens))

pub manager_ends : {w : ℕ} {config : Config} {log : Log w} {mail : AccessMessages w} {request : ℕ → MessageA w}
    {s : State (List ℕ)} {sys : System w} (link : Link) (ch : Channel) (k : ℕ) (x : Beat w) (queue : List (Beat w))
    (a : manager.Reception w × manager_end.End w) → IsWidth w → SimulationRelation config log mail request s sys
    → sys.channels link.0 ch ≡ x ∷ queue → is_to_client ch ≡ false
    → AreEnds config (Deliver link ch) sys (shadow_of mail request s) k (manager_took link.0 ch x queue a sys)
manager_ends link ch k x queue (manager.Refused rule, e) width h beats down = end-matched h k
manager_ends link ch k x queue (manager.Stalled, e) width h beats down = end-matched h k
manager_ends {w} {config} {mail} {request} {s} {sys} link ch k x queue (manager.Sent handed, e) width h beats down =
    go (is_last (sys.channels link.0 ch) (unfinished ch (receiver ch link.0 sys)))
  where
    before : AbstractState w
    before = shadow_of mail request s

    tracker : ℕ
    tracker = least_untaken (trackers_of (services sys.manager.trace))

    same : (with_messages handed (with_manager e (with_channel link.0 ch queue sys))).clients k ≡ sys.clients k
    same = cc (clients-with_messages handed (with_manager e (with_channel link.0 ch queue sys)))

    go : (b : Bool) → IsEndOf k (if b then packet_taken config tracker link.0 (packets_on ch (s.link link.0)) before
        else before) ((with_messages handed (with_manager e (with_channel link.0 ch queue sys))).clients k)
    go true = left_alone k before (packet_taken config tracker link.0 (packets_on ch (s.link link.0)) before) _ _
        (manager_leaves config tracker before k down h.invariant (first-token (is_caching config) ch link.0 mail s sys x
        queue width h.invariant h.carried beats)) same (end-matched h k)
    go false = left_alone k before before _ _ (leaves-none k before) same (end-matched h k)

-- ---- a client takes a beat

-- a beat that is taken is moved, and the client's end is that of the answer
moved : {w : ℕ} (a : Result (Verdict × Option (Message w)) Rule) (c : ℕ) (ch : Channel) (x : Beat w)
    (queue : List (Beat w)) (e : Endpoint w) (s : System w) → is_refused a ≡ false → is_stalled a ≡ false
    → (is_moving (judged a c ch x queue e s).outcome ≡ true)
    × ((judged a c ch x queue e s).after.clients ≡ (with_client c e (with_channel c ch queue s)).clients)
moved a c ch x queue e s f g = grind (arith, clients-with_messages)

-- a message that one client takes leaves the others' ends alone
client_leaves : {w : ℕ} (config : Config) (tracker : ℕ) {c : ℕ} {ch : Channel} (h : AbstractState w) (d : ℕ)
    {sys : System w} {x : Beat w} {queue : List (Beat w)} → is_to_client ch ≡ true → (d ≡ c → ⊥)
    → IsFirst ch c h.mail h.state sys x queue
    → Leaves d h (packet_taken config tracker c (packets_on ch (h.state.link c)) h)
client_leaves {w} config tracker {c} {ch} h d up other first = grind (arith, leaves-at_client, client_kind)

-- the beat was taken: the ends after its step, given the client's own
taken_ends : {w : ℕ} {config : Config} {log : Log w} {mail : AccessMessages w} {request : ℕ → MessageA w}
    {s : State (List ℕ)} {sys : System w} (link : Link) (ch : Channel) (k : ℕ) (x : Beat w) (queue : List (Beat w))
    (o : Offered w) → IsWidth w → SimulationRelation config log mail request s sys → sys.channels link.0 ch ≡ x ∷ queue
    → is_to_client ch ≡ true → o ≡ taken x (sys.clients link.0)
    → (completes x (unfinished ch (receiver ch link.0 sys)) ≡ false
    → IsEndOf link.0 (shadow_of mail request s) (taken x (sys.clients link.0)).after)
    → (completes x (unfinished ch (receiver ch link.0 sys)) ≡ true
    → IsEndOf link.0 (packet_taken config (least_untaken (trackers_of (services sys.manager.trace))) link.0
    (packets_on ch (s.link link.0)) (shadow_of mail request s)) (taken x (sys.clients link.0)).after)
    → AreEnds config (Deliver link ch) sys (shadow_of mail request s) k (client_took link.0 ch x queue o sys)
taken_ends {w} {config} {mail} {request} {s} {sys} link ch k x queue o width h beats up takes more last =
    let moves = moved t.answer link.0 ch x queue t.after sys (kept_up x (sys.clients link.0))
    (taken_now x (sys.clients link.0)) in
    subst (λ y. AreEnds config (Deliver link ch) sys before k
    (client_took link.0 ch x queue y sys)) (sym takes) (rw moves.0
    (subst (λ f. IsEndOf k (if is_last (sys.channels link.0 ch) rest_now then event else before) (f k)) (sym moves.1)
    (rw (ap (λ beats_. is_last beats_ rest_now) beats) (go (completes x rest_now) refl (cases_eq k link.0)))))
  where
    before : AbstractState w
    before = shadow_of mail request s

    rest_now : List (Beat w)
    rest_now = unfinished ch (receiver ch link.0 sys)

    event : AbstractState w
    event = packet_taken config (least_untaken (trackers_of (services sys.manager.trace))) link.0
        (packets_on ch (s.link link.0)) before

    t : Offered w
    t = taken x (sys.clients link.0)

    after : System w
    after = with_client link.0 t.after (with_channel link.0 ch queue sys)

    others : (k ≡ link.0 → ⊥) → after.clients k ≡ sys.clients k
    others ne = other_client k link.0 t.after (with_channel link.0 ch queue sys) ne

    own : k ≡ link.0 → after.clients k ≡ t.after
    own same = ap after.clients same ∙ own_client link.0 t.after (with_channel link.0 ch queue sys)

    go : (b : Bool) → completes x rest_now ≡ b → (k ≡ link.0) ⊎ (k ≡ link.0 → ⊥)
        → IsEndOf k (if b then event else before) (after.clients k)
    go true done (inl same) = rw (own same) (subst (λ i. IsEndOf i event t.after) (sym same) (last done))
    go false goes (inl same) = rw (own same) (subst (λ i. IsEndOf i before t.after) (sym same) (more goes))
    go true done (inr ne) = left_alone k before event _ _ (client_leaves config
        (least_untaken (trackers_of (services sys.manager.trace))) before k up ne (first-token (is_caching config) ch
        link.0 mail s sys x queue width h.invariant h.carried beats)) (others ne) (end-matched h k)
    go false goes (inr ne) = left_alone k before before _ _ (leaves-none k before) (others ne) (end-matched h k)

d_ends : {w : ℕ} {config : Config} {log : Log w} {mail : AccessMessages w} {request : ℕ → MessageA w}
    {s : State (List ℕ)} {sys : System w} (terms : EndConfig) (link : Link) (k : ℕ) (x : Beat w) (queue : List (Beat w))
    → IsWidth w → SimulationRelation config log mail request s sys → terms_at config link.0 ≡ Some terms
    → sys.channels link.0 Channel.D ≡ x ∷ queue → AreEnds config (Deliver link Channel.D) sys (shadow_of mail request s)
    k (client_took link.0 Channel.D x queue (offered terms Channel.D x (sys.clients link.0)) sys)
d_ends {sys} terms link k x queue width h at beats =
    let is = delivered-d terms (least_untaken (trackers_of (services sys.manager.trace)))
    link.0 x queue width h at beats in
    taken_ends link Channel.D k x queue _ width h beats refl is.takes is.more is.last

b_ends : {w : ℕ} {config : Config} {log : Log w} {mail : AccessMessages w} {request : ℕ → MessageA w}
    {s : State (List ℕ)} {sys : System w} (terms : EndConfig) (link : Link) (k : ℕ) (x : Beat w) (queue : List (Beat w))
    → IsWidth w → SimulationRelation config log mail request s sys → terms_at config link.0 ≡ Some terms
    → sys.channels link.0 Channel.B ≡ x ∷ queue → AreEnds config (Deliver link Channel.B) sys (shadow_of mail request s)
    k (client_took link.0 Channel.B x queue (offered terms Channel.B x (sys.clients link.0)) sys)
b_ends {w} {config} {log} {mail} {request} {s} {sys} terms link k x queue width h at beats =
    go (is_unreleased ((s.block comes.0).pair link.0).letting) refl
  where
    comes : (n : ℕ) × IsProbed config terms (least_untaken (trackers_of (services sys.manager.trace))) link.0 n
        (shadow_of mail request s) x (sys.clients link.0)
    comes = delivered-b terms (least_untaken (trackers_of (services sys.manager.trace))) link.0 x queue width h at beats

    go : (b : Bool) → is_unreleased ((s.block comes.0).pair link.0).letting ≡ b
        → AreEnds config (Deliver link Channel.B) sys (shadow_of mail request s) k
        (client_took link.0 Channel.B x queue (offered terms Channel.B x (sys.clients link.0)) sys)
    go true kept = taken_ends link Channel.B k x queue _ width h beats refl (comes.1.takes kept)
        (λ goes. absurd (let no : true ≡ false = sym comes.1.whole ∙ goes in cc)) (λ done. comes.1.last kept)
    go false open_ = rw (comes.1.waits_for open_) (end-matched h k)

-- ---- every event

delivered_ends : {w : ℕ} {config : Config} {log : Log w} {mail : AccessMessages w} {request : ℕ → MessageA w}
    {s : State (List ℕ)} {sys : System w} (terms : EndConfig) (link : Link) (ch : Channel) (k : ℕ)
    (beats : List (Beat w)) → IsWidth w → SimulationRelation config log mail request s sys
    → terms_at config link.0 ≡ Some terms → sys.channels link.0 ch ≡ beats
    → AreEnds config (Deliver link ch) sys (shadow_of mail request s) k
    (step.delivered config terms link.0 ch beats sys)
delivered_ends terms link ch k [] width h at beats = end-matched h k
delivered_ends terms link Channel.B k (x ∷ queue) width h at beats = b_ends terms link k x queue width h at beats
delivered_ends terms link Channel.D k (x ∷ queue) width h at beats = d_ends terms link k x queue width h at beats
delivered_ends {config} {sys} terms link ch k (x ∷ queue) width h at beats =
    manager_ends link ch k x queue (manager.offered config (record { 0 = link.0 }) ch x sys.manager) width h beats refl

event_ends : {w : ℕ} {config : Config} {log : Log w} {mail : AccessMessages w} {request : ℕ → MessageA w}
    {s : State (List ℕ)} {sys : System w} (event : Event w) (o : Option EndConfig) (k : ℕ) → IsWidth w
    → SimulationRelation config log mail request s sys → terms_at config (client_of event) ≡ o
    → AreEnds config event sys (shadow_of mail request s) k (stepped_at config o event sys)
event_ends (Ask c o) None k width h at = end-matched h k
event_ends (Deliver link ch) None k width h at = end-matched h k
event_ends (Ask c o) (Some terms) k width h at = asked_ends terms c k o width h
event_ends {sys} (Deliver link ch) (Some terms) k width h at =
    delivered_ends terms link ch k (sys.channels link.0 ch) width h at refl

-- Every client's end is that of the protocol after an event of the world.
pub clients-kept : {w : ℕ} {config : Config} {log : Log w} {mail : AccessMessages w} {request : ℕ → MessageA w}
    {s : State (List ℕ)} {sys : System w} (event : Event w)
    → IsWidth w → SimulationRelation config log mail request s sys → (k : ℕ)
    → IsEndOf k (abstract_step config event sys (shadow_of mail request s)) ((stepped config event sys).after.clients k)
unfolding stepped
clients-kept {config} event width h k = event_ends event (terms_at config (client_of event)) k width h refl
