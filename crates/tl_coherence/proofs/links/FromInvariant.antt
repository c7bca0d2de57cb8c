-- Channels lose nothing and keep order, whatever happens.
-- What holds of every manager and its clients, whatever happens to them: of what is kept of the whole.
use Rattle.std.proofs.Common.{◌≡◌, ℕ, ◌≤◌, Bool, true, false, ◌==◌, if◌then◌else◌, List, [], ◌∷◌, ◌++◌, Option, Some}
use Rattle.std.proofs.Common.{None, Ok, refl, sym, ◌∙◌, ap, ap₂, subst, arith, inl, inr, length, ◌/◌, ne_eqb, All, map}
use Rattle.tl_coherence.proofs
use proofs.Imports.{Profile, channel_of, pending}
use Rattle.tl_client.{proofs.messages.InOrder.asked-in_order, proofs.messages.InOrder.offered-in_order}
use Rattle.tl_client.specs.laws.Sound.{IsInOrder}
use proofs.links.Acknowledged.{new-next}
use proofs.Imports.{cases_eq, All-head, ⊤, Beat, Link, Channel, IsWidth, Message, beat_of, burst_of, History, Config}
use proofs.Imports.{Perm, Trace, on_link, Op, Verdict, op_block, EndConfig, Endpoint, held_at, reaction_handable}
use proofs.Imports.{IsHandable, Each, Handed, with_handed, recorded, is_from_client, Event, Ask, Deliver, Outcome}
use proofs.Imports.{SimulationRelation, IsCoherent, started, IsExact, IsFifo, capacity, sources_of, is_moving, taken_on}
use proofs.Imports.{flow, IsGiven, IsTyped, Log, system_after, Requests, is_client, one_memory_after, perm_le}
use proofs.Imports.{handed_by, is_to_client, outcome_of, stepped, System, fresh, terms_at, with_channel, with_client}
use proofs.Imports.{with_manager, with_message, with_messages}
use Rattle.tl_coherence.specs.{statement.Headline.AreTyped, statement.Headline.IsUnrefused, statement.Log.IsLog}
use Rattle.tl_burst.specs.statement.Messages.{carried_on}
use Rattle.tl_rules.specs.statement.Admission.{sent_if_any}
use Rattle.tl_client.{proofs.endpoint.AfterAsked.past-asked, proofs.endpoint.AfterOffered.past-offered}
use Rattle.tl_client.{specs.declared.verdict.Finish.TheVariants.Granted}
use Rattle.tl_manager.proofs.pending.Handed.{beats_on_link}
use Rattle.tl_client.specs.laws.After as client_after
use Rattle.tl_client.specs.statement.Ask as ask
use Rattle.tl_client.specs.statement.Offer as offer
use Rattle.tl_manager.specs.code.Kept as manager
use Rattle.tl_manager.specs.statement.Reaction as manager_reaction
use Rattle.tl_manager.specs.statement.Offer as manager_offer
use proofs.links.{HeadsOfLinks.first-of, Granting.granted-holds, Granting.exact}
use proofs.links.Ending.{ArePassing, heard_at, queued_at, client-says, manager-says, client-hears, manager-hears}
use proofs.links.Ending.{passing-same, begins-alike}
use proofs.deliveries.DeliverDUnmoved.{unmoved}
use proofs.deliveries.Matching.{shadow, matched, not_moving, stepped-nobody}
use proofs.queues.{Steps.IsOn, Steps.on_own_channel, Steps.clients-with_messages, Steps.manager-with_messages}
use proofs.queues.{Steps.stepped-asked, Steps.stepped-empty, Tokens.same_number, Facts.held_at_most}
use proofs.simulation.BeatsInFlight.{copy-long, IsOfClient, IsFitIfAny, IsFitAnswer, fit-asked, fit-taken}
use proofs.simulation.Moved.{IsTakenByClient, IsTakenByManager, client-moves, manager-moves}
use proofs.simulation.Owned.{channels-few}
use proofs.memory.BesideTaken.{coherent-matched}

-- ---- the whole

abbrev pub IsPassing : {w : ℕ} → System w → (ℕ → History w) → Type 0
IsPassing sys f = ArePassing (λ d. (sys.clients d).past) (λ d. on_link d sys.manager.trace) sys.channels f

-- ---- a client hands out a message, or none

ours_from : {w : ℕ} (m : Message w) → IsOfClient m → is_from_client (beat_of m 0) ≡ true
ours_from (Message.B m) is = absurd is
ours_from (Message.D m) is = absurd is
ours_from m is = refl

abbrev IsOurs : {w : ℕ} → Option (Message w) → Type 0
IsOurs None = ⊤
IsOurs (Some m) = is_from_client (beat_of m 0) ≡ true

-- the client's end is then with all beats of it
says-passing : {w : ℕ} (c : ℕ) (m : Option (Message w)) (e : Endpoint w) (t : History w) (sys : System w) {p : ℕ
    → History w} {f : ℕ → History w} → IsOurs m → (r : Profile) → IsInOrder r m (p c)
    → e.past ≡ sent_if_any m (p c) → ((d : ℕ) → (d ≡ c → ⊥) → p d ≡ (sys.clients d).past)
    → ArePassing p (λ d. on_link d sys.manager.trace) sys.channels f
    → IsPassing (with_messages (handed_by c m) (with_client c e sys)) f
unfolding with_messages
says-passing c None e t sys {f} ours r legal past others is = passing-same (λ d. ((with_client c e sys).clients d).past)
    (λ d. on_link d sys.manager.trace) sys.channels f (λ d. elim (cases_eq d c) [
      | inl same ↦ rw (same, same_number c) past
      | inr other ↦ rw (ne_eqb d c other) (sym (others d other))
    ]) (λ d. refl) (λ d at. refl) (λ d. refl) is
says-passing c (Some m) e t sys {f} ours r legal past others is = passing-same (λ d. ((with_client c e sys).clients d).past)
    (λ d. on_link d sys.manager.trace) (queued_at c m sys.channels) f (λ d. elim (cases_eq d c) [
      | inl same ↦ rw (same, same_number c) past
      | inr other ↦ rw (ne_eqb d c other, ne_eqb c d (λ i. other (sym i))) (sym (others d other))
    ]) (λ d. refl) (λ d at. refl) (λ d. refl) (client-says c m ours r legal is)

-- ---- the manager hands out messages

manages-passing : {w : ℕ} (config : Config) (handed : Handed w) (t : Trace w) (s : System w) {p : ℕ → History w} {f : ℕ
    → History w} → Each (IsHandable config) handed → ArePassing p (λ d. on_link d t) s.channels f
    → ArePassing p (λ d. on_link d (with_handed handed t)) (with_messages handed s).channels f
unfolding with_messages with_handed
manages-passing config [] t s each is = is
manages-passing config (x ∷ handed) t s {p} {f} each is = manages-passing config handed
    (map (λ b. (x.0, b)) (burst_of x.1) ++ t) _ each.1 (passing-same p
    (λ d. on_link d (map (λ b. (x.0, b)) (burst_of x.1) ++ t)) (with_message x.0.0 x.1 s).channels f (λ d. refl)
    (λ d. beats_on_link d x.0 (burst_of x.1) t) (λ d at. refl) (λ d. refl) (manager-says x.0.0 x.1 each.0.ours is))

-- ---- what is delivered

-- with the beat that was moved
pub flow_moved : {w : ℕ} (link : Link) (ch : Channel) (o : Outcome w) (x : Beat w) (log : Log w) (d : ℕ)
    → taken_on d (Deliver link ch) o ≡ (if link.0 == d then x ∷ [] else [])
    → flow d ((Deliver link ch, o) ∷ log) ≡ heard_at link.0 x (λ i. flow i log) d
unfolding flow
flow_moved link ch o x log d is =
    let go : (b : Bool) → (if b then x ∷ [] else []) ++ flow d log ≡ (if b then x ∷ flow d log else flow d log) =
    elim [ true ↦ refl | false ↦ refl ] in
    ap (λ xs. xs ++ flow d log) is ∙ go (link.0 == d)

-- the beat that a client takes
pub taken_at : {w : ℕ} (link : Link) (ch : Channel) (x : Beat w) (v : Verdict) (d : ℕ)
    → is_moving (outcome_of x v) ≡ true
    → taken_on d (Deliver link ch) (outcome_of x v) ≡ (if link.0 == d then x ∷ [] else [])
taken_at link ch x v d e = grind arith

pub flow_still : {w : ℕ} (event : Event w) (o : Outcome w) (log : Log w) (d : ℕ) → is_moving o ≡ false
    → flow d ((event, o) ∷ log) ≡ flow d log
unfolding flow
flow_still event o log d e = grind arith

-- ---- events

still-passing : {w : ℕ} (config : Config) (log : Log w) (link : Link) (ch : Channel)
    → is_moving (stepped config (Deliver link ch) (system_after config log)).outcome ≡ false
    → IsPassing (system_after config log) (λ d. flow d log)
    → IsPassing (stepped config (Deliver link ch) (system_after config log)).after
    (λ d. flow d ((Deliver link ch, (stepped config (Deliver link ch) (system_after config log)).outcome) ∷ log))
still-passing config log link ch still is =
    let same = unmoved config link ch _ still in
    passing-same _ _ _ _ same.pasts (λ d. ap (on_link d) same.trace) same.channels
    (λ d. flow_still (Deliver link ch) _ log d still) is

asked-passing : {w : ℕ} {config : Config} {log : Log w} (c : ℕ) (o : Op w) {mail : _} {request : _} {s : _}
    → SimulationRelation config log mail request s (system_after config log) → IsTyped (Ask c o)
    → IsPassing (system_after config log) (λ d. flow d log)
    → IsPassing (stepped config (Ask c o) (system_after config log)).after
    (λ d. flow d ((Ask c o, (stepped config (Ask c o) (system_after config log)).outcome) ∷ log))
unfolding flow
asked-passing {w} {config} {log} c o matched typed is = go (terms_at config c) refl
  where
    sys : System w
    sys = system_after config log

    f : ℕ → History w
    f d = flow d log

    go : (i : Option EndConfig) → terms_at config c ≡ i → IsPassing (stepped config (Ask c o) sys).after f
    go None none = subst (λ x. IsPassing x.after f) (sym (stepped-nobody config (Ask c o) sys none)) is
    go (Some terms) known =
        let x = ask.asked terms o (sys.clients c) in
        subst (λ i. IsPassing i.after f) (sym (stepped-asked config c o sys terms known))
        (says-passing c x.message x.after (sys.clients c).past sys (ours x.message (fit-asked terms o
        (sys.clients c) typed (copy-long matched c))) terms.profile (asked-in_order terms o (sys.clients c)
        (matched.kept c)) (past-asked terms o (sys.clients c)) (λ d other. refl) is)
      where
        ours : (m : Option (Message w)) → IsFitIfAny terms.blocks m → IsOurs m
        ours None fit = tt
        ours (Some m) fit = ours_from m fit.ours

moved-passing : {w : ℕ} (config : Config) (log : Log w) (link : Link) (ch : Channel) (terms : EndConfig) (x : Beat w)
    (queue : List (Beat w)) → IsWidth w → AreTyped log → IsLog config log → terms_at config link.0 ≡ Some terms
    → (system_after config log).channels link.0 ch ≡ x ∷ queue
    → is_moving (stepped config (Deliver link ch) (system_after config log)).outcome ≡ true
    → IsPassing (system_after config log) (λ d. flow d log)
    → IsPassing (stepped config (Deliver link ch) (system_after config log)).after
    (λ d. flow d ((Deliver link ch, (stepped config (Deliver link ch) (system_after config log)).outcome) ∷ log))
unfolding on_link
moved-passing {w} config log link ch terms x queue width typed logged known beats moving is =
    let f : ℕ → History w = λ d. flow d log in
    go (is_to_client ch) refl
  where
    sys : System w
    sys = system_after config log

    c : ℕ
    c = link.0

    h : SimulationRelation config log (shadow config log).mail (shadow config log).request (shadow config log).state sys
    h = matched config log width typed logged

    is_ch : channel_of x ≡ ch
    is_ch = (first-of config log (shadow config log) c terms ch x queue width h known beats).on

    on_ch : IsOn ch x
    on_ch = rw (← is_ch) (on_own_channel x)

    head : manager.IsSound config (record { 0 = c }, x)
    head = All-head (λ y. manager.IsSound config (record { 0 = c }, y)) x queue (same beats (h.sound c ch))
      where
        same : sys.channels c ch ≡ x ∷ queue → All (λ y. manager.IsSound config (record { 0 = c }, y))
            (sys.channels c ch) → All (λ y. manager.IsSound config (record { 0 = c }, y)) (x ∷ queue)
        same e i = rw e at i

    -- what is delivered then
    f' : ℕ → History w
    f' d = flow d ((Deliver link ch, (stepped config (Deliver link ch) sys).outcome) ∷ log)

    go : (b : Bool) → is_to_client ch ≡ b → IsPassing (stepped config (Deliver link ch) sys).after f'
    go true up = by_client (client-moves config link ch sys terms x queue known beats up moving)
      where
        by_client : IsTakenByClient terms c ch x queue sys (stepped config (Deliver link ch) sys)
            → IsPassing (stepped config (Deliver link ch) sys).after f'
        by_client t = subst (λ y. IsPassing y.after (λ d. flow d ((Deliver link ch, y.outcome) ∷ log))) (sym t.step_is)
            (took t.verdict_is t.message t.answer (sym (ap (λ y. is_moving y.outcome) t.step_is) ∙ moving))
          where
            took : (v : Verdict) (m : Option (Message w)) → (offer.taken x (sys.clients c)).answer ≡ Ok (v, m)
                → is_moving (outcome_of x v) ≡ true
                → IsPassing (with_messages (handed_by c m) (with_client c (offer.taken x (sys.clients c)).after
                (with_channel c ch queue sys))) (λ d. flow d ((Deliver link ch, outcome_of x v) ∷ log))
            took v m answer moves =
                let new = new-next (shadow config log) c x queue width h (ap (sys.channels c) is_ch ∙ beats)
                (begins-alike ch x _ (flow c log) on_ch (is.down c ch up).1) (is.sinks c) in
                let handed_is : (v : Verdict) (m : Option (Message w)) → is_moving (outcome_of x v) ≡ true
                → sent_if_any (client_after.handed (Ok (v, m))) (x ∷ (sys.clients c).past) ≡ sent_if_any m
                (x ∷ (sys.clients c).past) = elim [ Verdict.Stalled ↦ λ m e. absurd cc | v ↦ λ m e. refl ] in
                passing-same _ _ _ _ (λ d. refl) (λ d. refl) (λ d at. refl) (λ d. flow_moved link ch _ x log
                d (taken_at link ch x v d moves)) (says-passing c m (offer.taken x (sys.clients c)).after
                (sys.clients c).past (with_channel c ch queue sys) (ours v m answer) terms.profile
                (rw (same_number c) (in_order v m answer moves))
                (cc (t.takes, past-offered terms ch x (sys.clients c), t.heard, handed_is v m moves, same_number c))
                (λ d other. rw (ne_eqb c d (λ i. other (sym i))) refl) (client-hears c ch x queue up on_ch beats new is))
              where
                legal : IsInOrder terms.profile (client_after.handed (offer.taken x (sys.clients c)).answer)
                    (x ∷ (sys.clients c).past)
                legal = rw (← t.takes, ← t.heard) (offered-in_order terms ch x _ (h.kept c) (h.accounted c))

                in_order : (v : Verdict) (m : Option (Message w)) → (offer.taken x (sys.clients c)).answer ≡ Ok (v, m)
                    → is_moving (outcome_of x v) ≡ true → IsInOrder terms.profile m (x ∷ (sys.clients c).past)
                in_order Verdict.Stalled m e f = absurd cc
                in_order v m e f = rw e at legal

                ours : (v : Verdict) (m : Option (Message w)) → (offer.taken x (sys.clients c)).answer ≡ Ok (v, m)
                    → IsOurs m
                ours v None e = tt
                ours v (Some m) e =
                    let fit : IsFitAnswer config.blocks (Ok (v, Some m)) = subst (IsFitAnswer config.blocks) e
                    (fit-taken config.blocks x (sys.clients c) head.inside (copy-long h c)) in
                    ours_from m fit.ours
    go false down = by_manager (manager-moves config link ch sys terms x queue known beats down moving)
      where
        by_manager : IsTakenByManager config link ch x queue sys (stepped config (Deliver link ch) sys)
            → IsPassing (stepped config (Deliver link ch) sys).after f'
        by_manager t =
            let handed : Handed w = (manager_reaction.reaction config link x sys.manager).handed in
            let e = manager_offer.taken link x (manager_reaction.reaction config link x sys.manager) sys.manager in
            let now : System w = with_manager e (with_channel c ch queue sys) in
            subst (λ y. IsPassing y.after (λ d. flow d ((Deliver link ch, y.outcome) ∷ log))) (sym t.step_is)
            (passing-same _ _ (with_messages handed now).channels _ (λ d. ap (λ i. (i d).past)
            (clients-with_messages handed now)) (λ d. ap (λ i. on_link d i.trace)
            (manager-with_messages handed now)) (λ d at. refl) (λ d. flow_moved link ch
            (Outcome.Moved x) x log d refl) (manages-passing config handed ((link, x) ∷ sys.manager.trace) now
            (reaction_handable config link x sys.manager width head h.manager_kept.sound) (passing-same _ _ _ _
            (λ d. refl) (λ d. refl) (λ d at. refl) (λ d. refl) (manager-hears c ch x queue down on_ch beats is))))

-- ---- after every log

first-passing : (w : ℕ) → IsPassing {w = w} fresh (λ d. flow d [])
unfolding carried_on on_link flow pending
first-passing w = record {
  down = λ d at e. (refl, refl);
  up = λ d at e. (refl, refl);
  sinks = λ d. record { sinks = λ i. refl };
}

passing-event : {w : ℕ} (config : Config) (log : Log w) (event : Event w) → IsWidth w → AreTyped log → IsLog config log
    → IsTyped event → IsPassing (system_after config log) (λ d. flow d log)
    → IsPassing (stepped config event (system_after config log)).after
    (λ d. flow d ((event, (stepped config event (system_after config log)).outcome) ∷ log))
passing-event config log (Ask c o) width typed logged ok before =
    asked-passing c o (matched config log width typed logged) ok before
passing-event {w} config log (Deliver link ch) width typed logged ok before =
    delivered (is_moving (stepped config (Deliver link ch) sys).outcome) refl
  where
    sys : System w
    sys = system_after config log

    Then : Type 0
    Then = IsPassing (stepped config (Deliver link ch) sys).after
        (λ d. flow d ((Deliver link ch, (stepped config (Deliver link ch) sys).outcome) ∷ log))

    moves : (terms : EndConfig) (beats : List (Beat w)) → terms_at config link.0 ≡ Some terms
        → sys.channels link.0 ch ≡ beats → is_moving (stepped config (Deliver link ch) sys).outcome ≡ true → Then
    moves terms [] known none moving =
        absurd (not_moving _ _ (stepped-empty config link ch sys terms known none) moving refl)
    moves terms (y ∷ queue) known beats moving = moved-passing config log link ch terms y queue width typed logged known
        beats moving before

    found : (o : Option EndConfig) → terms_at config link.0 ≡ o
        → is_moving (stepped config (Deliver link ch) sys).outcome ≡ true → Then
    found None none moving = absurd (not_moving _ _ (stepped-nobody config (Deliver link ch) sys none) moving refl)
    found (Some terms) known moving = moves terms (sys.channels link.0 ch) known refl moving

    delivered : (b : Bool) → is_moving (stepped config (Deliver link ch) sys).outcome ≡ b → Then
    delivered true moving = found (terms_at config link.0) refl moving
    delivered false still = still-passing config log link ch still before

pub passing : {w : ℕ} (config : Config) (log : Log w) → IsWidth w → AreTyped log → IsLog config log
    → IsPassing (system_after config log) (λ d. flow d log)
unfolding system_after AreTyped IsLog
passing {w} config [] width typed logged = first-passing w
passing config (x ∷ log) width typed logged = rw logged.0
    (passing-event config log x.0 width typed.1 logged.1 typed.0 (passing config log width typed.1 logged.1))

pub carried-passing : {w : ℕ} (config : Config) (log : Log w) (link : ℕ) (ch : Channel)
    → IsPassing (system_after config log) (λ d. flow d log) → IsFifo (system_after config log) log link ch
carried-passing config log link Channel.B is = let both = is.down link Channel.B refl in
    record { under_way = both.0; delivered = both.1 }
carried-passing config log link Channel.D is = let both = is.down link Channel.D refl in
    record { under_way = both.0; delivered = both.1 }
carried-passing config log link ch is = let both = is.up link ch refl in
    record { under_way = both.0; delivered = both.1 }

pub matched-given : {w : ℕ} (config : Config) (log : Log w) → IsGiven config log
    → SimulationRelation config log (shadow config log).mail (shadow config log).request (shadow config log).state
    (system_after config log)
matched-given config log given = matched config log given.width given.typed given.is_log

pub unrefused : {w : ℕ} {config : Config} {log : Log w} → IsGiven config log → IsUnrefused (system_after config log)
unrefused {log} given = let is = matched-given _ log given in
    record { by_clients = is.live; by_manager = is.all_live }

pub channels : {w : ℕ} (config : Config) (log : Log w) → IsGiven config log → (link : ℕ) (ch : Channel)
    → length ((system_after config log).channels link ch) ≤ capacity (64 / w) (sources_of (terms_at config link))
    config.trackers ch
channels config log given link ch = channels-few given.width (matched-given config log given) link ch

pub coherent : {w : ℕ} (config : Config) (log : Log w) → IsGiven config log
    → IsCoherent (system_after config log) log (one_memory_after config log)
coherent config log given = coherent-matched (matched-given config log given)

-- a client has terms
client_terms : (config : Config) (c : ℕ) → is_client config c ≡ true → (terms : EndConfig)
    × (terms_at config c ≡ Some terms)
client_terms config c is = grind arith

pub stalls : {w : ℕ} {config : Config} {log : Log w} → IsGiven config log → (link : ℕ) (ch : Channel)
    → is_client config link ≡ true → IsExact config log link ch
stalls {config} {log} given link ch client =
    let known = client_terms config link client in
    let is = matched-given _ log given in
    exact is (coherent config log given) link known.0 known.1 ch (λ x rest e. first-of _ log _ link _ ch x rest
    given.width is known.1 e)

pub carries : {w : ℕ} {config : Config} {log : Log w} → IsGiven config log → (link : ℕ) (ch : Channel)
    → IsFifo (system_after config log) log link ch
carries {config} {log} given link ch =
    carried-passing config log link ch (passing config log given.width given.typed given.is_log)

pub grants : {w : ℕ} (config : Config) (log : Log w) (link : Link) (ch : Channel) (x : Beat w) (source : ℕ) (p : Perm)
    (op : Op w) → IsGiven config ((Deliver link ch, Outcome.Done x source (Granted p)) ∷ log)
    → started link.0 Requests source log ≡ Some op
    → held_at ((system_after config ((Deliver link ch, Outcome.Done x source (Granted p)) ∷ log)).clients link.0)
    (op_block op) ≡ p
unfolding system_after AreTyped IsLog
grants config log link ch x source p op given asked = granted-holds link ch _ x source p op
    given.width (matched config log given.width given.typed.1 given.is_log.1) (sym given.is_log.0) asked

-- No client holds more of a block than is recorded for it.
pub at_most_recorded : {w : ℕ} {config : Config} {log : Log w} → IsGiven config log → (link block : ℕ)
    → perm_le (held_at ((system_after config log).clients link) block)
    (recorded link block (system_after config log).manager.trace) ≡ true
at_most_recorded {config} {log} given link block =
    let is = matched-given _ log given in
    let b = (shadow config log).state.block block in
    ap₂ perm_le ((is.known link).held_is block) (is.managed.recorded_is link block)
    ∙ held_at_most _ _ ((is.invariant.blocks block).phases link)
