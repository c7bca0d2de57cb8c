-- What the receivers have after a delivery.
-- What is delivered on each link has the values of the protocol after every event, and so breaks no rule.
use Rattle.std.proofs.Common.{◌≡◌, ℕ, Bool, true, false, ◌&&◌, ◌==◌, if◌then◌else◌, List, [], ◌∷◌, Option, Some, None}
use Rattle.std.proofs.Common.{refl, sym, ◌∙◌, ap, subst, arith, inl, inr, ne_eqb, eqb-true, map}
use Rattle.tl_coherence.proofs
use proofs.Imports.{cases_eq, Beat, Link, Channel, IsWidth, History, grown, completes, Config, Level, Profile}
use proofs.Imports.{broken_after, unfinished-asked, Op, EndConfig, Handed, level_of, reaction, Event, Ask, Deliver}
use proofs.Imports.{Outcome, AbstractState, abstract_step, abstract_step_by, asked, kind_taken, MonitorRelation}
use proofs.Imports.{message_of, MonitorRelations, SimulationRelation, asked_by, is_caching, receiver, is_moving, flow}
use proofs.Imports.{IsGiven, Log, system_after, Step, is_to_client, outcome_of, replied, stepped, System, same_channel}
use proofs.Imports.{terms_at, with_channel, with_manager, with_messages}
use Rattle.tl_coherence.{specs.statement.Headline.AreTyped, specs.statement.Log.IsLog}
use Rattle.tl_client.specs.statement.Offer as offer
use Rattle.tl_manager.specs.statement.End as manager_end
use Rattle.tl_manager.specs.statement.Offer as manager_offer
use Rattle.tl_rules.specs.statement.Conformance.{is_legal}
use Rattle.tl_client.specs.statement.Ask as ask
use proofs.links.{FromInvariant.flow_moved, FromInvariant.taken_at, FromInvariant.flow_still, HeadsOfLinks.first-of}
use proofs.links.FromInvariant.{IsPassing, passing}
use proofs.queues.{FirstToken.IsFirst, FirstToken.first-token, Tokens.same_number, Moves.on_same}
use proofs.queues.Steps.{IsOn, landed-client, landed-manager, on_own_channel, clients-with_messages}
use proofs.queues.Steps.{manager-with_messages, handed-client, stepped-asked}
use proofs.deliveries.{ManagersAfter.at-manager, AskedWell.asked-well, FirstRequest.arrival-first}
use proofs.deliveries.DeliverDUnmoved.{followed-moving, followed-still, unmoved}
use proofs.deliveries.Matching.{request-moves, ready-delivered, shadow, matched, stepped-nobody}
use proofs.manager.RequestsTaken.{next_tracker}
use proofs.simulation.{Owned.unfinished_at, Moved.client-moves, Moved.client-heard, Fresh.fresh-flowed}
use proofs.flow.{FlowAlone.AreRests, FlowAlone.flowed-rests, FlowAsked.flowed-asked, FlowKinds.FlowsAs}
use proofs.flow.{FlowKinds.other-kind, FlowOwn.own-kind, FlowResponses.flows-d, FlowBeats.flows-e}
use proofs.flow.FlowLawful.{flows-b, flows-c, flows-a}
use proofs.protocol.HeadOfD.{IsReady}
use proofs.outstanding.Outstanding.{first-moved}

-- ---- what the receivers have after a delivery

-- messages that are handed out change no receiver
receiver_handed : {w : ℕ} (handed : Handed w) (sys : System w) (d : ℕ) (at : Channel)
    → receiver at d (with_messages handed sys) ≡ receiver at d sys
receiver_handed handed sys d at = grind (arith, clients-with_messages, manager-with_messages)

-- what is left of a beat that is moved on channel ch of client c's link: what was delivered, what receivers have, and
-- what the protocol is
pub record IsMovedOn {w : ℕ} (config : Config) (log : Log w) (link : Link) (ch : Channel) (h : AbstractState w)
    (x : Beat w) (queue : List (Beat w)) : Type 0 where
  pub first : IsFirst ch link.0 h.mail h.state (system_after config log) x queue
  pub on_ch : IsOn ch x
  pub delivered : (d : ℕ) → flow d
      ((Deliver link ch, (stepped config (Deliver link ch) (system_after config log)).outcome) ∷ log)
      ≡ (if link.0 == d then x ∷ flow d log else flow d log)
  pub rests : (d : ℕ) (at : Channel) → unfinished_at (stepped config (Deliver link ch) (system_after config log)).after
      d at ≡ (if (d == link.0) && same_channel at ch then grown x (unfinished_at (system_after config log) d at) else
      unfinished_at (system_after config log) d at)
  pub follows : abstract_step config (Deliver link ch) (system_after config log) h
      ≡ (if completes x (unfinished_at (system_after config log) link.0 ch) then kind_taken config
      (next_tracker (system_after config log)) link.0 first.kind first.number first.rest h else h)

moved-to_manager : {w : ℕ} {config : Config} {log : Log w} (link : Link) (ch : Channel) (h : AbstractState w)
    (terms : EndConfig) (x : Beat w) (queue : List (Beat w)) → IsWidth w
    → SimulationRelation config log h.mail h.request h.state (system_after config log)
    → terms_at config link.0 ≡ Some terms → is_to_client ch ≡ false → (system_after config log).channels link.0 ch
    ≡ x ∷ queue → is_moving (stepped config (Deliver link ch) (system_after config log)).outcome ≡ true
    → IsMovedOn config log link ch h x queue
unfolding with_messages
moved-to_manager {w} {config} {log} link ch h terms x queue width is known down beats moving =
    let sys = system_after config log in
    let handed : Handed w = (reaction config link x sys.manager).handed in
    let at = at-manager link ch h terms x queue width is known down beats moving in
    let e : manager_end.End w = manager_offer.taken link x (reaction config link x sys.manager) sys.manager in
    record {
      first = at.first;
      on_ch = at.on_it;
      delivered = λ d. cc (at.step_is, flow_moved link ch (Outcome.Moved x) x log d refl);
      rests = λ d i. cc (
        at.step_is,
        receiver_handed handed (with_manager e (with_channel link.0 ch queue sys)) d i,
        (landed-manager link.0 ch x queue (λ k j. None) [] e
            sys down at.beats at.on_it at.heard (λ k j. refl)).rests d i,
      );
      follows = at.follows;
    }

moved-to_client : {w : ℕ} {config : Config} {log : Log w} (link : Link) (ch : Channel) (h : AbstractState w)
    (terms : EndConfig) (x : Beat w) (queue : List (Beat w)) → IsWidth w
    → SimulationRelation config log h.mail h.request h.state (system_after config log)
    → terms_at config link.0 ≡ Some terms → is_to_client ch ≡ true → (system_after config log).channels link.0 ch
    ≡ x ∷ queue → is_moving (stepped config (Deliver link ch) (system_after config log)).outcome ≡ true
    → IsMovedOn config log link ch h x queue
moved-to_client {w} {config} {log} link ch h terms x queue width is known up beats moving =
    let sys : System w = system_after config log in
    let t = client-moves config link ch sys terms x queue known beats up moving in
    let first : IsFirst ch link.0 h.mail h.state sys x queue = first-token (is_caching config) ch link.0 h.mail _
    sys x queue width is.invariant is.carried beats in
    let on_ch : IsOn ch x = subst (λ i. IsOn i x) (first-of config log h link.0 terms ch x queue width is
    known beats).on (on_own_channel x) in
    record {
      first = first;
      on_ch = on_ch;
      delivered = λ d. ap (λ y. flow d ((Deliver link ch, y.outcome) ∷ log)) t.step_is ∙ flow_moved link ch
          (outcome_of x t.verdict_is) x log d (taken_at link ch x t.verdict_is d (cc t.step_is));
      rests = λ d i. ap (λ y. unfinished_at y.after d i) t.step_is
          ∙ (landed-client link.0 ch x queue t.message (offer.taken x (sys.clients link.0)).after sys up beats on_ch
          (client-heard width (is.kept link.0) t)).rests d i;
      follows = cc (followed-moving config link ch sys h x queue moving beats, first.tokens);
    }

pub moved-on : {w : ℕ} {config : Config} {log : Log w} (link : Link) (ch : Channel) (h : AbstractState w) (x : Beat w)
    (queue : List (Beat w)) (terms : EndConfig) → IsWidth w → SimulationRelation config log h.mail h.request h.state
    (system_after config log) → (system_after config log).channels link.0 ch ≡ x ∷ queue
    → terms_at config link.0 ≡ Some terms
    → is_moving (stepped config (Deliver link ch) (system_after config log)).outcome ≡ true → (b : Bool)
    → is_to_client ch ≡ b → IsMovedOn config log link ch h x queue
moved-on link ch h x queue terms width is beats known moving true e =
    moved-to_client link ch h terms x queue width is known e beats moving
moved-on link ch h x queue terms width is beats known moving false e =
    moved-to_manager link ch h terms x queue width is known e beats moving

-- ---- what is delivered after a delivery

-- each link's values are those of the protocol after this step
abbrev AreFlowedAfter : {w : ℕ} → Config → Log w → Event w → AbstractState w → Type 0
AreFlowedAfter config log event h =
    MonitorRelations ((event, (stepped config event (system_after config log)).outcome) ∷ log)
    (abstract_step config event (system_after config log) h).mail (abstract_step config event (system_after config log)
    h).state (stepped config event (system_after config log)).after

moved-flowed : {w : ℕ} {config : Config} {log : Log w} {link : Link} {ch : Channel} {h : AbstractState w} {x : Beat w}
    {queue : List (Beat w)} → IsWidth w → SimulationRelation config log h.mail h.request h.state
    (system_after config log) → MonitorRelations log h.mail h.state (system_after config log)
    → (system_after config log).channels link.0 ch ≡ x ∷ queue
    → is_moving (stepped config (Deliver link ch) (system_after config log)).outcome ≡ true
    → IsMovedOn config log link ch h x queue → AreFlowedAfter config log (Deliver link ch) h
moved-flowed {w} {config} {log} {link} {ch} {h} {x} {queue} width is flowed beats moving at d =
    let Here : AbstractState w → History w → Type 0 = λ z t. MonitorRelation (asked_by z.mail z.state d)
    (unfinished_at sys' d) d z.state t in
    subst (λ z. Here z (flow d ((Deliver link ch, (stepped config (Deliver link ch) sys).outcome) ∷ log)))
    (sym at.follows) (subst (λ t. Here h' t) (sym (at.delivered d)) (elim (cases_eq d c) [
      | inl same ↦ rw same own
      | inr other ↦ others other
    ]))
  where
    sys : System w
    sys = system_after config log

    sys' : System w
    sys' = (stepped config (Deliver link ch) sys).after

    c : ℕ
    c = link.0

    last : Bool
    last = completes x (unfinished_at sys c ch)

    h' : AbstractState w
    h' = if last then kind_taken config (next_tracker sys) c at.first.kind at.first.number at.first.rest h else h

    ready : last ≡ true → IsReady (next_tracker sys) c at.first.kind at.first.number h
    ready e = ready-delivered {link = link} ch {x = x} {queue = queue} width is
        (record { moves = moving; beats = beats; whole = e; first = at.first })

    own : MonitorRelation (asked_by h'.mail h'.state c) (unfinished_at sys' c) c h'.state
        (if c == c then x ∷ flow c log else flow c log)
    own = rw (same_number c) (own-kind h width is (next_tracker sys) (flowed c)
        (unfinished_at sys' c) at.first.number at.first.rest x (map (message_of h.mail h.state c) at.first.rest) queue
        rests ch at.first.kind at.first.own at.first.tokens at.first.next last refl ready)
      where
        rests : AreRests x (unfinished_at sys c) (unfinished_at sys' c)
        rests i = cc (at.rests c i, same_number c, at.on_ch i)

    others : (d ≡ c → ⊥) → MonitorRelation (asked_by h'.mail h'.state d) (unfinished_at sys' d) d h'.state
        (if c == d then x ∷ flow d log else flow d log)
    others ne = rw (ne_eqb c d (λ e. ne (sym e))) (flowed-rests (unfinished_at sys' d) rests (either last refl))
      where
        rests : (i : Channel) → unfinished_at sys' d i ≡ unfinished_at sys d i
        rests i = cc (at.rests d i, ne_eqb d c ne)

        either : (b : Bool) → last ≡ b → FlowsAs h c is (next_tracker sys) d ne (flow d log)
            (if b then kind_taken config (next_tracker sys) c at.first.kind at.first.number at.first.rest h else h)
        either true e =
            other-kind h c is (next_tracker sys) d ne (flow d log) at.first.kind at.first.number at.first.rest
            (on_same ch at.first.kind (h.state.link c) at.first.own ∙ at.first.tokens) (ready e) (flowed d)
        either false e = flowed d

delivered-flowed : {w : ℕ} {config : Config} {log : Log w} (link : Link) (ch : Channel) (h : AbstractState w)
    → IsWidth w → SimulationRelation config log h.mail h.request h.state (system_after config log)
    → MonitorRelations log h.mail h.state (system_after config log) → AreFlowedAfter config log (Deliver link ch) h
delivered-flowed {w} {config} {log} link ch h width is flowed =
    go (is_moving (stepped config (Deliver link ch) sys).outcome) refl
  where
    sys : System w
    sys = system_after config log

    go : (b : Bool) → is_moving (stepped config (Deliver link ch) sys).outcome ≡ b
        → AreFlowedAfter config log (Deliver link ch) h
    go true moving =
        let at = first-moved config link ch sys moving in
        moved-flowed width is flowed at.3.0 moving
        (moved-on link ch h at.0 at.1 at.2 width is at.3.0 at.3.1 moving (is_to_client ch) refl)
    go false still = λ d. rw (followed-still config link ch sys h still) (rw (flow_still (Deliver link ch)
        (stepped config (Deliver link ch) sys).outcome log d still) (flowed-rests (unfinished_at
        (stepped config (Deliver link ch) sys).after d) (λ i. (unmoved config link ch sys still).rests d i) (flowed d)))

-- ---- and after a client was asked

asked-flowed : {w : ℕ} {config : Config} {log : Log w} (c : ℕ) (o : Op w) (h : AbstractState w) → IsWidth w
    → SimulationRelation config log h.mail h.request h.state (system_after config log)
    → MonitorRelations log h.mail h.state (system_after config log) → AreFlowedAfter config log (Ask c o) h
asked-flowed {w} {config} {log} c o h width is flowed = go (terms_at config c) refl
  where
    sys : System w
    sys = system_after config log

    After : Step w → Type 0
    After x = MonitorRelations ((Ask c o, x.outcome) ∷ log) (abstract_step_by config (Ask c o) x.outcome sys h).mail
        (abstract_step_by config (Ask c o) x.outcome sys h).state x.after

    go : (i : Option EndConfig) → terms_at config c ≡ i → After (stepped config (Ask c o) sys)
    go None none = subst After (sym (stepped-nobody config (Ask c o) sys none))
        (λ d. rw (flow_still (Ask c o) Outcome.NoSuchClient log d refl) (flowed d))
    go (Some terms) known =
        let a : ask.Asked w = ask.asked terms o (sys.clients c) in
        let h' : AbstractState w = asked c o a.reply h in
        let well = asked-well _ log h sys c terms o width is known in
        subst After (sym (stepped-asked config c o sys terms known)) (λ d. subst (λ t. MonitorRelation
        (asked_by h'.mail h'.state d) (unfinished_at (replied c a sys).after d) d h'.state t) (sym (flow_still (Ask
        c o) (Outcome.Replied a.reply) log d refl)) (flowed-rests
        (unfinished_at (replied c a sys).after d) (λ i. (handed-client c a.message
        a.after sys (λ j. unfinished-asked terms o _ j width (is.kept c))).rests d i)
        (flowed-asked h c width is d (flow d log) o a.reply well.reply well.may (flowed d))))

flowed-event : {w : ℕ} {config : Config} {log : Log w} (event : Event w) (h : AbstractState w) → IsWidth w
    → SimulationRelation config log h.mail h.request h.state (system_after config log)
    → MonitorRelations log h.mail h.state (system_after config log) → AreFlowedAfter config log event h
flowed-event (Ask c o) h width is flowed = asked-flowed c o h width is flowed
flowed-event (Deliver link ch) h width is flowed = delivered-flowed link ch h width is flowed

-- what is delivered on each link has the values of the protocol after every log
pub flowed : {w : ℕ} (config : Config) (log : Log w) → IsWidth w → AreTyped log → IsLog config log
    → MonitorRelations log (shadow config log).mail (shadow config log).state (system_after config log)
unfolding shadow system_after AreTyped IsLog
flowed config [] width typed is = fresh-flowed
flowed {w} config (x ∷ log) width typed is =
    let sys : System w = system_after config log in
    let h : AbstractState w = shadow config log in
    let h' : AbstractState w = abstract_step config x.0 sys h in
    subst (λ o. MonitorRelations ((x.0, o) ∷ log) h'.mail h'.state (stepped config x.0 sys).after) (sym is.0)
    (flowed-event x.0 h width (matched config log width typed.1 is.1) (flowed config log width typed.1 is.1))

-- ---- no rule is broken

legal_more : {w : ℕ} (l : Level) (p : Profile) (x : Beat w) (t : History w) → broken_after l p x t ≡ None
    → is_legal l p t ≡ true → is_legal l p (x ∷ t) ≡ true
unfolding is_legal
legal_more l p x t e f = rw (e, f) refl

-- nor by a beat of any channel that is moved
unbroken : {w : ℕ} {config : Config} {log : Log w} (h : AbstractState w) (link : Link) (ch : Channel) (l : Level)
    (x : Beat w) (queue : List (Beat w)) → IsWidth w → SimulationRelation config log h.mail h.request h.state
    (system_after config log) → MonitorRelations log h.mail h.state (system_after config log)
    → IsPassing (system_after config log) (λ d. flow d log)
    → is_moving (stepped config (Deliver link ch) (system_after config log)).outcome ≡ true
    → (system_after config log).channels link.0 ch ≡ x ∷ queue → level_of config link.0 ≡ Some l
    → broken_after l config.profile x (flow link.0 log) ≡ None
unbroken h link Channel.A l x queue width is values passes moving beats level = flows-a link.0 l x queue width is values beats
    level (request-moves link is moving beats (arrival-first h link.0 x queue width is beats))
unbroken h link Channel.B l x queue width is values passes moving beats level =
    flows-b link.0 l x queue width is values beats level
unbroken h link Channel.C l x queue width is values passes moving beats level =
    flows-c link.0 l x queue width is values beats level
unbroken h link Channel.D l x queue width is values passes moving beats level =
    flows-d link.0 l x queue width is values (passes.sinks link.0) beats level
unbroken h link Channel.E l x queue width is values passes moving beats level =
    flows-e link.0 l x queue width is values (passes.sinks link.0) beats level

-- who is asked moves no beat
pub asked-still : {w : ℕ} (config : Config) (log : Log w) (c : ℕ) (o : Op w)
    → is_moving (stepped config (Ask c o) (system_after config log)).outcome ≡ false
asked-still {w} config log c o = go (terms_at config c) refl
  where
    go : (i : Option EndConfig) → terms_at config c ≡ i
        → is_moving (stepped config (Ask c o) (system_after config log)).outcome ≡ false
    go None none = cc (stepped-nobody config (Ask c o) (system_after config log) none)
    go (Some terms) known = cc (stepped-asked config c o (system_after config log) terms known)

legal-event : {w : ℕ} {config : Config} {log : Log w} (h : AbstractState w) (event : Event w) (d : ℕ) (l : Level)
    → IsWidth w → SimulationRelation config log h.mail h.request h.state (system_after config log)
    → MonitorRelations log h.mail h.state (system_after config log)
    → IsPassing (system_after config log) (λ d. flow d log) → level_of config d ≡ Some l → is_legal l config.profile (flow d log) ≡ true
    → is_legal l config.profile (flow d ((event, (stepped config event (system_after config log)).outcome) ∷ log))
    ≡ true
legal-event {config} {log} h (Ask c o) d l width is values passes level legal = ap (is_legal l config.profile) (flow_still
    (Ask c o) (stepped config (Ask c o) (system_after config log)).outcome log d (asked-still config log c o)) ∙ legal
legal-event {w} {config} {log} h (Deliver link ch) d l width is values passes level legal =
    go (is_moving (stepped config (Deliver link ch) sys).outcome) refl
  where
    sys : System w
    sys = system_after config log

    with_beat : (x : Beat w) (b : Bool) → (b ≡ true → broken_after l config.profile x (flow d log) ≡ None)
        → is_legal l config.profile (if b then x ∷ flow d log else flow d log) ≡ true
    with_beat x true whole = legal_more l _ x _ (whole refl) legal
    with_beat x false whole = legal

    go : (b : Bool) → is_moving (stepped config (Deliver link ch) sys).outcome ≡ b
        → is_legal l config.profile (flow d ((Deliver link ch, (stepped config (Deliver link ch) sys).outcome) ∷ log))
        ≡ true
    go true moving =
        let at = first-moved config link ch sys moving in
        ap (is_legal l config.profile) ((moved-on link ch h at.0 at.1 at.2 width is at.3.0 at.3.1 moving
        (is_to_client ch) refl).delivered d) ∙ with_beat at.0 (link.0 == d) (λ same.
        let here : link.0 ≡ d = eqb-true link.0 d same in
        subst (λ i. broken_after l config.profile at.0 (flow i log) ≡ None) here
        (unbroken h link ch l at.0 at.1 width is values passes moving at.3.0 (ap (level_of config) here ∙ level)))
    go false still = cc (flow_still (Deliver link ch) (stepped config (Deliver link ch) sys).outcome log d still, legal)

legal : {w : ℕ} (config : Config) (log : Log w) (d : ℕ) (l : Level) → IsWidth w → AreTyped log → IsLog config log
    → level_of config d ≡ Some l → is_legal l config.profile (flow d log) ≡ true
unfolding AreTyped IsLog flow is_legal
legal config [] d l width typed is level = refl
legal config (x ∷ log) d l width typed is level =
    rw is.0 (legal-event (shadow config log) x.0 d l width (matched config log width typed.1 is.1)
    (flowed config log width typed.1 is.1) (passing config log width typed.1 is.1) level (legal config log d l width typed.1 is.1 level))

-- A monitor in the middle of a link finds no fault in what is delivered there.
pub flows : {w : ℕ} {config : Config} {log : Log w} → IsGiven config log → (link : ℕ) (l : Level)
    → level_of config link ≡ Some l → is_legal l config.profile (flow link log) ≡ true
flows {config} {log} given link l level = legal config log link l given.width given.typed given.is_log level
