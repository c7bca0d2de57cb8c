-- A beat that is delivered to a client: the channels and the one memory afterwards.
-- A delivery that moves no beat, and the channels and the one memory after a delivery.
-- The manager's end after a delivery on channel C or E, as a step of the whole and as the protocol follows it.
use Rattle.std.proofs.Common.{◌≡◌, ℕ, Bool, true, false, if◌then◌else◌, List, [], ◌∷◌, Option, Some, None, Result, refl}
use Rattle.std.proofs.Common.{sym, ◌∙◌, ap, subst, arith, ◌⊎◌, inl, inr, All, slice_get, option_map}
use Rattle.tl_coherence.proofs
use proofs.Imports.{cases_eq, not-true, or_right, Beat, BeatD, Link, Channel, OpD, IsWidth, Message, MessageD}
use proofs.Imports.{unfinished, completes, ClientConfig, Config, Cap, Grow, Perm, Rule, same_perm, is_grant}
use proofs.Imports.{is_release_ack, Finish, Verdict, EndConfig, grant_ack, no_ack_grant, illegal_at, reaction}
use proofs.Imports.{trackers_of, least_untaken, services, Deliver, Outcome, IsInvariant, Answer, Grant, GrantAck, Kind}
use proofs.Imports.{Packet, ReleaseAck, AcquireOpen, grant_fits, is_unreleased, is_whole, Block, State, grant_taken}
use proofs.Imports.{packet, packets_on, taken_block, view, is_granting, is_wanting, shown, AbstractState}
use proofs.Imports.{abstract_delivery, abstract_step, kind_taken, packet_taken, IsCarried, ChannelRelation}
use proofs.Imports.{MemoryRelation, AccessMessages, messages_on, block_message, SimulationRelation, receiver, is_moving}
use proofs.Imports.{Log, system_after, Machine, Releases, Requests, after_end, moved, pool_of, accesses_answered}
use proofs.Imports.{one_memory_after, performing, Step, client_took, handed_by, handing, is_to_client, judged}
use proofs.Imports.{manager_took, only, stepped_at, stepped, System, terms_at, with_channel, with_client, with_manager}
use proofs.Imports.{with_messages}
use Rattle.tl_coherence.specs.refinement.AbstractStep.{is_last}
use Rattle.tl_coherence.specs.statement.Step as step
use Rattle.tl_manager.specs.code.Kept as manager
use Rattle.tl_client.specs.statement.Offer as offer
use Rattle.tl_client.proofs.messages.Calls.{refusal-offered}
use Rattle.tl_client.specs.statement.Endpoint as client
use Rattle.tl_manager.specs.statement.End as manager_end
use Rattle.tl_manager.specs.statement.Offer as manager_offer
use proofs.manager.{Memories.IsManagerOf, Memories.left, ManagerTakes.IsTakenUp}
use proofs.manager.RequestsTaken.{next_tracker, invariant-taken}
use proofs.deliveries.ManagerDelivered.{channel_c-delivered, channel_e-delivered}
use proofs.queues.{Steps.manager-with_messages, Steps.stepped-to-manager, Steps.pushes_of, Steps.IsOn, Steps.HasHeard}
use proofs.queues.{Steps.landed-client, Steps.taken-landed, Steps.on_own_channel, Codes.grants-so, Codes.access_kind}
use proofs.queues.{Phases.and_left, Phases.whole_cap, Channels.carried-shown, Channels.IsTaken, Channels.pushes_at}
use proofs.queues.FirstToken.{carries, is_given, is_told, untold, uncarried, granted-untold}
use proofs.memory.BesideAsked.{beside-answer, beside-grant, beside-release_ack}
use proofs.simulation.Bounded.{answer_taken-shown, grant_taken-shown, release_ack_taken-shown}
use proofs.protocol.HeadOfD.{IsAnswerDue, IsGrantDue, grant_message, ack_message, own_view}
use proofs.client.DeliverD.{finish_at, acked, finish-pool}

-- ---- a delivery that moves a beat, as the protocol follows it

pub followed-moving : {w : ℕ} (config : Config) (link : Link) (ch : Channel) (sys : System w) (h : AbstractState w)
    (x : Beat w) (queue : List (Beat w)) → is_moving (stepped config (Deliver link ch) sys).outcome ≡ true
    → sys.channels link.0 ch ≡ x ∷ queue → abstract_step config (Deliver link ch) sys h
    ≡ (if completes x (unfinished ch (receiver ch link.0 sys)) then packet_taken config (next_tracker sys) link.0
    (packets_on ch (h.state.link link.0)) h else h)
followed-moving {w} config link ch sys h x queue moving first = cc (moving, first)

-- and one that moves none leaves it
pub followed-still : {w : ℕ} (config : Config) (link : Link) (ch : Channel) (sys : System w) (h : AbstractState w)
    → is_moving (stepped config (Deliver link ch) sys).outcome ≡ false
    → abstract_step config (Deliver link ch) sys h ≡ h
followed-still {w} config link ch sys h still = cc still

-- ---- the last beat of a response

-- the whole afterwards, where this message was handed out
abbrev after_heard : {w : ℕ} → ℕ → Channel → Beat w → List (Beat w) → System w → Option (Message w) → System w
after_heard c ch x queue sys m =
    with_messages (handed_by c m) (with_client c (offer.taken x (sys.clients c)).after (with_channel c ch queue sys))

-- what comes of it for the protocol: h' is what it is then, source that of the response, and f how its operation ends
pub record IsResponded {w : ℕ} (c : ℕ) (x : Beat w) (queue : List (Beat w)) (sys : System w) (machine : Machine w)
    (source : ℕ) (f : Finish) (m : Option (Message w)) (h' : AbstractState w) : Type 0 where
  pub carried : ChannelRelation h'.mail h'.state (after_heard c Channel.D x queue sys m)
  pub beside : MemoryRelation h'.mail h'.state (after_end c (pool_of f) source (machine.opened c (pool_of f) source)
      machine)
  pub quiet : accesses_answered (handed_by c m) ≡ []

-- the beat and the message that it belongs to
pub record IsLastBeat {w : ℕ} (c : ℕ) (x : Beat w) (queue : List (Beat w)) (sys : System w) (mm : MessageD w) : Type 0
  where
    pub y : BeatD w
    pub x_is : x ≡ Beat.D y
    pub opcode : y.opcode ≡ mm.opcode
    pub source : y.source ≡ mm.source
    pub sink : y.sink ≡ mm.sink
    pub first : sys.channels c Channel.D ≡ x ∷ queue
    pub last : completes x (unfinished Channel.D (sys.clients c).past) ≡ true
    pub heard : HasHeard x (sys.clients c) (offer.taken x (sys.clients c)).after

taken_d : {w : ℕ} {c : ℕ} {x : Beat w} {queue : List (Beat w)} {sys : System w} {mm : MessageD w}
    (m : Option (Message w)) → IsLastBeat c x queue sys mm
    → IsTaken c Channel.D x queue (pushes_at c (pushes_of m)) sys (after_heard c Channel.D x queue sys m)
taken_d {c} {x} {queue} {sys} m is =
    taken-landed (landed-client c Channel.D x queue m (offer.taken x (sys.clients c)).after sys refl is.first
    (subst (λ z. IsOn Channel.D z) (sym is.x_is) (on_own_channel (Beat.D is.y))) is.heard) is.last

finish_pool_is : {w : ℕ} {c : ℕ} {x : Beat w} {queue : List (Beat w)} {sys : System w} {mm : MessageD w}
    (is : IsLastBeat c x queue sys mm)
    → pool_of (finish_at is.y (sys.clients c)) ≡ (if is_release_ack mm.opcode then Releases else Requests)
finish_pool_is {w} is = cc (finish-pool w is.y.opcode is.y.param is.y.size _ _, is.opcode)

acked_none : {w : ℕ} (o : OpD) (sink : ℕ) → is_grant o ≡ false → acked {w = w} o sink ≡ None
acked_none o sink e = rw e refl

pub responded-answer : {w : ℕ} {config : Config} {log : Log w} (h : AbstractState w) {sys : System w} {c source : ℕ}
    (rest : List Packet) {x : Beat w} {queue : List (Beat w)} (due : IsAnswerDue c source h.mail h.state) → IsWidth w
    → SimulationRelation config log h.mail h.request h.state sys → (h.state.link c).d ≡ packet Answer source ∷ rest
    → (is : IsLastBeat c x queue sys due.answer) → IsResponded c x queue sys (one_memory_after config log) is.y.source
    (finish_at is.y (sys.clients c)) (acked is.y.opcode is.y.sink) (kind_taken config (next_tracker sys) c Answer source
    rest h)
unfolding accesses_answered
responded-answer h {sys} {c} {source} rest due width matched first is =
    let plain = access_kind _ due.answers_access in
    let none = acked_none _ is.y.sink (ap is_grant is.opcode ∙ plain.0) in
    let pool : pool_of (finish_at is.y (sys.clients c)) ≡ Requests = finish_pool_is is ∙ rw plain.1 refl in
    record {
      carried = rw none (carried-shown width (answer_taken-shown c source rest h.mail matched.invariant
          (invariant-taken h c Answer source rest matched first tt) first) (taken_d None is) matched.carried);
      beside = rw pool (rw (is.source ∙ due.from) (beside-answer c source rest due.used matched.beside));
      quiet = ap (λ m. accesses_answered (handed_by c m)) none;
    }

pub responded-release_ack : {w : ℕ} {config : Config} {log : Log w} (h : AbstractState w) {sys : System w} {c : ℕ}
    (n : ℕ) (rest : List Packet) {x : Beat w} {queue : List (Beat w)} → IsWidth w
    → SimulationRelation config log h.mail h.request h.state sys → (h.state.link c).d ≡ packet ReleaseAck n ∷ rest
    → is_unreleased ((h.state.block n).pair c).letting ≡ false
    → (is : IsLastBeat c x queue sys (ack_message ((h.state.block n).release_source c)))
    → IsResponded c x queue sys (one_memory_after config log) is.y.source (finish_at is.y (sys.clients c))
    (acked is.y.opcode is.y.sink) (kind_taken config (next_tracker sys) c ReleaseAck n rest h)
unfolding accesses_answered
responded-release_ack {w} h {c} n rest width matched first open_ is =
    let none : acked {w = w} is.y.opcode is.y.sink ≡ None = acked_none _ is.y.sink (ap is_grant is.opcode) in
    record {
      carried = rw none (carried-shown width (release_ack_taken-shown c n rest h.mail matched.invariant
          (invariant-taken h c ReleaseAck n rest matched first tt) first) (taken_d None is) matched.carried);
      beside =
          rw (finish_pool_is is) (rw is.source (beside-release_ack c n rest matched.invariant open_ matched.beside));
      quiet = ap (λ m. accesses_answered (handed_by c m)) none;
    }

rendered_ack : {w : ℕ} (c n : ℕ) (whole d : Bool) (k : Cap) (b : Block (List ℕ))
    → block_message {w = w} GrantAck c n (taken_block c whole d k b) ≡ grant_ack b.tracker
unfolding block_message
rendered_ack c n whole d k b = refl

-- what is asked of a Grant that stores a whole block: nothing else that carries its bytes is under way
abbrev pub IsBare : ℕ → Bool → Bool → Cap → Block (List ℕ) → Type 0
IsBare c whole d k b = (j : Kind) (i : ℕ) → shown j i b ≡ true → shown j i (taken_block c whole d k b) ≡ true
    → (carries j i b ≡ false) ⊎ ((taken_block c whole d k b).truth ≡ b.truth)

pub responded-grant : {w : ℕ} {config : Config} {log : Log w} (h : AbstractState w) {sys : System w} {c n : ℕ}
    (rest : List Packet) {x : Beat w} {queue : List (Beat w)} (due : IsGrantDue c n h.state) → IsWidth w
    → SimulationRelation config log h.mail h.request h.state sys → (h.state.link c).d ≡ packet Grant n ∷ rest
    → IsBare c due.whole due.data_too due.k (h.state.block n)
    → (is : IsLastBeat c x queue sys (grant_message due.data_too due.k ((h.state.block n).source c)
    (h.state.block n).tracker (h.state.block n).truth)) → IsResponded c x queue sys (one_memory_after config log)
    is.y.source (finish_at is.y (sys.clients c)) (acked is.y.opcode is.y.sink)
    (kind_taken config (next_tracker sys) c Grant n rest h)
unfolding accesses_answered
responded-grant {w} {config} {log} h {sys} {c} {n} rest {x} {queue} due width matched first bare is = rw same (record {
  carried = rw some (carried-shown width (grant_taken-shown c n due.whole due.data_too due.k rest
      (grant_ack (h.state.block n).tracker) h.mail matched.invariant
      (rw same at (invariant-taken h c Grant n rest matched first tt)) first due.service bare refl
      (rendered_ack c n due.whole due.data_too due.k (h.state.block n)))
      (taken_d (Some (grant_ack (h.state.block n).tracker)) is) matched.carried);
  beside = rw pool (subst (λ i. MemoryRelation h.mail (grant_taken c n due.whole due.data_too due.k rest h.state)
      (after_end c Requests i ((one_memory_after config log).opened c Requests i) (one_memory_after config log)))
      (sym is.source) (rw (ap is_whole due.wants) at
      (beside-grant c n due.data_too due.k rest matched.invariant (ap is_wanting due.wants) matched.beside)));
  quiet = ap (λ m. accesses_answered (handed_by c m)) some;
})
  where
    mm : MessageD w
    mm = grant_message due.data_too due.k ((h.state.block n).source c) (h.state.block n).tracker (h.state.block n).truth

    some : acked {w = w} is.y.opcode is.y.sink ≡ Some (grant_ack (h.state.block n).tracker)
    some = cc (is.opcode, is.sink, grants-so due.data_too)

    pool : pool_of (finish_at is.y (sys.clients c)) ≡ Requests
    pool = cc (finish_pool_is is, no_ack_grant due.data_too)

    same : kind_taken config (next_tracker sys) c Grant n rest h ≡ record h {
      state = grant_taken c n due.whole due.data_too due.k rest h.state;
    }
    same = cc (due.service, due.wants)

-- ---- a Grant of a whole block

-- what is granted to a store of the whole block: Trunk, and no data
whole_fits : (recorded held : Perm) (d : Bool) (k : Cap) (g : Grow)
    → grant_fits recorded held d k (AcquireOpen true g) ≡ true → (same_perm recorded Perm.Trunk ≡ true) × (d ≡ false)
whole_fits recorded held d k g e = grind (arith, whole_cap)

pub bare : {w : ℕ} {caching : ℕ → Bool} {c n : ℕ} (h : AbstractState w) (due : IsGrantDue c n h.state)
    → IsInvariant caching h.state → IsBare c due.whole due.data_too due.k (h.state.block n)
bare {w} {c} {n} h due inv j i before now = go due.whole refl
  where
    b : Block (List ℕ)
    b = h.state.block n

    told : due.whole ≡ true → (i ≡ c) ⊎ (i ≡ c → ⊥) → carries j i b ≡ false
    told e at =
        let fits = whole_fits (b.pair c).recorded (b.pair c).held due.data_too due.k due.g (cc due.fits) in
        uncarried j i b (quiet fits.0 at) (ap is_given due.service ∙ fits.1)
      where
        quiet : same_perm (b.pair c).recorded Perm.Trunk ≡ true → (i ≡ c) ⊎ (i ≡ c → ⊥) → is_told (b.pair i) ≡ false
        quiet top (inl same) = not-true _ (granted-untold (b.pair i) (view b.service i) ((inv.blocks n).phases i)
            (rw same (ap (λ v. is_granting v) (own_view c due.data_too due.k b.service due.service))))
        quiet top (inr other) =
            let none = (inv.blocks n).one_owner c i top other in
            not-true _ (and_left _ _ (untold (b.pair i) (view b.service i) ((inv.blocks n).phases i)
            (or_right (same_perm (b.pair i).held Perm.Trunk) (same_perm (b.pair i).recorded Perm.None) none)))

    go : (x : Bool) → due.whole ≡ x → (carries j i b ≡ false)
        ⊎ ((taken_block c due.whole due.data_too due.k b).truth ≡ b.truth)
    go true e = inl (told e (cases_eq i c))
    go false e = inr (ap (λ x. (taken_block c x due.data_too due.k b).truth) e)

-- ---- a delivery that moves no beat

-- it leaves the channels and what the receivers have, and hands nothing out
pub record IsUnmoved {w : ℕ} (sys : System w) (x : Step w) : Type 0 where
  pub channels : (d : ℕ) (at : Channel) → x.after.channels d at ≡ sys.channels d at
  pub rests : (d : ℕ) (at : Channel) → unfinished at (receiver at d x.after) ≡ unfinished at (receiver at d sys)
  pub pasts : (d : ℕ) → (x.after.clients d).past ≡ (sys.clients d).past
  pub trace : x.after.manager.trace ≡ sys.manager.trace
  pub handed : x.handed ≡ []
  pub machine : (link : Link) (ch : Channel) (m : Machine w) → moved (Deliver link ch) x.outcome m ≡ m

only_unmoved : {w : ℕ} (o : Outcome w) (sys : System w)
    → ((link : Link) (ch : Channel) (m : Machine w) → moved (Deliver link ch) o m ≡ m) → IsUnmoved sys (only o sys)
only_unmoved o sys still = grind arith

closed_unmoved : {w : ℕ} (e : manager_end.End w) (sys : System w) → e.trace ≡ sys.manager.trace
    → IsUnmoved sys (only Outcome.Stalled (with_manager e sys))
closed_unmoved {w} e sys same = grind arith

pub unmoved : {w : ℕ} (config : Config) (link : Link) (ch : Channel) (sys : System w)
    → is_moving (stepped config (Deliver link ch) sys).outcome ≡ false
    → IsUnmoved sys (stepped config (Deliver link ch) sys)
unfolding stepped manager_offer.offered
unmoved {w} config link ch sys still = at _ still
  where
    c : ℕ
    c = link.0

    by_client : (terms : client.EndConfig) (x : Beat w) (queue : List (Beat w))
        (a : Result (Verdict × Option (Message w)) Rule) → (offer.offered terms ch x (sys.clients c)).answer ≡ a
        → is_moving (judged a c ch x queue (offer.offered terms ch x (sys.clients c)).after sys).outcome ≡ false
        → IsUnmoved sys (judged a c ch x queue (offer.offered terms ch x (sys.clients c)).after sys)
    by_client terms x queue a e f = grind (arith, refusal-offered, only_unmoved)

    by_manager : (x : Beat w) (queue : List (Beat w)) (j : manager_offer.Judgement)
        → is_moving (manager_took c ch x queue (manager_offer.offered_as j config (record { 0 = c }) x sys.manager)
        sys).outcome ≡ false → IsUnmoved sys
        (manager_took c ch x queue (manager_offer.offered_as j config (record { 0 = c }) x sys.manager) sys)
    by_manager x queue (manager_offer.Breaks rule) s =
        closed_unmoved (manager_offer.refused (record { 0 = c }) sys.manager) sys refl
    by_manager x queue manager_offer.Waits s = only_unmoved Outcome.Stalled sys (λ l i m. refl)
    by_manager x queue manager_offer.Passes s = absurd cc

    delivered_to : (terms : client.EndConfig) (beats : List (Beat w))
        → is_moving (step.delivered config terms c ch beats sys).outcome ≡ false
        → IsUnmoved sys (step.delivered config terms c ch beats sys)
    delivered_to terms [] s = only_unmoved Outcome.Empty sys (λ l i m. refl)
    delivered_to terms (x ∷ queue) s = to (is_to_client ch) s
      where
        to : (b : Bool) → is_moving (if b then client_took c ch x queue (offer.offered terms ch x (sys.clients c)) sys
            else manager_took c ch x queue (manager_offer.offered config (record { 0 = c }) ch x sys.manager)
            sys).outcome ≡ false → IsUnmoved sys
            (if b then client_took c ch x queue (offer.offered terms ch x (sys.clients c)) sys else manager_took c ch x
            queue (manager_offer.offered config (record { 0 = c }) ch x sys.manager) sys)
        to true s = by_client terms x queue _ refl s
        to false s = by_manager x queue _ s

    at : (o : Option client.EndConfig) → is_moving (stepped_at config o (Deliver link ch) sys).outcome ≡ false
        → IsUnmoved sys (stepped_at config o (Deliver link ch) sys)
    at None s = only_unmoved Outcome.NoSuchClient sys (λ l i m. refl)
    at (Some terms) s = delivered_to terms _ s

carried-unmoved : {w : ℕ} (mail : AccessMessages w) (s : State (List ℕ)) {sys : System w} {x : Step w}
    → IsUnmoved sys x → ChannelRelation mail s sys → ChannelRelation mail s x.after
carried-unmoved {w} mail s {sys} {x} is h d at =
    let moved_to : (r q : List (Beat w)) → r ≡ unfinished at (receiver at d sys) → q ≡ sys.channels d at
    → IsCarried r (messages_on at mail s d) q = λ r q e f. rw (e, f) (h d at) in
    moved_to (unfinished at (receiver at d x.after)) (x.after.channels d at) (is.rests d at) (is.channels d at)

beside-unmoved : {w : ℕ} (config : Config) (log : Log w) {mail : AccessMessages w} {s : State (List ℕ)}
    (link : Link) (ch : Channel)
    → IsUnmoved (system_after config log) (stepped config (Deliver link ch) (system_after config log))
    → MemoryRelation mail s (one_memory_after config log)
    → MemoryRelation mail s (one_memory_after config
    ((Deliver link ch, (stepped config (Deliver link ch) (system_after config log)).outcome) ∷ log))
unfolding one_memory_after performing accesses_answered
beside-unmoved config log link ch is h = rw (is.handed, is.machine link ch (one_memory_after config log)) h

-- ---- the channels and the one memory after a delivery

pub record IsDelivered {w : ℕ} (config : Config) (log : Log w) (link : Link) (ch : Channel) (h : AbstractState w) : Type
    0 where
  pub carried : ChannelRelation (abstract_step config (Deliver link ch) (system_after config log) h).mail
      (abstract_step config (Deliver link ch) (system_after config log) h).state
      (stepped config (Deliver link ch) (system_after config log)).after
  pub beside : MemoryRelation (abstract_step config (Deliver link ch) (system_after config log) h).mail
      (abstract_step config (Deliver link ch) (system_after config log) h).state
      (one_memory_after config ((Deliver link ch, (stepped config (Deliver link ch) (system_after config log)).outcome)
      ∷ log))

-- as the protocol is afterwards
pub delivered_as : {w : ℕ} (config : Config) (log : Log w) (link : Link) (ch : Channel) (h h' : AbstractState w)
    → abstract_step config (Deliver link ch) (system_after config log) h ≡ h'
    → ChannelRelation h'.mail h'.state (stepped config (Deliver link ch) (system_after config log)).after
    → MemoryRelation h'.mail h'.state
    (one_memory_after config ((Deliver link ch, (stepped config (Deliver link ch) (system_after config log)).outcome)
    ∷ log)) → IsDelivered config log link ch h
delivered_as config log link ch h h' e carried beside = record { carried = rw e carried; beside = rw e beside }

pub delivered-unmoved : {w : ℕ} {config : Config} {log : Log w} (link : Link) (ch : Channel) (h : AbstractState w)
    → SimulationRelation config log h.mail h.request h.state (system_after config log)
    → is_moving (stepped config (Deliver link ch) (system_after config log)).outcome ≡ false
    → IsDelivered config log link ch h
delivered-unmoved {config} {log} link ch h is still =
    let no = unmoved config link ch _ still in
    delivered_as _ log link ch h h (followed-still config link ch (system_after config log) h still)
    (carried-unmoved h.mail h.state no is.carried) (beside-unmoved config log link ch no is.beside)

-- a link that has a beat is a client's
pub client-of : {w : ℕ} (config : Config) (c : ℕ) (ch : Channel) (x : Beat w) (queue : List (Beat w)) (sys : System w)
    → sys.channels c ch ≡ x ∷ queue → All (λ y. manager.IsSound config (record { 0 = c }, y)) (sys.channels c ch)
    → (t : EndConfig) × (terms_at config c ≡ Some t)
client-of {w} config c ch x queue sys beats sound =
    let go : (o : Option ClientConfig) → illegal_at (option_map (λ (i : ClientConfig). i.level) o) x ≡ None
    → (t : EndConfig) × (option_map (λ i. record {
      level = i.level;
      profile = config.profile;
      sources = i.sources;
      blocks = config.blocks;
    }) o ≡ Some t) =
    elim [ None ↦ λ e. absurd cc | Some i ↦ λ e. (_, refl) ] in
    let all : All (λ y. manager.IsSound config (record { 0 = c }, y)) (x ∷ queue) = rw beats at sound in
    go (slice_get config.clients.items c) (all 0 x (omega arith)).lawful

-- what the step is
pub step-taken : {w : ℕ} (config : Config) (c : ℕ) (ch : Channel) (x : Beat w) (queue : List (Beat w)) (sys : System w)
    (t : EndConfig) → terms_at config c ≡ Some t → sys.channels c ch ≡ x ∷ queue → is_to_client ch ≡ false
    → IsTakenUp config c ch x sys.manager → stepped config (Deliver (record { 0 = c }) ch) sys
    ≡ handing (Outcome.Moved x) (reaction config (record { 0 = c }) x sys.manager).handed
    (with_manager (left c x (reaction config (record { 0 = c }) x sys.manager) sys.manager)
    (with_channel c ch queue sys))
step-taken {w} config c ch x queue sys t terms beats down up =
    cc (stepped-to-manager config (record { 0 = c }) ch sys t x queue terms beats down, up.answer)

manager-taken : {w : ℕ} (config : Config) (c : ℕ) (ch : Channel) (x : Beat w) (queue : List (Beat w))
    (sys : System w) (t : EndConfig) → terms_at config c ≡ Some t → sys.channels c ch ≡ x ∷ queue
    → is_to_client ch ≡ false → IsTakenUp config c ch x sys.manager
    → (stepped config (Deliver (record { 0 = c }) ch) sys).after.manager
    ≡ left c x (reaction config (record { 0 = c }) x sys.manager) sys.manager
manager-taken {w} config c ch x queue sys t terms beats down up =
    let fact = manager-with_messages (reaction config (record { 0 = c }) x sys.manager).handed (with_manager
    (left c x (reaction config (record { 0 = c }) x sys.manager) sys.manager) (with_channel c ch queue sys)) in
    cc (step-taken config c ch x queue sys t terms beats down up)

-- and what the protocol does then
pub followed-taken : {w : ℕ} {config : Config} {c : ℕ} {ch : Channel} {x : Beat w} (queue : List (Beat w))
    (sys : System w) (h : AbstractState w) (t : EndConfig) → terms_at config c ≡ Some t → sys.channels c ch ≡ x ∷ queue
    → is_to_client ch ≡ false → IsTakenUp config c ch x sys.manager
    → abstract_step config (Deliver (record { 0 = c }) ch) sys h
    ≡ (if completes x (unfinished ch (receiver ch c sys)) then packet_taken config
    (least_untaken (trackers_of (services sys.manager.trace))) c (packets_on ch (h.state.link c)) h else h)
followed-taken {config} {c} {ch} {x} queue sys h t terms beats down up =
    ap (λ s. abstract_delivery config c ch s.outcome sys h) (step-taken config c ch x queue sys t terms beats down up)
    ∙ ap (λ b. if is_last b (unfinished ch (receiver ch c sys)) then packet_taken config
    (least_untaken (trackers_of (services sys.manager.trace))) c (packets_on ch (h.state.link c)) h else h) beats

pub manager-followed_c : {w : ℕ} {config : Config} {log : Log w} (h : AbstractState w) {sys : System w} (c : ℕ)
    (x : Beat w) (queue : List (Beat w)) → IsWidth w
    → SimulationRelation config log h.mail h.request h.state sys → sys.channels c Channel.C ≡ x ∷ queue
    → IsManagerOf config (abstract_step config (Deliver (record { 0 = c }) Channel.C) sys h)
    (stepped config (Deliver (record { 0 = c }) Channel.C) sys).after.manager
manager-followed_c {config} h {sys} c x queue width is beats =
    let t = client-of config c Channel.C x queue sys beats (is.sound c Channel.C) in
    let d = channel_c-delivered (least_untaken (trackers_of (services sys.manager.trace))) h c x queue width is beats in
    subst (λ i. IsManagerOf config (abstract_step config (Deliver (record { 0 = c }) Channel.C) sys h) i)
    (sym (manager-taken config c Channel.C x queue sys t.0 t.1 beats refl d.up))
    (rw (followed-taken queue sys h t.0 t.1 beats refl d.up) d.manager)

pub manager-followed_e : {w : ℕ} {config : Config} {log : Log w} (h : AbstractState w) {sys : System w} (c : ℕ)
    (x : Beat w) (queue : List (Beat w)) → IsWidth w
    → SimulationRelation config log h.mail h.request h.state sys → sys.channels c Channel.E ≡ x ∷ queue
    → IsManagerOf config (abstract_step config (Deliver (record { 0 = c }) Channel.E) sys h)
    (stepped config (Deliver (record { 0 = c }) Channel.E) sys).after.manager
manager-followed_e {config} h {sys} c x queue width is beats =
    let t = client-of config c Channel.E x queue sys beats (is.sound c Channel.E) in
    let d = channel_e-delivered (least_untaken (trackers_of (services sys.manager.trace))) h c x queue width is beats in
    subst (λ i. IsManagerOf config (abstract_step config (Deliver (record { 0 = c }) Channel.E) sys h) i)
    (sym (manager-taken config c Channel.E x queue sys t.0 t.1 beats refl d.up))
    (rw (followed-taken queue sys h t.0 t.1 beats refl d.up) d.manager)
