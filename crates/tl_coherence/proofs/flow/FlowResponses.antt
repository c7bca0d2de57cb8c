-- What is half taken on channel A while a response is on its way.
-- A response that is delivered breaks no rule of order after what was delivered on its link.
use Rattle.std.proofs.Common.{◌≡◌, ℕ, Bool, true, false, not, ◌&&◌, List, [], ◌∷◌, Some, None}
use Rattle.std.proofs.Common.{refl, sym, ◌∙◌, ap, subst, arith, map}
use Rattle.tl_coherence.proofs
use proofs.Imports.{Beat, BeatA, Channel, IsWidth, Message, MessageA, MessageD}
use proofs.Imports.{a_beat_of, beat_of, begun, History, channel_of, unfinished, Config, ReleaseSource, RequestSource}
use proofs.Imports.{Level, Perm, Profile, broken_in_order}
use proofs.Imports.{comes_in_release, comes_in_request, same_perm, broken_after, on_link, held, pending}
use proofs.Imports.{request_of, illegal, same_block, acquisition, no_ack_grant}
use proofs.Imports.{grant_opcode, level_of, IsInvariant, Acquire, Answer, Grant, Kind, Packet}
use proofs.Imports.{ReleaseAck, Request, AcquireOpen, ReleaseAcked, ReleasePhase}
use proofs.Imports.{Acquires, Asked, GrantSent, SourceState, State, is_on, packet, view, is_acked}
use proofs.Imports.{is_answered, is_unserved, is_wanting, acquire_opcode}
use proofs.Imports.{is_release_pending, is_requested, AccessMessages, message_of, message_of_kind}
use proofs.Imports.{block_message, IsGivenAsked, MonitorRelations, SimulationRelation, gives_asked}
use proofs.Imports.{is_caching, flow, Log, System}
use Rattle.tl_rules.specs.statement.Conformance as rules
use proofs.protocol.HeadOfD.{acquire-used, IsAnswerDue, answer-due, IsGrantDue, grant-due, grant-rendered, ack-due}
use proofs.protocol.HeadOfD.{grant_message, ack_message, own_view}
use proofs.protocol.BothParts.{wanting-is, first-shown, quiet_unanswered}
use proofs.protocol.Room.{asked-first, rendered-acquire}
use proofs.queues.{FirstToken.IsFirst, FirstToken.first-token, Phases.and_left, Phases.and_right}
use proofs.queues.{Carried.IsNext, Facts.granting_alone, Codes.access_kind}
use proofs.client.{ClientDelivered.ack_next, Waiting.answer-legal, Waiting.grant-legal, Waiting.ack-legal}
use proofs.client.ClientEnd.{is_access, asks-access, asks-acquire, answers_acquire, fits_asked, fitting, has_data}
use proofs.client.ClientEnd.{next-legal}
use proofs.client.HalfTaken.{half-taken}
use proofs.flow.NextOnD.{coming-acked}
use proofs.flow.FlowLawful.{lawful-beat}
use proofs.links.Acknowledged.{AreSunk, unsunk-due}

-- ---- what is half taken on channel A

-- a request with a source of this use is on channel A
abbrev pub waits_on_a : ℕ → SourceState → State (List ℕ) → Bool
waits_on_a c Asked s = true
waits_on_a c (Acquires n) s = is_unserved (view (s.block n).service c)
waits_on_a c _ s = false

-- the message is a request whose source waits there
IsWaiting : {w : ℕ} → ℕ → State (List ℕ) → Message w → Type 0
IsWaiting {w} c s m = (r : MessageA w) × (m ≡ Message.A r) × (waits_on_a c (s.uses c r.source) s ≡ true)

waiting_request : {w : ℕ} {config : Config} {log : Log w} {mail : AccessMessages w} {request : ℕ → MessageA w}
    {s : State (List ℕ)} {sys : System w} (c i : ℕ)
    (rest : List Packet) → SimulationRelation config log mail request s sys
    → (s.link c).a ≡ packet Request i ∷ rest → IsWaiting c s (mail.request c i)
unfolding IsWaiting
waiting_request {config} {log} {mail} {request} {s} {sys} c i rest h first =
    let asked = asked-first c i rest h first in (asked.request, asked.is_it, cc (asked.source_is, asked.used))

waiting_acquire : {w : ℕ} {config : Config} {log : Log w} {mail : AccessMessages w} {request : ℕ → MessageA w}
    {s : State (List ℕ)} {sys : System w} (c n : ℕ)
    (rest : List Packet) → SimulationRelation config log mail request s sys
    → (s.link c).a ≡ packet Acquire n ∷ rest → IsWaiting {w = w} c s (block_message Acquire c n (s.block n))
unfolding IsWaiting
waiting_acquire {config} {s} c n rest h first =
    let shows = first-shown h.invariant c Acquire refl first in
    let wants = and_left (is_wanting ((s.block n).pair c).acquiring) (is_unserved (view (s.block n).service c)) shows in
    let asks = wanting-is _ wants in let fact = acquisition (acquire_opcode asks.0) asks.1
    ((s.block n).source c) n in let other_fact = ap (λ u. waits_on_a c u s) (acquire-used
    (is_caching config) c n s h.invariant wants) ∙ and_right (is_wanting ((s.block n).pair c).acquiring) (is_unserved
    (view (s.block n).service c)) shows in (fact, rendered-acquire c n _ asks.0 asks.1 asks.2, other_fact)

comes_not : {w : ℕ} (c source : ℕ) (s : State (List ℕ)) (m : Message w) (k : ℕ) (rest : List (Beat w))
    → rest ≡ begun m k → IsWaiting c s m
    → waits_on_a c (s.uses c source) s ≡ false → comes_in_request source rest ≡ false
unfolding IsWaiting
comes_not {w} c source s m k rest e is none = grind (arith, waits_on_a)

-- no request is half taken whose source waits for an answer
pub not-coming_a : {w : ℕ} {config : Config} {log : Log w} {mail : AccessMessages w} {request : ℕ → MessageA w}
    {s : State (List ℕ)} {sys : System w} (c source : ℕ)
    → SimulationRelation config log mail request s sys → waits_on_a c (s.uses c source) s ≡ false
    → comes_in_request source (unfinished Channel.A (on_link c sys.manager.trace)) ≡ false
not-coming_a {mail} {s} c source h none = half-taken c Channel.A (λ beats. comes_in_request source beats ≡ false) h refl
    (λ k i rest j first own. comes_not c source s _ j _ refl (each k i rest first own) none)
  where
    each : (k : Kind) (i : ℕ) (rest : List Packet) → (s.link c).a ≡ packet k i ∷ rest → is_on Channel.A k ≡ true
        → IsWaiting c s (message_of_kind k mail s c i)
    each Request i rest first own = waiting_request c i rest h first
    each Acquire i rest first own = waiting_acquire c i rest h first
    each k i rest first own = absurd cc

-- ---- an answer

flow-answer : {w : ℕ} {config : Config} {log : Log w} {mail : AccessMessages w} {request : ℕ → MessageA w}
    {s : State (List ℕ)} {sys : System w} {c source : ℕ} → SimulationRelation config log mail request s sys
    → MonitorRelations log mail s sys → (due : IsAnswerDue c source mail s) → unfinished Channel.D (sys.clients c).past
    ≡ [] → broken_in_order config.profile (beat_of (Message.D due.answer) 0) (flow c log) ≡ None
flow-answer {w} {config} {log} {mail} {request} {s} {sys} {c} {source} h flowed due whole =
    let kind = access_kind _ due.answers_access in
    let asks = asks-access c source _ mail s (ap is_access due.used) due.request_is in
    let live = (flowed c).requests source ∙ ap (λ u. is_requested c source
    (unfinished Channel.A (on_link c sys.manager.trace)) u s) due.used in
    answer-legal config.profile (record {
      whole = (flowed c).rest_is Channel.D ∙ whole;
      complete = cc (
        (flowed c).rest_is Channel.A,
        due.from,
        not-coming_a c source h (ap (λ u. waits_on_a c u s) due.used),
      );
      other = kind.1;
      live = ap (λ i. pending (RequestSource i) (flow c log)) due.from ∙ live;
      request = ap (λ i. request_of i (flow c log)) due.from ∙ (flowed c).asked_is source live ∙ asks;
      admits = due.admits;
      size = due.size;
    }) kind.0

-- ---- a Grant

-- what the client of a Grant has of its block
pub grant_quiet : {caching : ℕ → Bool} {c n : ℕ} {s : State (List ℕ)} → IsInvariant caching s → (due : IsGrantDue c n s)
    → is_answered ((s.block n).pair c).probing ≡ false
grant_quiet {c} {n} {s} inv due =
    let alone = granting_alone due.data_too due.k _ _
    ((inv.blocks n).phases c) (own_view c due.data_too due.k (s.block n).service due.service) in
    quiet_unanswered _ (and_left _ _ alone)

flow-grant : {w : ℕ} {config : Config} {log : Log w} {mail : AccessMessages w} {request : ℕ → MessageA w}
    {s : State (List ℕ)} {sys : System w} {c n : ℕ} → SimulationRelation config log mail request s sys
    → MonitorRelations log mail s sys → AreSunk (flow c log) (sys.clients c).past (sys.channels c Channel.E)
    → (due : IsGrantDue c n s)
    → gives_asked config.profile (AcquireOpen due.whole due.g) due.k ≡ true → unfinished Channel.D (sys.clients c).past
    ≡ [] → broken_in_order config.profile
    (beat_of (Message.D (grant_message due.data_too due.k ((s.block n).source c) (s.block n).tracker (s.block n).truth))
    0) (flow c log) ≡ None
flow-grant {w} {config} {log} {mail} {request} {s} {sys} {c} {n} h flowed sunk due given whole =
    let source = (s.block n).source c in
    let r : BeatA w = a_beat_of (acquisition (acquire_opcode due.whole) due.g source n) 0 in
    let fits = fitting _ _ due.data_too due.k due.whole due.g due.fits in
    let asks = asks-acquire c _ n source due.whole due.g mail s due.used due.wants refl in
    let mine = own_view c due.data_too due.k _ due.service in
    let live : pending (RequestSource source) (flow c log) ≡ true = cc ((flowed c).requests source, due.used, mine) in
    let held_now : held n (flow c log) ≡ ((s.block n).pair c).held = cc ((flowed c).held_is n, mine) in
    grant-legal _ n (record {
      whole = (flowed c).rest_is Channel.D ∙ whole;
      complete = cc (
        (flowed c).rest_is Channel.A,
        not-coming_a c source h (ap (λ u. waits_on_a c u s) due.used ∙ ap is_unserved mine),
      );
      other = no_ack_grant due.data_too;
      live = live;
      request = (flowed c).asked_is source live ∙ asks;
      admits = answers_acquire due.whole due.data_too fits.bare;
      size = refl;
    }) (same_block n) (fits_asked config.profile due.whole due.g due.k fits.cap_is given)
    (ap (λ q. rules.is_grant_without_data (grant_opcode due.data_too)
    && (rules.is_acquire_block (acquire_opcode due.whole) && not (same_perm q Perm.Branch))) held_now ∙ has_data
    due.whole due.data_too _ fits.carried) ((flowed c).probes n ∙ grant_quiet h.invariant due)
    (unsunk-due c n h due whole sunk)

-- ---- a ReleaseAck

flow-ack : {w : ℕ} {config : Config} {log : Log w} {mail : AccessMessages w} {request : ℕ → MessageA w}
    {s : State (List ℕ)} {sys : System w} (c n : ℕ) → IsWidth w → SimulationRelation config log mail request s sys
    → MonitorRelations log mail s sys → s.lets c ((s.block n).release_source c) ≡ Some n
    → is_acked ((s.block n).pair c).letting ≡ true → unfinished Channel.D (sys.clients c).past ≡ []
    → broken_in_order config.profile (beat_of (Message.D (ack_message ((s.block n).release_source c))) 0) (flow c log)
    ≡ None
flow-ack {w} {config} {log} {mail} {request} {s} {sys} c n width h flowed let_ acked whole =
    let let_acked : (x : ReleasePhase) (source : ℕ) (rest : List (Beat w)) → is_acked x ≡ true → is_release_pending
    source rest x ≡ true = elim [ ReleaseAcked ↦ λ source rest e. refl | x ↦ λ source rest e. absurd cc ] in
    let source = (s.block n).release_source c in
    let rest = unfinished Channel.C (on_link c sys.manager.trace) in
    let live : pending (ReleaseSource source) (flow c log) ≡ true =
    cc ((flowed c).release_sources source, let_, let_acked ((s.block n).pair c).letting source rest acked) in
    ack-legal config.profile _ _ ((flowed c).rest_is Channel.D ∙ whole) (ap (λ b. comes_in_release source b)
    ((flowed c).rest_is Channel.C) ∙ coming-acked c n source width h let_ acked) refl live ((flowed c).sizes source n let_ live)

-- ---- all of channel D

-- each beat of a response, where its first breaks no rule
legal_next : {w : ℕ} {config : Config} {log : Log w} {mail : AccessMessages w} {request : ℕ → MessageA w}
    {s : State (List ℕ)} {sys : System w} (c : ℕ) (m : MessageD w) {ms : List (Message w)} {x : Beat w}
    {queue : List (Beat w)} → SimulationRelation config log mail request s sys → MonitorRelations log mail s sys
    → IsNext x (unfinished Channel.D (sys.clients c).past) (Message.D m) ms queue
    → (unfinished Channel.D (sys.clients c).past ≡ [] → broken_in_order config.profile (beat_of (Message.D m) 0)
    (flow c log) ≡ None) → broken_in_order config.profile x (flow c log) ≡ None
legal_next {config} {log} c m h flowed next first =
    let rest_is = (flowed c).rest_is Channel.D in
    ap (λ y. broken_in_order config.profile y (flow c log)) next.beat_is ∙ next-legal config.profile m next.k
    _ (rest_is ∙ next.rest_is) (λ whole. first (sym rest_is ∙ whole))

legal_d : {w : ℕ} {config : Config} {log : Log w} {mail : AccessMessages w} {request : ℕ → MessageA w}
    {s : State (List ℕ)} {sys : System w} (c : ℕ) (x : Beat w) (queue : List (Beat w)) → IsWidth w
    → SimulationRelation config log mail request s sys → MonitorRelations log mail s sys
    → AreSunk (flow c log) (sys.clients c).past (sys.channels c Channel.E) → sys.channels c Channel.D ≡ x ∷ queue
    → broken_in_order config.profile x (flow c log) ≡ None
legal_d {w} {config} {log} {mail} {request} {s} {sys} c x queue width h flowed sunk beats =
    go first.kind first.number first.tokens first.own first.next
  where
    first : IsFirst Channel.D c mail s sys x queue
    first = first-token (is_caching config) Channel.D c mail s sys x queue width h.invariant h.carried beats

    rest_now : List (Beat w)
    rest_now = unfinished Channel.D (sys.clients c).past

    ms : List (Message w)
    ms = map (message_of mail s c) first.rest

    given : (n : ℕ) (due : IsGrantDue c n s) → gives_asked config.profile (AcquireOpen due.whole due.g) due.k ≡ true
    given n due =
        let all : IsGivenAsked config.profile (GrantSent c due.data_too due.k) (s.block n).pair =
        subst (λ i. IsGivenAsked config.profile i (s.block n).pair) due.service (h.given n) in
        sym (ap (λ i. gives_asked config.profile i due.k) due.wants) ∙ all

    answer : (i : ℕ) → (s.link c).d ≡ packet Answer i ∷ first.rest → IsNext x rest_now (mail.answer c i) ms queue
        → broken_in_order config.profile x (flow c log) ≡ None
    answer i tokens next =
        let due = answer-due (is_caching config) c i _ mail s h.invariant (h.answered c i) tokens in
        legal_next c _ h flowed (subst (λ m. IsNext x rest_now m ms queue) due.answer_is next)
        (flow-answer h flowed due)

    grant : (n : ℕ) → (s.link c).d ≡ packet Grant n ∷ first.rest
        → IsNext x rest_now (block_message Grant c n (s.block n)) ms queue
        → broken_in_order config.profile x (flow c log) ≡ None
    grant n tokens next =
        let due = grant-due (is_caching config) c n _ s h.invariant tokens in
        legal_next c (grant_message due.data_too due.k ((s.block n).source c) (s.block n).tracker (s.block n).truth)
        h flowed (subst (λ m. IsNext x rest_now m ms queue) (grant-rendered c n s due) next)
        (flow-grant h flowed sunk due (given n due))

    go : (k : Kind) (i : ℕ) → (s.link c).d ≡ packet k i ∷ first.rest → is_on Channel.D k ≡ true
        → IsNext x rest_now (message_of_kind k mail s c i) ms queue
        → broken_in_order config.profile x (flow c log) ≡ None
    go Answer i tokens own next = answer i tokens next
    go Grant i tokens own next = grant i tokens next
    go ReleaseAck i tokens own next = legal_next c _ h flowed (ack_next c i s next) (flow-ack c i width h flowed
        (ack-due c i first.rest h.invariant tokens) (first-shown h.invariant c ReleaseAck refl tokens))
    go k i tokens own next = absurd cc

in_order : {w : ℕ} (l : Level) (p : Profile) (x : Beat w) (t : History w) → illegal l (channel_of x) x ≡ None
    → broken_in_order p x t ≡ None → broken_after l p x t ≡ None
unfolding broken_after
in_order l p x t lawful order = rw lawful order

pub flows-d : {w : ℕ} {config : Config} {log : Log w} {mail : AccessMessages w} {request : ℕ → MessageA w}
    {s : State (List ℕ)} {sys : System w} (c : ℕ) (l : Level) (x : Beat w) (queue : List (Beat w)) → IsWidth w
    → SimulationRelation config log mail request s sys → MonitorRelations log mail s sys
    → AreSunk (flow c log) (sys.clients c).past (sys.channels c Channel.E) → sys.channels c Channel.D ≡ x ∷ queue
    → level_of config c ≡ Some l → broken_after l config.profile x (flow c log)
    ≡ None
flows-d {config} {log} c l x queue width h flowed sunk beats level = in_order l _ x
    _ (lawful-beat c Channel.D l x queue h beats level) (legal_d c x queue width h flowed sunk beats)
