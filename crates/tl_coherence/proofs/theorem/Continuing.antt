-- What the one-memory machine allows at a delivery: how a Grant and a ReleaseAck end their operations.
-- What a delivery answers of accesses is performed after the step of the one-memory machine.
-- Each event is a step of the one-memory machine, and performs what it answers: the outcomes are a run of it.
use Rattle.std.proofs.Common.{◌≡◌, ℕ, Bool, true, false, List, [], ◌∷◌, Option, Some, None, Ok, refl, sym, ◌∙◌, ap}
use Rattle.std.proofs.Common.{subst, arith, ◌⊎◌, inl, inr, All, is_some}
use Rattle.tl_coherence.proofs
use proofs.Imports.{All-head, Beat, BeatE, Link, Channel, IsWidth, Message, MessageD, d_beat_of, channel_of, Config}
use proofs.Imports.{Cap, Grow, Perm, cap_right, Finish, Verdict, EndConfig, cap-gives, reaction-ack, reaction, Event}
use proofs.Imports.{Ask, Deliver, Outcome, Answer, Grant, Kind, ReleaseAck, AcquireOpen, AcquirePhase, grant_fits}
use proofs.Imports.{is_on, packet, AbstractState, IsAccess, IsLet, op_of, message_of_kind, block_message}
use proofs.Imports.{SimulationRelation, is_caching, is_moving, Continues, Log, system_after, Ends, Machine, Open}
use proofs.Imports.{Releases, Requests, Run, cap_named, is_client, moved, pool_of, accesses_answered, one_memory_after}
use proofs.Imports.{performing, handed_by, is_to_client, stepped, System, terms_at}
use Rattle.tl_coherence.{specs.statement.Headline.AreTyped, specs.statement.Log.IsLog}
use Rattle.tl_coherence.specs.statement.Machine.{EndsOp, IsStep, Performs}
use Rattle.tl_coherence.specs.statement.Step as step
use Rattle.tl_manager.specs.code.Kept as manager
use proofs.protocol.HeadOfD.{ack_message, ack-due, grant-due, grant-rendered, grant_message}
use proofs.links.{Ending.IsEnding, Ending.ending, HeadsOfLinks.first-of}
use proofs.links.Granting.{granted-at, opened-acquire, released-at, same-response}
use proofs.queues.{Phases.fits_cap, Phases.whole_cap, Steps.stepped-asked, Steps.first-outcome, Steps.stepped-empty}
use proofs.theorem.AccessEnds.{ends-answer}
use proofs.deliveries.{AskedAfter.continues-ask, DeliverDUnmoved.unmoved, ReportsAfter.once-followed_c}
use proofs.deliveries.{FirstRequest.once-delivered_a}
use proofs.deliveries.Matching.{shadow, matched, stepped-nobody, not_moving}
use proofs.memory.BesideTaken.{AllContinue, run-continued}
use proofs.memory.BesideRequests.{IsOnce, once-performs}
use proofs.simulation.Moved.{client-moves, manager-moves}
use proofs.simulation.BeatsInFlight.{copy-long, IsOfClient, IsFitAnswer, fit-taken}

-- what is granted to a store of the whole block is Trunk
whole_trunk : (recorded held : Perm) (d : Bool) (k : Cap) (g : Grow)
    → grant_fits recorded held d k (AcquireOpen true g) ≡ true → cap_right k ≡ Perm.Trunk
whole_trunk recorded held d k g e = ap cap_right (whole_cap g k (fits_cap recorded held d k true g e))

ends_granted : {w : ℕ} (n : ℕ) (bytes : List ℕ) (x : Beat w) (k : Cap) (whole : Bool) (g : Grow) (y : AcquirePhase)
    → y ≡ AcquireOpen whole g → cap_named x ≡ cap_right k → (whole ≡ true → cap_right k ≡ Perm.Trunk)
    → EndsOp (op_of {w = w} y n bytes) None x (Finish.Granted (cap_right k))
ends_granted n bytes x k whole g y e f h = grind arith

let_open : {w : ℕ} (n : ℕ) (o : Option ℕ) (opened : Option (Open w)) (x : Beat w) → o ≡ Some n → IsLet o opened
    → Ends opened x Finish.Released
let_open {w} n o opened x e is = grind arith

-- a Grant, and a ReleaseAck, end their operations as the machine allows
pub ends-transfer : {w : ℕ} {config : Config} {log : Log w} {link : Link} {ch : Channel} {h : AbstractState w}
    {x : Beat w} {source : ℕ} {f : Finish} → SimulationRelation config log h.mail h.request h.state
    (system_after config log) → (end : IsEnding config log link ch h x source f) → (end.first.kind ≡ Answer → ⊥)
    → Ends ((one_memory_after config log).opened link.0 (pool_of f) source) x f
unfolding block_message
ends-transfer {w} {config} {log} {link} {h} {x} {source} {f} is end other = go end.first.kind refl end.first.own
  where
    sys : System w
    sys = system_after config log

    c : ℕ
    c = link.0

    n : ℕ
    n = end.first.number

    m : Machine w
    m = one_memory_after config log

    tokens : (k : Kind) → end.first.kind ≡ k → (h.state.link c).d ≡ packet k n ∷ end.first.rest
    tokens k e = end.first.tokens ∙ ap (λ i. packet i n ∷ end.first.rest) e

    response_is : (k : Kind) → end.first.kind ≡ k → message_of_kind k h.mail h.state c n ≡ Message.D end.response
    response_is k e = ap (λ i. message_of_kind i h.mail h.state c n) (sym e) ∙ end.response_is

    go : (k : Kind) → end.first.kind ≡ k → is_on Channel.D end.first.kind ≡ true
        → Ends (m.opened c (pool_of f) source) x f
    go Grant e own =
        let due = grant-due (is_caching config) c n _ _ is.invariant (tokens Grant e) in
        let sent : MessageD w = grant_message due.data_too due.k ((h.state.block n).source c) (h.state.block n).tracker
        (h.state.block n).truth in
        let same = same-response end.response sent (sym (response_is Grant e) ∙ grant-rendered c n h.state due) in
        let fin : f ≡ Finish.Granted (cap_right due.k) = cc (
          end.finish_is,
          granted-at (d_beat_of end.response end.first.next.k) (sys.clients c) due.data_too due.k
              (ap (λ i. i.opcode) same) (ap (λ i. i.param) same),
        ) in
        let opened = opened-acquire _ log h sys c source n _ is refl
        (ap (h.state.uses c) (end.source_is ∙ ap (λ i. i.source) same) ∙ due.used) in
        let named : cap_named x ≡ cap_right due.k = cc (end.beat_is, same, cap-gives due.k) in
        let fits = due.fits in
        subst (λ i. Ends (m.opened c (pool_of i) source) x i) (sym fin)
        (rw opened (ends_granted n ((h.state.block n).waiting c) x due.k due.whole due.g
        ((h.state.block n).pair c).acquiring due.wants named (λ whole. whole_trunk
        ((h.state.block n).pair c).recorded ((h.state.block n).pair c).held due.data_too due.k due.g (cc))))
    go ReleaseAck e own =
        let sent : MessageD w = ack_message ((h.state.block n).release_source c) in
        let same : end.response ≡ sent = same-response end.response sent (sym (response_is ReleaseAck e)) in
        let fin : f ≡ Finish.Released = end.finish_is ∙ released-at (d_beat_of end.response end.first.next.k)
        (sys.clients c) (ap (λ i. i.opcode) same) in
        let from : source ≡ (h.state.block n).release_source c = cc (end.source_is, same) in
        subst (λ i. Ends (m.opened c (pool_of i) source) x i) (sym fin)
        (let_open n (h.state.lets c source) (m.opened c Releases source) x (ap (h.state.lets c) from
        ∙ ack-due c n _ is.invariant (tokens ReleaseAck e)) (is.beside.releases c source))
    go Answer e own = absurd (other e)
    go k e own = absurd (let g : false ≡ true = rw e at own in cc)

-- ---- what a client hands out answers no access

ours-quiet : {w : ℕ} (c : ℕ) (m : Message w) → IsOfClient m → accesses_answered (handed_by c (Some m)) ≡ []
unfolding accesses_answered
ours-quiet c m e = grind arith

none-quiet : (w c : ℕ) → accesses_answered (handed_by {w = w} c None) ≡ []
unfolding accesses_answered
none-quiet w c = refl

fit-quiet : {w : ℕ} (blocks c : ℕ) (v : Verdict) (m : Option (Message w)) → IsFitAnswer blocks (Ok (v, m))
    → accesses_answered (handed_by c m) ≡ []
fit-quiet {w} blocks c v None fit = none-quiet w c
fit-quiet blocks c v (Some m) fit = ours-quiet c m fit.ours

-- ---- where nothing is answered, or at most one access

performs-none : {w : ℕ} (l : List (ℕ × ℕ)) (m : Machine w) → l ≡ [] → Performs l m (performing l m)
unfolding Performs performing
performs-none l m e = rw e refl

-- at most one access is answered, which the step of the machine leaves as it is
abbrev pub IsAnswering : {w : ℕ} → List (ℕ × ℕ) → AbstractState w → Machine w → Machine w → Type 0
IsAnswering l h before next = (l ≡ []) ⊎ ((q : ℕ) × (source : ℕ) × (l ≡ (q, source) ∷ [])
    × IsAccess source (h.mail.request q source) None (before.opened q Requests source) × (next ≡ before))

performs-answering : {w : ℕ} (l : List (ℕ × ℕ)) (h : AbstractState w) (before next : Machine w)
    → IsAnswering l h before next → Performs l next (performing l next)
performs-answering l h before next (inl none) = performs-none l next none
performs-answering l h before next (inr (q, source, one, opened, still)) =
    rw still (once-performs l h before (inr (q, source, one, opened)))

still-none : {w : ℕ} (config : Config) (link : Link) (ch : Channel) (sys : System w)
    → is_moving (stepped config (Deliver link ch) sys).outcome ≡ false
    → accesses_answered (stepped config (Deliver link ch) sys).handed ≡ []
unfolding accesses_answered
still-none config link ch sys still = rw ((unmoved config link ch sys still).handed) refl

ack-none : {w : ℕ} (config : Config) (link : Link) (x : Beat w) (sys : System w) → (y : BeatE) → x ≡ Beat.E y
    → accesses_answered (reaction config link x sys.manager).handed ≡ []
unfolding accesses_answered
ack-none config link x sys y e = rw (e, reaction-ack config link y sys.manager) refl

pub answering-delivered : {w : ℕ} (config : Config) (log : Log w) (link : Link) (ch : Channel) (h : AbstractState w)
    → IsWidth w → SimulationRelation config log h.mail h.request h.state (system_after config log)
    → IsAnswering (accesses_answered (stepped config (Deliver link ch) (system_after config log)).handed) h
    (one_memory_after config log)
    (moved (Deliver link ch) (stepped config (Deliver link ch) (system_after config log)).outcome
    (one_memory_after config log))
answering-delivered {w} config log link ch h width is = go (is_moving (stepped config (Deliver link ch) sys).outcome)
    refl
  where
    sys : System w
    sys = system_after config log

    m : Machine w
    m = one_memory_after config log

    c : ℕ
    c = link.0

    Then : Channel → Type 0
    Then at = IsAnswering (accesses_answered (stepped config (Deliver link at) sys).handed) h m
        (moved (Deliver link at) (stepped config (Deliver link at) sys).outcome m)

    head : (at : Channel) (x : Beat w) (queue : List (Beat w)) → sys.channels c at ≡ x ∷ queue
        → manager.IsSound config (record { 0 = c }, x)
    head at x queue beats =
        let same : sys.channels c at ≡ x ∷ queue → All (λ y. manager.IsSound config (record { 0 = c }, y))
        (sys.channels c at) → All (λ y. manager.IsSound config (record { 0 = c }, y)) (x ∷ queue) = λ e f. rw e at f in
        All-head (λ y. manager.IsSound config (record { 0 = c }, y)) x queue (same beats (is.sound c at))

    -- a client takes it
    down : (at : Channel) (terms : EndConfig) (x : Beat w) (queue : List (Beat w)) → is_to_client at ≡ true
        → terms_at config c ≡ Some terms
        → sys.channels c at ≡ x ∷ queue → is_moving (stepped config (Deliver link at) sys).outcome ≡ true → Then at
    down at terms x queue theirs known beats moving =
        let t = client-moves config link at sys terms x queue known beats theirs moving in
        inl (ap (λ s. accesses_answered s.handed) t.step_is
        ∙ fit-quiet config.blocks c t.verdict_is t.message (subst (IsFitAnswer config.blocks) t.answer
        (fit-taken config.blocks x (sys.clients c) (head at x queue beats).inside (copy-long is c))))

    -- the manager takes it
    up : (at : Channel) (terms : EndConfig) (x : Beat w) (queue : List (Beat w)) → is_to_client at ≡ false
        → terms_at config c ≡ Some terms
        → sys.channels c at ≡ x ∷ queue → is_moving (stepped config (Deliver link at) sys).outcome ≡ true
        → IsOnce (accesses_answered (reaction config link x sys.manager).handed) h m → Then at
    up at terms x queue theirs known beats moving once =
        let t = manager-moves config link at sys terms x queue known beats theirs moving in
        let same = ap (λ s. accesses_answered s.handed) t.step_is in
        let still = ap (λ s. moved (Deliver link at) s.outcome m) t.step_is in
        elim once [ inl none ↦ inl (same ∙ none) | inr one ↦ inr (one.0, one.1, same ∙ one.2, one.3, still) ]

    moves : (at : Channel) (terms : EndConfig) (beats : List (Beat w)) → terms_at config c ≡ Some terms
        → sys.channels c at ≡ beats → is_moving (stepped config (Deliver link at) sys).outcome ≡ true → Then at
    moves at terms [] known none moving =
        absurd (not_moving _ _ (stepped-empty config link at sys terms known none) moving refl)
    moves Channel.A terms (x ∷ queue) known beats moving =
        let t = manager-moves config link Channel.A sys terms x queue known beats refl moving in
        up Channel.A terms x queue refl known beats moving
        (rw t.step_is at (once-delivered_a h c terms width is known is.beside))
    moves Channel.B terms (x ∷ queue) known beats moving = down Channel.B terms x queue refl known beats moving
    moves Channel.C terms (x ∷ queue) known beats moving = up Channel.C terms x queue refl known beats moving
        (once-followed_c h c x queue width is beats is.beside)
    moves Channel.D terms (x ∷ queue) known beats moving = down Channel.D terms x queue refl known beats moving
    moves Channel.E terms (x ∷ queue) known beats moving =
        let acked : (y : Beat w) → channel_of y ≡ Channel.E
        → accesses_answered (reaction config link y sys.manager).handed ≡ [] =
        elim [ Beat.E y ↦ λ e. ack-none config link (Beat.E y) sys y refl | y ↦ λ e. absurd cc ] in
        up Channel.E terms x queue refl known beats moving
        (inl (acked x (first-of config log h c terms Channel.E x queue width is known beats).on))

    found : (o : Option EndConfig) → terms_at config c ≡ o
        → is_moving (stepped config (Deliver link ch) sys).outcome ≡ true → Then ch
    found None none moving = absurd (not_moving _ _ (stepped-nobody config (Deliver link ch) sys none) moving refl)
    found (Some terms) known moving = moves ch terms (sys.channels c ch) known refl moving

    go : (b : Bool) → is_moving (stepped config (Deliver link ch) sys).outcome ≡ b → Then ch
    go true moving = found (terms_at config c) refl moving
    go false still = inl (still-none config link ch sys still)

pub performs-delivered : {w : ℕ} {config : Config} {log : Log w} (link : Link) (ch : Channel) (h : AbstractState w)
    → IsWidth w → SimulationRelation config log h.mail h.request h.state (system_after config log)
    → Performs (accesses_answered (stepped config (Deliver link ch) (system_after config log)).handed)
    (moved (Deliver link ch) (stepped config (Deliver link ch) (system_after config log)).outcome
    (one_memory_after config log))
    (one_memory_after config ((Deliver link ch, (stepped config (Deliver link ch) (system_after config log)).outcome)
    ∷ log))
unfolding one_memory_after
performs-delivered {config} {log} link ch h width is = performs-answering (accesses_answered
    (stepped config (Deliver link ch) (system_after config log)).handed) h _
    (moved (Deliver link ch) (stepped config (Deliver link ch) (system_after config log)).outcome
    (one_memory_after config log)) (answering-delivered config log link ch h width is)

-- ---- what a delivery can come to

is_delivered : {w : ℕ} → Outcome w → Bool
is_delivered (Outcome.Replied r) = false
is_delivered Outcome.NoSuchClient = false
is_delivered _ = true

delivered-so : {w : ℕ} (config : Config) (terms : EndConfig) (c : ℕ) (ch : Channel) (beats : List (Beat w))
    (s : System w) → is_delivered (step.delivered config terms c ch beats s).outcome ≡ true
unfolding is_delivered
delivered-so config terms c ch beats s = grind (arith, first-outcome, is_delivered)

stepped-so : {w : ℕ} (config : Config) (link : Link) (ch : Channel) (terms : EndConfig) (s : System w)
    → terms_at config link.0 ≡ Some terms → is_delivered (stepped config (Deliver link ch) s).outcome ≡ true
unfolding stepped
stepped-so config link ch terms s known = rw known (delivered-so config terms link.0 ch (s.channels link.0 ch) s)

step_allowed : {w : ℕ} (config : Config) (link : Link) (ch : Channel) (o : Outcome w) (m : Machine w)
    → is_delivered o ≡ true → is_client config link.0 ≡ true
    → ((x : Beat w) (source : ℕ) (f : Finish) → o ≡ Outcome.Done x source f
    → (ch ≡ Channel.D) × Ends (m.opened link.0 (pool_of f) source) x f)
    → IsStep config (Deliver link ch) o m (moved (Deliver link ch) o m)
unfolding is_delivered
step_allowed config link Channel.D (Outcome.Done x source f) m so known done = (known, (done x source f refl).1, refl)
step_allowed config link ch (Outcome.Done x source f) m so known done = absurd (let e = (done x source f refl).0 in cc)
step_allowed config link ch (Outcome.Replied r) m so known done = absurd cc
step_allowed config link ch Outcome.NoSuchClient m so known done = absurd cc
step_allowed config link ch o m so known done = (known, tt, refl)

-- ---- events

nobody-continues : {w : ℕ} (config : Config) (log : Log w) (event : Event w) → terms_at config (step.client_of event)
    ≡ None → Continues config (event, (stepped config event (system_after config log)).outcome) log
unfolding one_memory_after performing Performs accesses_answered
nobody-continues {w} config log event none =
    let same : (e : Event w) → moved e Outcome.NoSuchClient (one_memory_after config log) ≡ one_memory_after config
    log = elim [ Ask c o ↦ refl | Deliver link ch ↦ refl ] in
    rw (stepped-nobody config event (system_after config log) none)
    (one_memory_after config log, [], (rw none refl, refl), same event)

continues-delivered : {w : ℕ} {config : Config} {log : Log w} (link : Link) (ch : Channel) (h : AbstractState w)
    (terms : EndConfig) → IsWidth w → SimulationRelation config log h.mail h.request h.state (system_after config log)
    → terms_at config link.0 ≡ Some terms
    → Continues config (Deliver link ch, (stepped config (Deliver link ch) (system_after config log)).outcome) log
continues-delivered {w} {config} {log} link ch h terms width is known =
    let fact = moved (Deliver link ch) (stepped config (Deliver link ch) (system_after config log)).outcome m in
    let other_fact = accesses_answered (stepped config (Deliver link ch) (system_after config log)).handed in
    let third_fact = step_allowed config link ch _ m
    (stepped-so config link ch terms (system_after config log) known) (ap is_some known) done in
    (fact, other_fact, third_fact, performs-delivered link ch h width is)
  where
    m : Machine w
    m = one_memory_after config log

    done : (x : Beat w) (source : ℕ) (f : Finish) → (stepped config (Deliver link ch) (system_after config log)).outcome
        ≡ Outcome.Done x source f → (ch ≡ Channel.D) × Ends (m.opened link.0 (pool_of f) source) x f
    done x source f e = (end.on_d, go end.first.kind refl)
      where
        end : IsEnding config log link ch h x source f
        end = ending _ log link ch h x source f width is e

        go : (k : Kind) → end.first.kind ≡ k → Ends (m.opened link.0 (pool_of f) source) x f
        go Answer g = ends-answer width is end g
        go k g = ends-transfer is end (λ i. let no_one : k ≡ Answer = sym g ∙ i in cc)

continues_event : {w : ℕ} {config : Config} {log : Log w} (event : Event w) (h : AbstractState w) → IsWidth w
    → SimulationRelation config log h.mail h.request h.state (system_after config log)
    → Continues config (event, (stepped config event (system_after config log)).outcome) log
continues_event {w} {config} {log} event h width is = go event (terms_at config (step.client_of event)) refl
  where
    go : (e : Event w) (o : Option EndConfig) → terms_at config (step.client_of e) ≡ o
        → Continues config (e, (stepped config e (system_after config log)).outcome) log
    go e None none = nobody-continues config log e none
    go (Deliver link ch) (Some terms) known = continues-delivered link ch h terms width is known
    go (Ask c o) (Some terms) known = rw (ap (λ x. x.outcome)
        (stepped-asked config c o (system_after config log) terms known)) (continues-ask h c terms o width is known)

-- Each event goes on from the machine before it.
pub continues : {w : ℕ} (config : Config) (log : Log w) (x : Event w × Outcome w) → IsWidth w → AreTyped log
    → IsLog config (x ∷ log) → Continues config x log
unfolding IsLog
continues config log x width typed logged = subst (λ o. Continues config (x.0, o) log) (sym logged.0)
    (continues_event x.0 (shadow config log) width (matched config log width typed logged.1))

-- ---- runs

logged_before : {w : ℕ} (config : Config) (x : Event w × Outcome w) (log : Log w) → IsLog config (x ∷ log)
    → IsLog config log
unfolding IsLog
logged_before config x log logged = logged.1

all_continue : {w : ℕ} (config : Config) (log : Log w) → IsWidth w → AreTyped log → IsLog config log
    → AllContinue config log
unfolding AllContinue AreTyped
all_continue config [] width typed logged = tt
all_continue config (x ∷ log) width typed logged = let fact = all_continue config log width typed.1
    (logged_before config x log logged) in (continues config log x width typed.1 logged, fact)

-- The outcomes are a run of the one-memory machine.
pub run : {w : ℕ} (config : Config) (log : Log w) → IsWidth w → AreTyped log → IsLog config log
    → Run config log (one_memory_after config log)
run config log width typed logged = run-continued config log (all_continue config log width typed logged)
