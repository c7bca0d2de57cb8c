-- Every delivery on channel D, and every one that moves no beat: the channels and the one memory afterwards.
-- A beat of channel C that is delivered to the manager: the channels and the one memory afterwards.
use Rattle.std.proofs.Common.{◌≡◌, ℕ, Bool, true, false, not, ◌&&◌, ◌==◌, if◌then◌else◌, List, [], ◌∷◌, Some, None}
use Rattle.std.proofs.Common.{refl, sym, ◌∙◌, ap, subst, arith, inl, inr, length, map}
use Rattle.tl_coherence.proofs
use proofs.Imports.{Beat, Link, Channel, IsWidth, Message, MessageD, beat_of, d_beat_of, unfinished, completes, Config}
use proofs.Imports.{Prune, Report, on_link, Handed, reaction, Deliver, Outcome, Answer, Grant, Kind, Packet, ProbeAck}
use proofs.Imports.{Release, ReleaseAck, is_unprobed, after_release_taken, Block, Free, GrantSent, GrantTaken, Service}
use proofs.Imports.{Waits, is_on, let_block, packet, release_taken, AbstractState, abstract_step, ack_taken, answers}
use proofs.Imports.{kind_taken, last_taken, packet_taken, some_below, ChannelRelation, MemoryRelation, message_of}
use proofs.Imports.{message_of_kind, prune_told, report_told, block_message, IsRequest, IsServedWith}
use proofs.Imports.{SimulationRelation, is_caching, IsFor, is_moving, Log, system_after, Machine, moved}
use proofs.Imports.{accesses_answered, one_memory_after, performing, Step, handed_by, handing, stepped, System}
use proofs.Imports.{terms_at, with_channel, with_client}
use Rattle.tl_coherence.specs.protocol.Protocol as protocol
use Rattle.tl_client.specs.statement.Endpoint as client
use Rattle.tl_client.specs.statement.Offer as offer
use proofs.queues.{Carried.IsNext, FirstToken.IsFirst, FirstToken.first-token, Tokens.set_at-same}
use proofs.queues.Steps.{pushes_of, IsOn, HasHeard, landed-client, on_own_channel}
use proofs.manager.{RequestsTaken.next_tracker, Accounts.plain-past, ManagerTakes.by-first_c}
use proofs.protocol.{BothParts.acked-open, BothParts.first-shown, BothParts.first-report, RequestsKept.settled_all}
use proofs.protocol.HeadOfD.{grant_message, ack_message, answer-due, grant-due, grant-rendered}
use proofs.client.DeliverD.{finish_at, acked, answer-last, answer-part, same_answers}
use proofs.deliveries.CarriedReports.{carried-followed_c}
use proofs.deliveries.ManagerDelivered.{channel_c-delivered, releases-delivered, reports-delivered, pushed, pushed_last}
use proofs.deliveries.DeliverDUnmoved.{IsLastBeat, IsResponded, followed-moving, responded-answer, responded-grant}
use proofs.deliveries.DeliverDUnmoved.{responded-release_ack, bare, IsDelivered, delivered_as, client-of}
use proofs.deliveries.DeliverDUnmoved.{followed-taken, step-taken}
use proofs.simulation.Moved.{IsTakenByClient, client-moves, client-heard, carried-part}
use proofs.simulation.SizedAfter.{served-request}
use proofs.memory.BesideKinds.{IsWaiting, accesses_by, beside-report, beside_block, last_accesses, same_acquiring}
use proofs.memory.BesideRequests.{IsOnce, accesses-answer}
use proofs.rank.RankParts.{serving-use}

-- ---- on channel D

-- the machine afterwards, where this came of it
pub remembered_after : {w : ℕ} (config : Config) (log : Log w) (link : Link) (ch : Channel) (x : Step w)
    → stepped config (Deliver link ch) (system_after config log) ≡ x
    → one_memory_after config ((Deliver link ch, (stepped config (Deliver link ch) (system_after config log)).outcome)
    ∷ log) ≡ performing (accesses_answered x.handed) (moved (Deliver link ch) x.outcome (one_memory_after config log))
unfolding one_memory_after
remembered_after {w} config log link ch x e = cc e

last_d : {w : ℕ} (config : Config) (log : Log w) (link : Link) (h : AbstractState w) {h' : AbstractState w}
    {terms : client.EndConfig} {x : Beat w} {queue : List (Beat w)} {mm : MessageD w}
    (is : IsLastBeat link.0 x queue (system_after config log) mm)
    → IsTakenByClient terms link.0 Channel.D x queue (system_after config log)
    (stepped config (Deliver link Channel.D) (system_after config log)) → abstract_step config (Deliver link Channel.D)
    (system_after config log) h ≡ h' → IsResponded link.0 x queue (system_after config log)
    (one_memory_after config log) is.y.source (finish_at is.y ((system_after config log).clients link.0))
    (acked is.y.opcode is.y.sink) h' → IsDelivered config log link Channel.D h
unfolding performing
last_d {w} config log link h {h'} {x} {queue} is t same responded =
    let sys = system_after config log in
    let e = sys.clients link.0 in
    let last = sym (ap (λ z. completes z (unfinished Channel.D e.past)) is.x_is) ∙ is.last in
    let same_parts = same_answers _ _ t.message _ _ t.answer (ap (λ z. (offer.taken z e).answer) is.x_is ∙ answer-last
    is.y e last) in
    let now = handing (Outcome.Done x is.y.source (finish_at is.y e)) (handed_by link.0 (acked is.y.opcode is.y.sink))
    (with_client link.0 (offer.taken x e).after (with_channel link.0 Channel.D queue sys)) in
    let step_is : stepped config (Deliver link Channel.D) sys ≡ now = cc (t.step_is, same_parts.0, same_parts.1) in
    delivered_as config log link Channel.D h h' same (subst (λ y. ChannelRelation h'.mail h'.state y.after)
    (sym step_is) responded.carried) (subst (λ m. MemoryRelation h'.mail h'.state m)
    (sym (remembered_after config log link Channel.D now step_is ∙ ap (λ l. performing l
    (moved (Deliver link Channel.D) now.outcome (one_memory_after config log))) responded.quiet)) responded.beside)

none_pushed : (w : ℕ) (at : Channel) (b : Bool) → (if b then pushes_of {w = w} None at else None) ≡ None
none_pushed w at true = refl
none_pushed w at false = refl

part_d : {w : ℕ} {config : Config} {log : Log w} (link : Link) (h : AbstractState w) {terms : client.EndConfig}
    {x : Beat w} {queue : List (Beat w)} (mm : MessageD w) (k : ℕ) → IsWidth w
    → SimulationRelation config log h.mail h.request h.state (system_after config log)
    → (system_after config log).channels link.0 Channel.D ≡ x ∷ queue → x ≡ Beat.D (d_beat_of mm k)
    → completes x (unfinished Channel.D ((system_after config log).clients link.0).past) ≡ false
    → IsTakenByClient terms link.0 Channel.D x queue (system_after config log)
    (stepped config (Deliver link Channel.D) (system_after config log)) → abstract_step config (Deliver link Channel.D)
    (system_after config log) h ≡ h → IsDelivered config log link Channel.D h
unfolding performing accesses_answered
part_d {w} {config} {log} link h {terms} {x} {queue} mm k width is first x_is part t same =
    let y = d_beat_of mm k in
    let sys = system_after config log in
    let e = sys.clients link.0 in
    let same_parts = same_answers _ _ t.message None _ t.answer (ap (λ z. (offer.taken z e).answer) x_is ∙ answer-part y
    e (sym (ap (λ z. completes z (unfinished Channel.D e.past)) x_is) ∙ part)) in
    let now = handing (Outcome.Moved x) (handed_by link.0 None)
    (with_client link.0 (offer.taken x e).after (with_channel link.0 Channel.D queue sys)) in
    let step_is : stepped config (Deliver link Channel.D) sys ≡ now = cc (t.step_is, same_parts.0, same_parts.1) in
    delivered_as config log link Channel.D h h same (subst (λ y. ChannelRelation h.mail h.state y.after)
    (sym step_is) (carried-part h.mail h.state width (landed-client link.0 Channel.D x queue None
    (offer.taken x e).after sys refl first (subst (λ z. IsOn Channel.D z) (sym x_is) (on_own_channel
    (Beat.D y))) (client-heard width (is.kept link.0) t)) (λ d at. none_pushed w at (d == link.0)) part is.carried))
    (subst (λ m. MemoryRelation h.mail h.state m)
    (sym (remembered_after config log link Channel.D now step_is)) is.beside)

pub rendered_release_ack : {w : ℕ} (c n : ℕ) (b : Block (List ℕ)) → block_message {w = w} ReleaseAck c n b ≡ Message.D
    (ack_message (b.release_source c))
unfolding block_message
rendered_release_ack c n b = refl

pub delivered-d : {w : ℕ} {config : Config} {log : Log w} (link : Link) (h : AbstractState w) (terms : client.EndConfig)
    (x : Beat w) (queue : List (Beat w)) → IsWidth w
    → SimulationRelation config log h.mail h.request h.state (system_after config log)
    → terms_at config link.0 ≡ Some terms → (system_after config log).channels link.0 Channel.D ≡ x ∷ queue
    → is_moving (stepped config (Deliver link Channel.D) (system_after config log)).outcome ≡ true
    → IsDelivered config log link Channel.D h
delivered-d {w} {config} {log} link h terms x queue width is known beats moving =
    kinds first.kind first.number first.tokens first.own first.next
  where
    sys : System w
    sys = system_after config log

    c : ℕ
    c = link.0

    e : client.Endpoint w
    e = sys.clients c

    first : IsFirst Channel.D c h.mail h.state sys x queue
    first = first-token (is_caching config) Channel.D c h.mail _ sys x queue width is.invariant is.carried beats

    t : IsTakenByClient terms c Channel.D x queue sys (stepped config (Deliver link Channel.D) sys)
    t = client-moves config link Channel.D sys terms x queue known beats refl moving

    heard : HasHeard x e (offer.taken x e).after
    heard = client-heard width (is.kept c) t

    follows : abstract_step config (Deliver link Channel.D) sys h ≡ (if completes x (unfinished Channel.D e.past) then
        packet_taken config (next_tracker sys) c (h.state.link c).d h else h)
    follows = followed-moving config link Channel.D sys h x queue moving beats

    -- a message of channel D, what its last beat makes, and its token
    by_message : (k : Kind) (i : ℕ) (mm : MessageD w) → (h.state.link c).d ≡ packet k i ∷ first.rest
        → message_of_kind k h.mail h.state c i ≡ Message.D mm
        → IsNext x (unfinished Channel.D e.past) (message_of_kind k h.mail h.state c i)
        (map (message_of h.mail h.state c) first.rest) queue
        → ((last : IsLastBeat c x queue sys mm) → IsResponded c x queue sys (one_memory_after config log) last.y.source
        (finish_at last.y e) (acked last.y.opcode last.y.sink) (kind_taken config (next_tracker sys) c k i first.rest
        h)) → IsDelivered config log link Channel.D h
    by_message k i mm tokens message next responds = go (completes x (unfinished Channel.D e.past)) refl
      where
        x_is : x ≡ Beat.D (d_beat_of mm next.k)
        x_is = next.beat_is ∙ ap (λ m. beat_of m next.k) message

        go : (b : Bool) → completes x (unfinished Channel.D e.past) ≡ b → IsDelivered config log link Channel.D h
        go true done =
            let last : IsLastBeat c x queue sys mm = record {
              y = d_beat_of mm next.k;
              x_is = x_is;
              opcode = refl;
              source = refl;
              sink = refl;
              first = beats;
              last = done;
              heard = heard;
            } in
            last_d _ log link h last t
            (follows ∙ ap (λ b. if b then packet_taken config (next_tracker sys) c (h.state.link c).d h else h)
            done ∙ ap (λ l. packet_taken config (next_tracker sys) c l h) tokens) (responds last)
        go false part = part_d link h mm next.k width is beats x_is part t (follows
            ∙ ap (λ b. if b then packet_taken config (next_tracker sys) c (h.state.link c).d h else h) part)

    kinds : (k : Kind) (i : ℕ) → (h.state.link c).d ≡ packet k i ∷ first.rest → is_on Channel.D k ≡ true
        → IsNext x (unfinished Channel.D e.past) (message_of_kind k h.mail h.state c i)
        (map (message_of h.mail h.state c) first.rest) queue → IsDelivered config log link Channel.D h
    kinds Answer i tokens own next =
        let due = answer-due (is_caching config) c i _ h.mail _ is.invariant (is.answered c i) tokens in
        by_message Answer i _ tokens due.answer_is next (λ last. responded-answer h _ due width is tokens last)
    kinds Grant n tokens own next =
        let due = grant-due (is_caching config) c n _ _ is.invariant tokens in
        by_message Grant n (grant_message due.data_too due.k ((h.state.block n).source c) (h.state.block n).tracker
        (h.state.block n).truth) tokens (grant-rendered c n h.state due) next
        (λ last. responded-grant h _ due width is tokens (bare h due is.invariant) last)
    kinds ReleaseAck n tokens own next = by_message _ n _ tokens (rendered_release_ack c n (h.state.block n))
        next (λ last. responded-release_ack h n _ width is tokens (acked-open ((h.state.block n).pair c).letting
        (first-shown is.invariant c ReleaseAck refl tokens)) last)
    kinds k i tokens own next = absurd cc

-- ---- which accesses are answered by what is handed out

grant-quiet : (w : ℕ) (link : Link) (q n : ℕ) (b : Block (List ℕ)) (s : Service) → b.service ≡ s
    → accesses_answered {w = w} ((link, block_message Grant q n b) ∷ []) ≡ []
unfolding accesses_answered block_message
grant-quiet w link q n b s e = grind arith

ack-quiet : (w : ℕ) (link : Link) (c n : ℕ) (b : Block (List ℕ))
    → accesses_answered {w = w} ((link, block_message ReleaseAck c n b) ∷ []) ≡ []
unfolding accesses_answered block_message
ack-quiet w link c n b = refl

last-answered : {w : ℕ} (config : Config) (c n : ℕ) (r : Report) (service : Service) (rest : List Packet)
    (h : AbstractState w) → IsFor service n (h.request n)
    → accesses_answered (pushed_last n service (last_taken (length config.clients.items) config.profile c n r service
    rest h)) ≡ last_accesses service
unfolding accesses_answered
last-answered config c n r Free rest h for = refl
last-answered config c n r (GrantSent q d k) rest h for = refl
last-answered config c n r (GrantTaken q) rest h for = refl
last-answered {w} config c n r (Waits q true source k) rest h for =
    let b = (last_taken (length config.clients.items) config.profile c n r (Waits q true source k) rest h).state.block n
    in
    grant-quiet w (record { 0 = q }) q n b b.service refl
last-answered config c n r (Waits q false source k) rest h for =
    let said = answers (h.request n) (protocol.written r (h.state.block n).truth (h.state.block n).memory) in
    ap (λ m. accesses_answered ((record { 0 = q }, m) ∷ [])) (set_at-same q source said h.mail.answer)
    ∙ accesses-answer q (h.request n) _ ∙ ap (λ i. (q, i) ∷ []) for.1

report-answered : {w : ℕ} (config : Config) (c n : ℕ) (r : Report) (rest : List Packet) (h : AbstractState w)
    → IsFor (h.state.block n).service n (h.request n)
    → accesses_answered (pushed config c ProbeAck n h (ack_taken (length config.clients.items) config.profile c n r rest
    h)) ≡ accesses_by config c ProbeAck n h
unfolding accesses_answered
report-answered {w} config c n r rest h for = grind (arith, last-answered)

-- ---- the access that waits can be performed

waiting-one : {w : ℕ} {config : Config} {log : Log w} (h : AbstractState w) {sys : System w} (n : ℕ) {m : Machine w}
    (service : Service) → IsWidth w → SimulationRelation config log h.mail h.request h.state sys
    → MemoryRelation h.mail h.state m → (h.state.block n).service ≡ service → IsFor service n (h.request n)
    → IsServedWith h.mail service (h.request n) → IsWaiting config n service h m
waiting-one h n Free width is beside e for with = tt
waiting-one h n (GrantSent q d k) width is beside e for with = tt
waiting-one h n (GrantTaken q) width is beside e for with = tt
waiting-one h n (Waits q true source k) width is beside e for with = tt
waiting-one {config} h n (Waits q false source k) width is beside e for with =
    let used = serving-use n q source k is.invariant e in (
      record {
        width = width;
        request = with;
        sent = subst (IsRequest config q source) with (served-request config q source n (h.mail.request q source)
            (h.state.uses q source) used (is.sourced q source));
        access = for.0;
        opened = rw used at (beside.requests q source);
        long = (is.sized _).truth;
      },
      for.2,
    )

-- ---- any beat

by-place : {w : ℕ} (h h' : AbstractState w) (pushes handed : Handed w) {m : Machine w} (b : Bool)
    → handed ≡ (if b then pushes else []) → MemoryRelation h.mail h.state m
    → (MemoryRelation h'.mail h'.state (performing (accesses_answered pushes) m))
    → MemoryRelation (if b then h' else h).mail (if b then h' else h).state (performing (accesses_answered handed) m)
unfolding performing accesses_answered
by-place h h' pushes handed b e f g = grind arith

beside-followed_c : {w : ℕ} {config : Config} {log : Log w} (h : AbstractState w) {sys : System w} (c : ℕ)
    (x : Beat w) (queue : List (Beat w)) {m : Machine w}
    → IsWidth w → SimulationRelation config log h.mail h.request h.state sys → sys.channels c Channel.C ≡ x ∷ queue
    → MemoryRelation h.mail h.state m
    → MemoryRelation (if completes x (unfinished Channel.C (on_link c sys.manager.trace)) then packet_taken config
    (next_tracker sys) c (h.state.link c).c h else h).mail
    (if completes x (unfinished Channel.C (on_link c sys.manager.trace)) then packet_taken config (next_tracker sys) c
    (h.state.link c).c h else h).state
    (performing (accesses_answered (reaction config (record { 0 = c }) x sys.manager).handed) m)
unfolding performing
beside-followed_c {w} {config} h {sys} c x queue {m} width is beats beside =
    let before : List (Beat w) = unfinished Channel.C (on_link c sys.manager.trace) in
    by-first_c (λ i. MemoryRelation (if completes x before then packet_taken config (next_tracker sys) c i
    h else h).mail (if completes x before then packet_taken config (next_tracker sys) c i h else h).state
    (performing (accesses_answered (reaction config (record { 0 = c }) x sys.manager).handed) m)) c h.mail h.state sys
    x queue (first-token (is_caching config) Channel.C c h.mail h.state sys x queue width is.invariant is.carried beats)
    (λ n rest tokens next.
    let d = reports-delivered h c n rest width is beats tokens next in
    by-place h _ _ _ (completes x before) d.handed beside (reported n rest tokens)) (λ n rest tokens next.
    let d = releases-delivered h c n rest width is beats tokens next in
    by-place h _ _ _ (completes x before) d.handed beside (released n rest))
  where
    reported : (n : ℕ) (rest : List Packet) → (h.state.link c).c ≡ packet ProbeAck n ∷ rest
        → MemoryRelation (kind_taken config (next_tracker sys) c ProbeAck n rest h).mail
        (kind_taken config (next_tracker sys) c ProbeAck n rest h).state
        (performing (accesses_answered
        (pushed config c ProbeAck n h (kind_taken config (next_tracker sys) c ProbeAck n rest h))) m)
    reported n rest tokens =
        let b : Block (List ℕ) = h.state.block n in
        let r : Report = report_told (b.pair c).probing in
        subst (λ l. MemoryRelation (kind_taken config (next_tracker sys) c ProbeAck n rest h).mail
        (kind_taken config (next_tracker sys) c ProbeAck n rest h).state (performing l m))
        (sym (report-answered config c n r rest h (is.served.requests n)))
        (beside-report config c n r rest h is.invariant (first-report is.invariant tokens) (settled_all
        (length config.clients.items) (is_caching config) c b.pair (plain-past config) (is.invariant.blocks n).outside)
        (waiting-one h n b.service width is beside refl (is.served.requests n) (is.served_with n)) beside)

    released : (n : ℕ) (rest : List Packet)
        → MemoryRelation (kind_taken config (next_tracker sys) c Release n rest h).mail
        (kind_taken config (next_tracker sys) c Release n rest h).state
        (performing (accesses_answered
        (pushed config c Release n h (kind_taken config (next_tracker sys) c Release n rest h))) m)
    released n rest =
        let b : Block (List ℕ) = h.state.block n in
        let p : Prune = prune_told (b.pair c).letting in
        subst (λ l. MemoryRelation h.mail (release_taken c n p rest h.state) (performing l m))
        (sym (ack-quiet w (record { 0 = c }) c n ((release_taken c n p rest h.state).block n)))
        (beside_block n (let_block c p b) (release_taken c n p rest h.state) (λ i. refl) (λ d i. refl) (λ d i. refl)
        refl (λ d. same_acquiring c (after_release_taken p (b.pair c)) b.pair refl d) (λ d. refl) beside)

-- at most one access is answered then, and it can be performed
report-once : {w : ℕ} {config : Config} {log : Log w} (h : AbstractState w) {sys : System w} (c n : ℕ) {m : Machine w}
    → IsWidth w → SimulationRelation config log h.mail h.request h.state sys → MemoryRelation h.mail h.state m
    → IsOnce (accesses_by config c ProbeAck n h) h m
report-once {config} h c n {m} width is beside = go (some_below (length config.clients.items)
    (λ d. not (d == c) && not (is_unprobed ((h.state.block n).pair d).probing)))
  where
    of_service : (service : Service) → IsWaiting config n service h m → IsOnce (last_accesses service) h m
    of_service (Waits q false source k) waits = inr (q, source, refl, waits.0.opened)
    of_service service waits = inl refl

    go : (b : Bool) → IsOnce (if b then [] else last_accesses (h.state.block n).service) h m
    go true = inl refl
    go false = of_service _ (waiting-one h n (h.state.block n).service width is
        beside refl (is.served.requests n) (is.served_with n))

once-place : {w : ℕ} (h : AbstractState w) (pushes handed : Handed w) (m : Machine w) (b : Bool)
    → handed ≡ (if b then pushes else [])
    → IsOnce (accesses_answered pushes) h m → IsOnce (accesses_answered handed) h m
unfolding accesses_answered
once-place h pushes handed m b e f = grind arith

pub once-followed_c : {w : ℕ} {config : Config} {log : Log w} (h : AbstractState w) {sys : System w} (c : ℕ)
    (x : Beat w) (queue : List (Beat w)) {m : Machine w}
    → IsWidth w → SimulationRelation config log h.mail h.request h.state sys → sys.channels c Channel.C ≡ x ∷ queue
    → MemoryRelation h.mail h.state m
    → IsOnce (accesses_answered (reaction config (record { 0 = c }) x sys.manager).handed) h m
once-followed_c {w} {config} h {sys} c x queue {m} width is beats beside = by-first_c
    (λ i. IsOnce (accesses_answered (reaction config (record { 0 = c }) x sys.manager).handed) h m) c h.mail h.state sys
    x queue (first-token (is_caching config) Channel.C c h.mail h.state sys x queue width is.invariant is.carried beats)
    (λ n rest tokens next.
    let d = reports-delivered h c n rest width is beats tokens next in
    once-place h _ _ m (completes x (unfinished Channel.C (on_link c sys.manager.trace)))
    d.handed (subst (λ l. IsOnce l h m)
    (sym (report-answered config c n (report_told ((h.state.block n).pair c).probing) rest h (is.served.requests n)))
    (report-once h c n width is beside))) (λ n rest tokens next.
    let d = releases-delivered h c n rest width is beats tokens next in
    once-place h _ _ m (completes x (unfinished Channel.C (on_link c sys.manager.trace))) d.handed (inl (ack-quiet w
    (record { 0 = c }) c n ((release_taken c n (prune_told ((h.state.block n).pair c).letting) rest h.state).block n))))

-- the channels and the one memory after any delivery on channel C that finds a beat
pub delivered-c : {w : ℕ} {config : Config} {log : Log w} (c : ℕ) (h : AbstractState w) (x : Beat w)
    (queue : List (Beat w)) → IsWidth w → SimulationRelation config log h.mail h.request h.state
    (system_after config log)
    → (system_after config log).channels c Channel.C ≡ x ∷ queue → IsDelivered config log (record { 0 = c }) Channel.C h
delivered-c {w} {config} {log} c h x queue width is beats =
    let sys : System w = system_after config log in
    let t = client-of config c Channel.C x queue sys beats (is.sound c Channel.C) in
    let d = channel_c-delivered (next_tracker sys) h c x queue width is beats in
    record {
      carried = carried-followed_c h c x queue width is beats;
      beside = rw (followed-taken queue sys h t.0 t.1 beats refl d.up) (subst (λ i. MemoryRelation (if
          completes x (unfinished Channel.C (on_link c sys.manager.trace)) then packet_taken config (next_tracker sys) c
          (h.state.link c).c h else h).mail (if completes x (unfinished Channel.C (on_link c sys.manager.trace)) then
          packet_taken config (next_tracker sys) c (h.state.link c).c h else h).state i) (sym (remembered_after config
          log (record { 0 = c }) Channel.C _ (step-taken config c Channel.C x queue sys t.0 t.1 beats refl d.up)))
          (beside-followed_c h c x queue width is beats is.beside));
    }
