-- The manager takes the last beat of a ProbeAck.
-- The manager's end after any beat that is delivered on channel C or E: it takes the beat, and all that is kept of it
-- is kept as the protocol follows.
use Rattle.std.proofs.Common.{◌≡◌, ℕ, ◌+◌, Bool, true, false, ◌&&◌, ◌==◌, if◌then◌else◌, List, [], ◌∷◌, None, refl, sym}
use Rattle.std.proofs.Common.{◌∙◌, ap, subst, arith, length, eqb-true}
use Rattle.tl_coherence.proofs
use proofs.Imports.{Beat, BeatE, Channel, IsWidth, Message, MessageA, MessageC, beats_of, begun, c_beat_of, unfinished}
use proofs.Imports.{completes, Config, Cap, Grow, Prune, Report, Perm, grow_code, prune_code, prune_left, report_code}
use proofs.Imports.{report_left, broken_in_order, same_perm, on_link, reaction-ack, reaction-part, whole-e, End, Handed}
use proofs.Imports.{reaction, IsInvariant, IsOwnSource, IsWell, Acquire, Grant, GrantAck, Kind, Packet, ProbeAck}
use proofs.Imports.{Release, ReleaseAck, set, Acknowledging, AcquireOpen, AcquirePhase, GrantedOther, Granting}
use proofs.Imports.{NoAcquire, Other, Own, ProbeAnswered, View, is_granted_data, Acquires, Block, Free, GrantSent}
use proofs.Imports.{GrantTaken, Service, Waits, grant_ack_taken, granted_block, let_block, packet, release_taken}
use proofs.Imports.{report_taken, view, is_wanting, AbstractState, ack_taken, acquire_opcode, answers, granted_after}
use proofs.Imports.{last_taken, packet_taken, with_state, some_below, prune_told, report_told, block_message}
use proofs.Imports.{IsAcquireOf, SimulationRelation, is_caching, IsFor, Log, System}
use Rattle.tl_coherence.specs.protocol.Protocol as protocol
use Rattle.tl_manager.specs.code.Kept as manager
use proofs.manager.{RequestsTaken.invariant-taken, Accounts.at_manager-matched, ManagedGrants.IsAcked}
use proofs.manager.{Admitted.head_all, Reporting.report-about, Reporting.release-about}
use proofs.manager.ManagerSettles.{grant-rendered, IsSettling, IsWanted, ended-left, conceded-left, reaction-ended}
use proofs.manager.ManagerSettles.{reaction-conceded, gift_after}
use proofs.manager.ManagerTakes.{IsTakenUp, ack-order, by-first_c, by-first_e, release-order, report-order, takes}
use proofs.manager.Memories.{IsManagerOf, left, IsEnd, others_probed, reported-left, reaction-reported}
use proofs.manager.Memories.{report_part-left, released-left, acked-left, reaction-released}
use proofs.protocol.BothParts.{acquires_of-is, not-calm, first-grant_ack, first-release, first-report}
use proofs.memory.BesideTaken.{same_message}
use proofs.queues.{Facts.answered_other, Facts.is_other, Facts.own_wants, FirstToken.first-token, Carried.IsNext}
use proofs.queues.Tokens.{same_number, set-same, set_at-same}

-- ---- the Acquire that is granted

wanted_fields : {w : ℕ} (q n : ℕ) (whole : Bool) (g : Grow) (b : Block (List ℕ)) (v : MessageA w)
    → (b.pair q).acquiring ≡ AcquireOpen whole g
    → block_message Acquire q n b ≡ Message.A v → (v.opcode ≡ acquire_opcode whole) × (v.param ≡ grow_code g)
unfolding block_message
wanted_fields q n true g b v wants e =
    let same = same_message _ v (rw wants at e) in
    (ap (λ m. m.opcode) (sym same), ap (λ m. m.param) (sym same))
wanted_fields q n false g b v wants e =
    let same = same_message _ v (rw wants at e) in
    (ap (λ m. m.opcode) (sym same), ap (λ m. m.param) (sym same))

-- what a client sees that has answered a Probe
pub seen_apart : (q source : ℕ) (k : Cap) (c : ℕ) → is_other (view (Waits q true source k) c) ≡ true → c ≡ q → ⊥
seen_apart q source k c e same =
    let go : (b : Bool) → b ≡ true → is_other (if true && b then Own else Other k) ≡ true → ⊥ =
    elim [ true ↦ λ f g. cc | false ↦ λ f g. cc ] in
    go (c == q) (rw (same, same_number q) refl) e

-- ---- what is handed out

-- where nobody else's ProbeAck is missing: `h'` is the protocol then
abbrev pub pushed_last : {w : ℕ} → ℕ → Service → AbstractState w → Handed w
pushed_last n (Waits q true source k) h' = (record { 0 = q }, block_message Grant q n (h'.state.block n)) ∷ []
pushed_last n (Waits q false source k) h' = (record { 0 = q }, h'.mail.answer q source) ∷ []
pushed_last n _ h' = []

-- at the last beat of the message of client c and block n, before which the protocol was `h`
abbrev pub pushed : {w : ℕ} → Config → ℕ → Kind → ℕ → AbstractState w → AbstractState w → Handed w
pushed config c ProbeAck n h h' = if some_below (length config.clients.items) (others_probed c (h.state.block n).pair)
    then [] else pushed_last n (h.state.block n).service h'
pushed config c Release n h h' = (record { 0 = c }, block_message ReleaseAck c n (h'.state.block n)) ∷ []
pushed config c _ n h h' = []

-- what is kept of the manager's end after this beat, and what it hands out
abbrev pub Does : {w : ℕ} → Config → ℕ → AbstractState w → AbstractState w → Kind → ℕ → End w → Beat w → Type 0
Does config c h h' kind n e x = IsManagerOf config h' (left c x (reaction config (record { 0 = c }) x e) e)
    × ((reaction config (record { 0 = c }) x e).handed ≡ pushed config c kind n h h')

-- ---- a ProbeAck

-- where its last beat is taken
pub reported-last : {w : ℕ} {config : Config} {log : Log w} (h : AbstractState w) {sys : System w} {c n k : ℕ}
    (rest : List Packet) {m : MessageC w} → SimulationRelation config log h.mail h.request h.state sys
    → (h.state.link c).c ≡ packet ProbeAck n ∷ rest → ((h.state.block n).pair c).probing ≡ ProbeAnswered
    (report_told ((h.state.block n).pair c).probing) → IsTakenUp config c Channel.C (Beat.C (c_beat_of m k)) sys.manager
    → IsEnd true c n (report_code (report_told ((h.state.block n).pair c).probing))
    (same_perm (report_left (report_told ((h.state.block n).pair c).probing)) Perm.Trunk) (h.state.block n).truth k m
    sys.manager → Does config c h (ack_taken (length config.clients.items) config.profile c n
    (report_told ((h.state.block n).pair c).probing) rest h) ProbeAck n sys.manager (Beat.C (c_beat_of m k))
reported-last {w} {config} {log} h {sys} {c} {n} {k} rest {m} is tokens answered up end = others (some_below
    (length config.clients.items) (others_probed c b.pair)) refl (invariant-taken h c ProbeAck n rest is tokens tt)
  where
    b : Block (List ℕ)
    b = h.state.block n

    r : Report
    r = report_told (b.pair c).probing

    e : End w
    e = sys.manager

    x : Beat w
    x = Beat.C (c_beat_of m k)

    -- what is kept, and what is handed out
    Result : AbstractState w → Handed w → Type 0
    Result h' pushes = IsManagerOf config h' (left c x (reaction config (record { 0 = c }) x e) e)
        × ((reaction config (record { 0 = c }) x e).handed ≡ pushes)

    seen : is_other (view b.service c) ≡ true
    seen = answered_other r _ _ ((is.invariant.blocks n).phases c) answered

    unseen : (x : Bool) (u v : View) → is_other u ≡ false → is_other v ≡ false → is_other (if x then u else v) ≡ true
        → ⊥
    unseen x u v e f g = grind arith

    last : some_below (length config.clients.items) (others_probed c b.pair) ≡ false → (service : Service)
        → b.service ≡ service → IsInvariant (is_caching config) (last_taken (length config.clients.items) config.profile
        c n r service rest h).state
        → Result (last_taken (length config.clients.items) config.profile c n r service rest h)
        (pushed_last n service (last_taken (length config.clients.items) config.profile c n r service rest h))
    last alone Free f inv = absurd (let other : false ≡ true = rw f at seen in cc)
    last alone (GrantSent q d low) f inv =
        absurd (unseen (c == q) (Granting d low) GrantedOther refl refl (rw f at seen))
    last alone (GrantTaken q) f inv = absurd (unseen (c == q) Acknowledging GrantedOther refl refl (rw f at seen))
    last alone (Waits q false source low) f inv =
        let at : IsSettling config c q n source k false low r m h e = record {
          up = up;
          end = end;
          alone = alone;
          waits = f;
          is = at_manager-matched is;
        } in (
          ended-left rest at,
          ap (λ d. d.handed) (reaction-ended at) ∙ rw
              (set_at-same q source (answers (h.request n) (protocol.written r b.truth b.memory)) h.mail.answer) refl,
        )
    last alone (Waits q true source low) f inv = go (b.pair q).acquiring refl inv
      where
        own_source : source ≡ b.source q
        own_source = let here : IsOwnSource (Waits q true source low) b.source =
            rw f at ((is.invariant.blocks n).own_source) in here

        wants : is_wanting (b.pair q).acquiring ≡ true
        wants = not-calm _
            (own_wants (b.pair q) (view b.service q) ((is.invariant.blocks n).phases q) (rw (f, same_number q) refl))

        used : h.state.uses q source ≡ Acquires n
        used = acquires_of-is n _
            (is.invariant.named.acquires q source n ∙ rw (wants, ← own_source, same_number source) refl)

        go : (y : AcquirePhase) → (b.pair q).acquiring ≡ y
            → IsInvariant (is_caching config) (granted_after (length config.clients.items) config.profile c q n r y rest
            h).state → Result (granted_after (length config.clients.items) config.profile c q n r y rest h)
            ((
              record { 0 = q },
              block_message Grant q n
                  ((granted_after (length config.clients.items) config.profile c q n r y rest h).state.block n),
            ) ∷ [])
        go NoAcquire g after = absurd (let none : false ≡ true = rw g at wants in cc)
        go (AcquireOpen whole grow) g after =
            let fields = wanted_fields q n whole grow b (h.request n) g
            (subst (λ v. IsAcquireOf n b v (h.request n)) f (is.acquired n)) in
            let at : IsSettling config c q n source k true low r m h e =
            record { up = up; end = end; alone = alone; waits = f; is = at_manager-matched is } in
            let wanted : IsWanted c q n source whole grow h = record {
              apart = seen_apart q source low c (rw f at seen);
              used = used;
              opcode_is = fields.0;
              param_is = fields.1;
            } in
            let new : Block (List ℕ) = granted_block c q r (is_granted_data whole grow (b.pair q).recorded)
            (gift_after config c n r whole grow h) b in
            let here : set n new h.state.block n ≡ new = set-same n new h.state.block in
            let fact = ap (λ d. d.handed) (reaction-conceded at wanted) ∙ ap (λ (i : Message w).
            (record { 0 = q }, i) ∷ []) (grant-rendered config c q n source r whole grow h own_source
            (subst (IsWell (is_caching config)) here (after.blocks n)) ∙ ap (block_message Grant q n) (sym here)) in
            (conceded-left rest at wanted, fact)

    others : (y : Bool) → some_below (length config.clients.items) (others_probed c b.pair) ≡ y
        → IsInvariant (is_caching config) (if y then with_state (report_taken c n r rest h.state) h else last_taken
        (length config.clients.items) config.profile c n r b.service rest h).state
        → Result (if y then with_state (report_taken c n r rest h.state) h else last_taken (length config.clients.items)
        config.profile c n r b.service rest h) (if some_below (length config.clients.items) (others_probed c b.pair)
        then [] else pushed_last n b.service (if y then with_state (report_taken c n r rest h.state) h else last_taken
        (length config.clients.items) config.profile c n r b.service rest h))
    others true f inv = let fact = ap (λ d. d.handed)
        (reaction-reported config r h end f (at_manager-matched is).traced) ∙ rw f refl in
        (reported-left r rest h up end f (at_manager-matched is), fact)
    others false f inv =
        let done = last f b.service refl inv in
        (done.0, done.1 ∙ rw f refl)

-- ---- any beat of a message of channel C

-- what is handed out at the last beat of the message whose token is first
abbrev pub pushed_by : {w : ℕ} → Config → ℕ → List Packet → AbstractState w → AbstractState w → Handed w
pushed_by config c [] h h' = []
pushed_by config c (x ∷ rest) h h' = pushed config c x.kind x.number h h'

-- The beat is taken, what is kept follows, and this is handed out: `h'` is the protocol where the beat is the last one
-- of its message, and `pushes` is what is handed out then.
pub record Delivered {w : ℕ} (config : Config) (c : ℕ) (ch : Channel) (rest : List (Beat w)) (h h' : AbstractState w)
    (pushes : Handed w) (e : End w) (x : Beat w) : Type 0 where
  pub up : IsTakenUp config c ch x e
  pub manager : IsManagerOf config (if completes x rest then h' else h)
      (left c x (reaction config (record { 0 = c }) x e) e)
  pub handed : (reaction config (record { 0 = c }) x e).handed ≡ (if completes x rest then pushes else [])

delivered-c : {w : ℕ} (config : Config) (h h' : AbstractState w) (kind : Kind) (c n : ℕ) {x : Beat w} (m : MessageC w)
    {ms : List (Message w)} {queue : List (Beat w)} (e : End w) → IsWidth w → IsManagerOf config h e
    → manager.IsSound config (record { 0 = c }, x) → IsNext x (unfinished Channel.C (on_link c e.trace)) (Message.C m)
    ms queue → ((k : ℕ) → unfinished Channel.C (on_link c e.trace) ≡ begun (Message.C m) k
    → broken_in_order config.profile (Beat.C (c_beat_of m k)) (on_link c e.trace) ≡ None)
    → ((k : ℕ) → k + 1 ≡ beats_of (Message.C m) → unfinished Channel.C (on_link c e.trace) ≡ begun (Message.C m) k
    → IsTakenUp config c Channel.C (Beat.C (c_beat_of m k)) e → Does config c h h' kind n e (Beat.C (c_beat_of m k)))
    → Delivered config c Channel.C (unfinished Channel.C (on_link c e.trace)) h h' (pushed config c kind n h h') e x
delivered-c {w} config h h' kind c n m e width is sound next order last =
    rw next.beat_is (go (next.k + 1 == beats_of (Message.C m)) refl)
  where
    rest : List (Beat w)
    rest = unfinished Channel.C (on_link c e.trace)

    y : Beat w
    y = Beat.C (c_beat_of m next.k)

    up : IsTakenUp config c Channel.C y e
    up = takes c Channel.C y e (rw next.beat_is at sound) refl refl is.all_live (order next.k next.rest_is) refl

    completes_it : completes y rest ≡ (next.k + 1 == beats_of (Message.C m))
    completes_it = ap (λ i. completes i rest) (sym next.beat_is) ∙ next.completes_is

    go : (b : Bool) → (next.k + 1 == beats_of (Message.C m)) ≡ b → Delivered config c Channel.C rest h h'
        (pushed config c kind n h h') e y
    go true f =
        let ended : completes y rest ≡ true = completes_it ∙ f in
        let done = last next.k (eqb-true (next.k + 1) (beats_of (Message.C m)) f) next.rest_is up in
        record {
          up = up;
          manager = rw ended done.0;
          handed = done.1 ∙ sym (ap (λ b. if b then (pushed config c kind n h h') else []) ended);
        }
    go false f =
        let part : completes y rest ≡ false = completes_it ∙ f in
        record {
          up = up;
          manager = rw part (report_part-left (c_beat_of m next.k) h width up part is);
          handed = cc (reaction-part config (record { 0 = c }) y e part, part);
        }

pub reports-delivered : {w : ℕ} {config : Config} {log : Log w} (h : AbstractState w) {sys : System w} (c n : ℕ)
    (rest : List Packet) {x : Beat w} {queue : List (Beat w)} {ms : List (Message w)} → IsWidth w
    → SimulationRelation config log h.mail h.request h.state sys → sys.channels c Channel.C ≡ x ∷ queue
    → (h.state.link c).c ≡ packet ProbeAck n ∷ rest → IsNext x (unfinished Channel.C (on_link c sys.manager.trace))
    (block_message ProbeAck c n (h.state.block n)) ms queue
    → Delivered config c Channel.C (unfinished Channel.C (on_link c sys.manager.trace)) h
    (ack_taken (length config.clients.items) config.profile c n (report_told ((h.state.block n).pair c).probing) rest h)
    (pushed config c ProbeAck n h (ack_taken (length config.clients.items) config.profile c n
    (report_told ((h.state.block n).pair c).probing) rest h)) sys.manager x
unfolding block_message
reports-delivered {config} h {sys} c n rest {x} {queue} {ms} width is beats tokens next =
    let r : Report = report_told ((h.state.block n).pair c).probing in
    let about = report-about r n _ width (is.sized n).truth in
    let answered : ((h.state.block n).pair c).probing ≡ ProbeAnswered r = first-report is.invariant tokens in
    delivered-c config h _ ProbeAck c n about.0 _ width (at_manager-matched is) (head_all
    (λ y. manager.IsSound config (record { 0 = c }, y)) x queue (sys.channels c Channel.C) beats (is.sound c Channel.C))
    (subst (λ i. IsNext x (unfinished Channel.C (on_link c sys.manager.trace)) i ms queue) about.1 next)
    (λ k before. report-order c k r is.invariant is.managed is.served is.manager_kept answered about.2 before)
    (λ k all before up. reported-last h rest is tokens answered up
    (record { width = width; about = about.2; rest = before; last = all; long = (is.sized n).truth }))

-- ---- a Release

pub releases-delivered : {w : ℕ} {config : Config} {log : Log w} (h : AbstractState w) {sys : System w} (c n : ℕ)
    (rest : List Packet) {x : Beat w} {queue : List (Beat w)} {ms : List (Message w)} → IsWidth w
    → SimulationRelation config log h.mail h.request h.state sys → sys.channels c Channel.C ≡ x ∷ queue
    → (h.state.link c).c ≡ packet Release n ∷ rest → IsNext x (unfinished Channel.C (on_link c sys.manager.trace))
    (block_message Release c n (h.state.block n)) ms queue
    → Delivered config c Channel.C (unfinished Channel.C (on_link c sys.manager.trace)) h
    (with_state (release_taken c n (prune_told ((h.state.block n).pair c).letting) rest h.state) h)
    (pushed config c Release n h
    (with_state (release_taken c n (prune_told ((h.state.block n).pair c).letting) rest h.state) h)) sys.manager x
unfolding block_message
releases-delivered {w} {config} {log} h {sys} c n rest {x} {queue} {ms} width is beats tokens next =
    let r : Prune = prune_told ((h.state.block n).pair c).letting in
    let about = release-about r ((h.state.block n).release_source c) n _ width (is.sized n).truth in
    let m : MessageC w = about.0 in
    delivered-c config h _ Release c n m _ width (at_manager-matched is) (head_all
    (λ y. manager.IsSound config (record { 0 = c }, y)) x queue (sys.channels c Channel.C) beats (is.sound c Channel.C))
    (subst (λ i. IsNext x (unfinished Channel.C (on_link c sys.manager.trace)) i ms queue) about.1 next)
    (λ k before. release-order c k r rest is.invariant is.managed is.manager_kept tokens
    (first-release is.invariant tokens) about.2 before) (λ k all before up.
    let end : IsEnd false c n (prune_code r) (same_perm (prune_left r) Perm.Trunk) (h.state.block n).truth k m
    sys.manager =
    record { width = width; about = about.2; rest = before; last = all; long = (is.sized n).truth } in (
      released-left r rest h up end (at_manager-matched is),
      cc (reaction-released config r h end, about.3, set-same n (let_block c r (h.state.block n)) h.state.block),
    ))

-- ---- a GrantAck

acks-delivered : {w : ℕ} {config : Config} {log : Log w} (h : AbstractState w) {sys : System w} (c n : ℕ)
    (rest : List Packet) {x : Beat w} {queue : List (Beat w)} {ms : List (Message w)} → IsWidth w
    → SimulationRelation config log h.mail h.request h.state sys → sys.channels c Channel.E ≡ x ∷ queue
    → (h.state.link c).e ≡ packet GrantAck n ∷ rest → IsNext x (unfinished Channel.E (on_link c sys.manager.trace))
    (block_message GrantAck c n (h.state.block n)) ms queue
    → Delivered config c Channel.E (unfinished Channel.E (on_link c sys.manager.trace)) h
    (with_state (grant_ack_taken c n rest h.state) h) [] sys.manager x
unfolding block_message
acks-delivered {w} {config} {log} h {sys} c n rest {x} {queue} width is beats tokens next =
    let order = ack-order c n y is.invariant.named is.served is.manager_kept taken_is refl in
    let before : List (Beat w) = unfinished Channel.E (on_link c sys.manager.trace) in
    let after : AbstractState w = with_state (grant_ack_taken c n rest h.state) h in
    let up = takes c Channel.E (Beat.E y) sys.manager (subst (λ i. manager.IsSound config (record { 0 = c }, i))
    next.beat_is (head_all (λ i. manager.IsSound config (record { 0 = c }, i)) x queue (sys.channels c Channel.E)
    beats (is.sound c Channel.E))) refl refl is.all_live order.1 refl in
    let whole : completes {w = w} (Beat.E y) before ≡ true = (whole-e {w = w} y (on_link c sys.manager.trace)).1 in
    subst (Delivered config c Channel.E before h after [] sys.manager) (sym next.beat_is) (record {
      up = up;
      manager = rw whole (acked-left rest h width up acks (at_manager-matched is));
      handed = cc (reaction-ack config (record { 0 = c }) y sys.manager);
    })
  where
    y : BeatE
    y = record { sink = (h.state.block n).tracker }

    taken_is : (h.state.block n).service ≡ GrantTaken c
    taken_is = first-grant_ack is.invariant tokens

    acks : IsAcked c n y h.request h.state sys.manager.trace
    acks = record {
      taken = taken_is;
      sink_is = refl;
      acquires = let for : IsFor (GrantTaken c) n (h.request n) = rw taken_is at (is.served.requests n) in for.0;
      named = is.invariant.named;
      apart = is.manager_kept.blocks_apart;
    }

-- ---- channels C and E

-- the protocol where the last beat of the first message of a channel is taken
pub channel_c-delivered : {w : ℕ} {config : Config} {log : Log w} (tracker : ℕ) (h : AbstractState w) {sys : System w}
    (c : ℕ) (x : Beat w) (queue : List (Beat w))
    → IsWidth w → SimulationRelation config log h.mail h.request h.state sys → sys.channels c Channel.C ≡ x ∷ queue
    → Delivered config c Channel.C (unfinished Channel.C (on_link c sys.manager.trace)) h
    (packet_taken config tracker c (h.state.link c).c h)
    (pushed_by config c (h.state.link c).c h (packet_taken config tracker c (h.state.link c).c h)) sys.manager x
channel_c-delivered {config} tracker h {sys} c x queue width is beats =
    by-first_c (λ i. Delivered config c Channel.C (unfinished Channel.C (on_link c sys.manager.trace)) h
    (packet_taken config tracker c i h) (pushed_by config c i h (packet_taken config tracker c i h)) sys.manager x) c
    h.mail h.state sys x queue (first-token (is_caching config) Channel.C c h.mail h.state sys x queue width
    is.invariant is.carried beats) (λ n rest tokens next. reports-delivered h c n rest width is beats tokens next)
    (λ n rest tokens next. releases-delivered h c n rest width is beats tokens next)

pub channel_e-delivered : {w : ℕ} {config : Config} {log : Log w} (tracker : ℕ) (h : AbstractState w) {sys : System w}
    (c : ℕ) (x : Beat w) (queue : List (Beat w))
    → IsWidth w → SimulationRelation config log h.mail h.request h.state sys → sys.channels c Channel.E ≡ x ∷ queue
    → Delivered config c Channel.E (unfinished Channel.E (on_link c sys.manager.trace)) h
    (packet_taken config tracker c (h.state.link c).e h)
    (pushed_by config c (h.state.link c).e h (packet_taken config tracker c (h.state.link c).e h)) sys.manager x
channel_e-delivered {config} tracker h {sys} c x queue width is beats =
    by-first_e (λ i. Delivered config c Channel.E (unfinished Channel.E (on_link c sys.manager.trace)) h
    (packet_taken config tracker c i h) (pushed_by config c i h (packet_taken config tracker c i h)) sys.manager x)
    (first-token (is_caching config) Channel.E c h.mail h.state sys x queue width is.invariant is.carried beats)
    (λ n rest tokens next. acks-delivered h c n rest width is beats tokens next)
