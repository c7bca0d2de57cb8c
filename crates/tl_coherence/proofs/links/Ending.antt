-- A delivery with which an operation ends: it brings the last beat of the response that is first on channel D.
-- Channels lose nothing and keep order: for histories of the two ends of each link, and what is on its channels.
use Rattle.std.proofs.Common.{◌≡◌, ℕ, zero, suc, Bool, true, false, not, ◌&&◌, ◌==◌, if◌then◌else◌, List, [], ◌∷◌, ◌++◌}
use Rattle.std.proofs.Common.{Option, Some, None, Ok, refl, sym, ◌∙◌, ap, subst, arith, inl, inr, append_assoc, ne_eqb}
use Rattle.std.proofs.Common.{reverse}
use Rattle.tl_coherence.proofs
use proofs.Imports.{Profile, begins, broken_in_order, channel_of, grown, is_empty}
use proofs.links.Acknowledged.{AreSunk, IsNew, sunk-said, sunk-heard, sunk-taken}
use proofs.Imports.{cases_eq, reverse-append, Beat, BeatD, Link, Channel, IsWidth, Message, MessageD, beat_of, beats_of}
use proofs.Imports.{begun, burst_of, d_beat_of, History, unfinished, completes, Config, beats_from, Finish, Verdict}
use proofs.Imports.{EndConfig, Endpoint, is_from_client, Deliver, Outcome, Answer, Grant, Kind, Packet, ReleaseAck}
use proofs.Imports.{is_on, packet, AbstractState, abstract_step, kind_taken, packet_taken, message_of_kind}
use proofs.Imports.{block_message, SimulationRelation, is_caching, is_moving, Log, system_after, is_to_client}
use proofs.Imports.{outcome_of, stepped, System, channel_of_message, same_channel, terms_at}
use Rattle.tl_burst.specs.statement.Messages.{carried_on, on}
use Rattle.tl_client.specs.statement.Offer as offer
use proofs.queues.{Beats.reverse-beats_from, Steps.IsOn, Steps.on_own_channel, Steps.same_channel-refl}
use proofs.queues.{Steps.stepped-empty, Tokens.same_number}
use proofs.queues.{Channels.same_channel-is, FirstToken.IsFirst, FirstToken.first-token}
use proofs.deliveries.{ManagersAfter.on_message, DeliverDUnmoved.followed-moving}
use proofs.deliveries.Matching.{not_moving, stepped-nobody}
use proofs.protocol.HeadOfD.{answer-due, grant-due, grant-rendered, ack_message}
use proofs.client.ProbeDelivered.{delivered-b}
use proofs.client.DeliverD.{finish_at, acked, answer-last, answer-part, same_answers}
use proofs.manager.RequestsTaken.{next_tracker}
use proofs.simulation.Moved.{IsTakenByClient, client-moves, manager-moves}

-- the operation with this source ends so
pub record IsEnding {w : ℕ} (config : Config) (log : Log w) (link : Link) (ch : Channel) (h : AbstractState w)
    (x : Beat w) (source : ℕ) (f : Finish) : Type 0 where
  pub on_d : ch ≡ Channel.D
  pub queue : List (Beat w)
  pub first : IsFirst Channel.D link.0 h.mail h.state (system_after config log) x queue
  pub response : MessageD w
  pub response_is : message_of_kind first.kind h.mail h.state link.0 first.number ≡ Message.D response
  pub last : completes x (unfinished Channel.D ((system_after config log).clients link.0).past) ≡ true
  pub beat_is : x ≡ Beat.D (d_beat_of response first.next.k)
  pub source_is : source ≡ response.source
  pub finish_is : f ≡ finish_at (d_beat_of response first.next.k) ((system_after config log).clients link.0)
  pub follows : abstract_step config (Deliver link Channel.D) (system_after config log) h ≡ kind_taken config
      (next_tracker (system_after config log)) link.0 first.kind first.number first.rest h

done_moved : {w : ℕ} (x y : Beat w) (i : ℕ) (f : Finish) → Outcome.Done x i f ≡ Outcome.Moved y → ⊥
done_moved x y i f e = absurd cc

-- the response that is first on channel D
response_of : {w : ℕ} {config : Config} {log : Log w} (h : AbstractState w) {sys : System w} (c : ℕ) (k : Kind) (i : ℕ)
    (rest : List Packet) → SimulationRelation config log h.mail h.request h.state sys
    → (h.state.link c).d ≡ packet k i ∷ rest → is_on Channel.D k ≡ true
    → (m : MessageD w) × (message_of_kind k h.mail h.state c i ≡ Message.D m)
unfolding block_message
response_of {config} h c Answer i rest is tokens own = let due =
    answer-due (is_caching config) c i rest h.mail _ is.invariant (is.answered c i) tokens in
    (due.answer, due.answer_is)
response_of {config} h c Grant n rest is tokens own = let due =
    grant-due (is_caching config) c n rest _ is.invariant tokens in (_, grant-rendered c n h.state due)
response_of h c ReleaseAck n rest is tokens own = (ack_message ((h.state.block n).release_source c), refl)
response_of h c k i rest is tokens own = absurd cc

ending_d : {w : ℕ} {config : Config} {log : Log w} (link : Link) (h : AbstractState w) (terms : EndConfig) (y : Beat w)
    (queue : List (Beat w)) (x : Beat w) (source : ℕ)
    (f : Finish) → IsWidth w → SimulationRelation config log h.mail h.request h.state (system_after config log)
    → terms_at config link.0 ≡ Some terms → (system_after config log).channels link.0 Channel.D ≡ y ∷ queue
    → (stepped config (Deliver link Channel.D) (system_after config log)).outcome ≡ Outcome.Done x source f
    → IsEnding config log link Channel.D h x source f
ending_d {w} {config} {log} link h terms y queue x source f width is known beats done =
    go (completes y (unfinished Channel.D e.past)) refl
  where
    sys : System w
    sys = system_after config log

    e : Endpoint w
    e = sys.clients link.0

    first : IsFirst Channel.D link.0 h.mail h.state sys y queue
    first = first-token (is_caching config) Channel.D link.0 h.mail _ sys y queue width is.invariant is.carried beats

    t : IsTakenByClient terms link.0 Channel.D y queue sys (stepped config (Deliver link Channel.D) sys)
    t = client-moves config link Channel.D sys terms y queue known beats refl (ap is_moving done)

    m : (m : MessageD w) × (message_of_kind first.kind h.mail h.state link.0 first.number ≡ Message.D m)
    m = response_of h link.0 first.kind first.number _ is first.tokens first.own

    z : BeatD w
    z = d_beat_of m.0 first.next.k

    y_is : y ≡ Beat.D z
    y_is = first.next.beat_is ∙ ap (λ i. beat_of i first.next.k) m.1

    outcome_is : (v : Verdict) (n : Option (Message w)) → (offer.taken (Beat.D z) e).answer ≡ Ok (v, n)
        → Outcome.Done x source f ≡ outcome_of y v
    outcome_is v n answer = sym done ∙ ap (λ s. s.outcome) t.step_is ∙ ap (outcome_of y) (same_answers t.verdict_is v
        t.message n (offer.taken y e).answer t.answer (ap (λ i. (offer.taken i e).answer) y_is ∙ answer)).0

    go : (b : Bool) → completes y (unfinished Channel.D e.past) ≡ b → IsEnding config log link Channel.D h x source f
    go false part = absurd (done_moved x y source f (outcome_is Verdict.Taken None (answer-part z e (cc (y_is, part)))))
    go true last =
        let same : x ≡ y → source ≡ z.source → f ≡ finish_at z e → completes y (unfinished Channel.D e.past)
        ≡ true → IsEnding config log link Channel.D h x source f = λ x_is i j whole.
        subst (λ b. IsEnding config log link Channel.D h b source f) (sym x_is) (record {
          on_d = refl;
          queue = queue;
          first = first;
          response = m.0;
          response_is = m.1;
          last = whole;
          beat_is = y_is;
          source_is = i;
          finish_is = j;
          follows = followed-moving config link Channel.D sys h y queue (ap is_moving done) beats
              ∙ ap (λ b. if b then packet_taken config (next_tracker sys) link.0 (h.state.link link.0).d h else h) whole
              ∙ ap (λ l. packet_taken config (next_tracker sys) link.0 l h) first.tokens;
        }) in
        let ended : completes (Beat.D z) (unfinished Channel.D e.past) ≡ true = cc (y_is, last) in
        let o = outcome_is (Verdict.Done z.source (finish_at z e)) (acked z.opcode z.sink) (answer-last z e ended) in
        let x_is : x ≡ y = cc in
        same x_is (cc) (cc) last

pub ending : {w : ℕ} (config : Config) (log : Log w) (link : Link) (ch : Channel) (h : AbstractState w) (x : Beat w)
    (source : ℕ) (f : Finish) → IsWidth w → SimulationRelation config log h.mail h.request h.state
    (system_after config log) → (stepped config (Deliver link ch) (system_after config log)).outcome
    ≡ Outcome.Done x source f → IsEnding config log link ch h x source f
ending {w} config log link ch h x source f width is done = found (terms_at config link.0) refl
  where
    sys : System w
    sys = system_after config log

    up : (at : Channel) (terms : EndConfig) (y : Beat w) (queue : List (Beat w)) → terms_at config link.0 ≡ Some terms
        → sys.channels link.0 at ≡ y ∷ queue
        → is_to_client at ≡ false → (stepped config (Deliver link at) sys).outcome ≡ Outcome.Done x source f → ⊥
    up at terms y queue known beats down o =
        let t = manager-moves config link at sys terms y queue known beats down (ap is_moving o) in
        done_moved x y source f (sym o ∙ ap (λ s. s.outcome) t.step_is)

    probe : (terms : EndConfig) (y : Beat w) (queue : List (Beat w)) → terms_at config link.0 ≡ Some terms
        → sys.channels link.0 Channel.B ≡ y ∷ queue
        → (stepped config (Deliver link Channel.B) sys).outcome ≡ Outcome.Done x source f → ⊥
    probe terms y queue known beats o =
        let p = delivered-b terms (next_tracker sys) link.0 y queue width is known beats in
        let t = client-moves config link Channel.B sys terms y queue known beats refl (ap is_moving o) in
        done_moved x y source f (sym o ∙ ap (λ s. s.outcome) t.step_is ∙ ap (outcome_of y)
        (same_answers t.verdict_is Verdict.Taken t.message _ (offer.taken y (sys.clients link.0)).answer t.answer
        (ap (λ i. (offer.taken i (sys.clients link.0)).answer) p.1.beat_is)).0)

    moves : (at : Channel) (terms : EndConfig) (beats : List (Beat w)) → terms_at config link.0 ≡ Some terms
        → sys.channels link.0 at ≡ beats → (stepped config (Deliver link at) sys).outcome ≡ Outcome.Done x source f
        → IsEnding config log link at h x source f
    moves at terms [] known none o =
        absurd (not_moving _ _ (stepped-empty config link at sys terms known none) (ap is_moving o) refl)
    moves Channel.A terms (y ∷ queue) known beats o = absurd (up Channel.A terms y queue known beats refl o)
    moves Channel.B terms (y ∷ queue) known beats o = absurd (probe terms y queue known beats o)
    moves Channel.C terms (y ∷ queue) known beats o = absurd (up Channel.C terms y queue known beats refl o)
    moves Channel.D terms (y ∷ queue) known beats o = ending_d link h terms y queue x source f width is known beats o
    moves Channel.E terms (y ∷ queue) known beats o = absurd (up Channel.E terms y queue known beats refl o)

    found : (o : Option EndConfig) → terms_at config link.0 ≡ o → IsEnding config log link ch h x source f
    found None none = absurd (not_moving _ _ (stepped-nobody config (Deliver link ch) sys none) (ap is_moving done)
        refl)
    found (Some terms) known = moves ch terms (sys.channels link.0 ch) known refl done

-- ---- lists

-- what was sent is what was taken, and then what is under way
abbrev IsInOrder : {X : Type 0} → List X → List X → List X → Type 0
IsInOrder sent queue taken = sent ≡ reverse queue ++ taken

push_order : {w : ℕ} (b : Bool) (m : Message w) (sent queue own taken : List (Beat w)) → (b ≡ true → own ≡ queue)
    → IsInOrder sent queue taken
    → IsInOrder (if b then burst_of m ++ sent else sent) (if b then own ++ beats_from m 0 (beats_of m) else queue) taken
push_order true m sent queue own taken same is = let fact = reverse-append queue (beats_from m 0 (beats_of m)) in
    cc (is, append_assoc (burst_of m) (reverse queue) taken, reverse-beats_from m (beats_of m), same refl)
push_order false m sent queue own taken same is = is

pop_order : {w : ℕ} (b : Bool) (x : Beat w) (rest sent queue taken : List (Beat w)) → (b ≡ true → queue ≡ x ∷ rest)
    → IsInOrder sent queue taken → IsInOrder sent (if b then rest else queue) (if b then x ∷ taken else taken)
pop_order true x rest sent queue taken first is =
    cc (is, first refl, reverse-append (x ∷ []) rest, append_assoc (reverse rest) (x ∷ []) taken)
pop_order false x rest sent queue taken first is = is

-- ---- the beats of a channel

carried-begun : {w : ℕ} (m : Message w) (k : ℕ) (at : Channel) (t : History w) → carried_on at (begun m k ++ t)
    ≡ (if same_channel at (channel_of_message m) then begun m k ++ carried_on at t else carried_on at t)
unfolding carried_on
carried-begun m zero at t =
    let go : (b : Bool) → carried_on at t ≡ (if b then carried_on at t else carried_on at t) =
    elim [ true ↦ refl | false ↦ refl ] in
    go (same_channel at (channel_of_message m))
carried-begun {w} m (suc k) at t = go (on at (beat_of m k)) (same_channel at (channel_of_message m)) (on_message m k at)
    (carried-begun m k at t)
  where
    go : (a b : Bool) → a ≡ b
        → carried_on at (begun m k ++ t) ≡ (if b then begun m k ++ carried_on at t else carried_on at t)
        → (if a then beat_of m k ∷ carried_on at (begun m k ++ t) else carried_on at (begun m k ++ t))
        ≡ (if b then beat_of m k ∷ (begun m k ++ carried_on at t) else carried_on at t)
    go a b e f = grind arith

carried-beat : {w : ℕ} (x : Beat w) (ch at : Channel) (t : History w) → IsOn ch x
    → carried_on at (x ∷ t) ≡ (if same_channel at ch then x ∷ carried_on at t else carried_on at t)
unfolding carried_on
carried-beat x ch at t is = ap (λ b. if b then x ∷ carried_on at t else carried_on at t) (is at)

apart : (at ch : Channel) (b : Bool) → is_to_client at ≡ b → is_to_client ch ≡ not b → same_channel at ch ≡ false
apart at ch b e f = grind (arith, same_channel-is)

sends : {w : ℕ} (m : Message w) (b : Bool) → is_from_client (beat_of m 0) ≡ not b
    → is_to_client (channel_of_message m) ≡ b
sends m b e = grind arith

-- a beat of a channel to clients isn't one of theirs
is_channel : {w : ℕ} (ch : Channel) (x : Beat w) → IsOn ch x → ch ≡ channel_of x
is_channel ch x on =
    sym (same_channel-is (channel_of x) ch (sym (on (channel_of x)) ∙ on_own_channel x (channel_of x)
    ∙ same_channel-refl (channel_of x)))

is_theirs : {w : ℕ} (ch : Channel) (x : Beat w) (b : Bool) → IsOn ch x → is_to_client ch ≡ b
    → is_from_client x ≡ not b
is_theirs {w} ch x b own e =
    let by_channel : (y : Beat w) → is_from_client y ≡ not (is_to_client (channel_of y)) = grind arith in
    by_channel x ∙ ap (λ i. not (is_to_client i)) (sym (is_channel ch x own)) ∙ ap not e

-- what a history has of a channel's first message is what the beats of the channel have
carried-rest : {w : ℕ} (ch : Channel) (t : History w) → unfinished ch (carried_on ch t) ≡ unfinished ch t
unfolding carried_on unfinished
carried-rest ch [] = refl
carried-rest {w} ch (x ∷ t) =
    let go : (b : Bool) → on ch x ≡ b → unfinished ch (carried_on ch t) ≡ unfinished ch t
    → unfinished ch (if b then x ∷ carried_on ch t else carried_on ch t)
    ≡ (if b then grown x (unfinished ch t) else unfinished ch t) =
    elim [ true ↦ λ e same. rw (e, same) refl | false ↦ λ e same. same ] in
    go (on ch x) refl (carried-rest ch t)

pub begins-alike : {w : ℕ} (ch : Channel) (x : Beat w) (t u : History w) → IsOn ch x → carried_on ch t ≡ carried_on ch u
    → begins x t ≡ begins x u
begins-alike ch x t u own same = rw (← is_channel ch x own)
    (ap is_empty (sym (carried-rest ch t) ∙ ap (unfinished ch) same ∙ carried-rest ch u))

-- ---- the two ends of each link

-- `p` is the history of each client's end, `t` that of the manager's end of each link, `q` what is on each channel,
-- and `f` what was delivered
pub record ArePassing {w : ℕ} (p t : ℕ → History w) (q : ℕ → Channel → List (Beat w)) (f : ℕ → History w) : Type 0 where
  pub down : (d : ℕ) (at : Channel) → is_to_client at ≡ true
      → IsInOrder (carried_on at (t d)) (q d at) (carried_on at (p d)) × (carried_on at (p d) ≡ carried_on at (f d))
  pub up : (d : ℕ) (at : Channel) → is_to_client at ≡ false
      → IsInOrder (carried_on at (p d)) (q d at) (carried_on at (t d)) × (carried_on at (t d) ≡ carried_on at (f d))
  pub sinks : (d : ℕ) → AreSunk (f d) (p d) (q d Channel.E)

-- with a message, or a beat, at one end
abbrev pub said_at : {w : ℕ} → ℕ → Message w → (ℕ → History w) → ℕ → History w
said_at l m p d = if l == d then burst_of m ++ p d else p d

abbrev pub heard_at : {w : ℕ} → ℕ → Beat w → (ℕ → History w) → ℕ → History w
heard_at c x p d = if c == d then x ∷ p d else p d

abbrev pub queued_at : {w : ℕ} → ℕ → Message w → (ℕ → Channel → List (Beat w)) → ℕ → Channel → List (Beat w)
queued_at l m q d at = if (d == l) && same_channel at (channel_of_message m) then q l (channel_of_message m)
    ++ beats_from m 0 (beats_of m) else q d at

abbrev pub popped_at : {w : ℕ} → ℕ → Channel → List (Beat w) → (ℕ → Channel → List (Beat w)) → ℕ → Channel
    → List (Beat w)
popped_at c ch queue q d at = if (d == c) && same_channel at ch then queue else q d at

-- the sending end says a message
said_here : {w : ℕ} (l : ℕ) (m : Message w) (p : ℕ → History w) (q : ℕ → Channel → List (Beat w)) (d : ℕ) (at : Channel)
    (taken : List (Beat w)) → IsInOrder (carried_on at (p d)) (q d at) taken
    → IsInOrder (carried_on at (said_at l m p d)) (queued_at l m q d at) taken
said_here l m p q d at taken is = elim (cases_eq d l) [
  | inl same ↦ rw (same, same_number l, carried-begun m (beats_of m) at (p l))
      (push_order (same_channel at (channel_of_message m)) m (carried_on at (p l)) (q l at) (q l (channel_of_message m))
      taken (λ e. ap (q l) (sym (same_channel-is at (channel_of_message m) e))) (rw same at is))
  | inr other ↦ rw (ne_eqb d l other, ne_eqb l d (λ e. other (sym e))) is
]

-- on a channel on which it doesn't send, nothing changes
unsaid_history : {w : ℕ} (l : ℕ) (m : Message w) (p : ℕ → History w) (d : ℕ) (at : Channel)
    → same_channel at (channel_of_message m) ≡ false → carried_on at (said_at l m p d) ≡ carried_on at (p d)
unsaid_history {w} l m p d at differs = grind (arith, carried-begun)

unsaid_queue : {w : ℕ} (l : ℕ) (m : Message w) (q : ℕ → Channel → List (Beat w)) (d : ℕ) (at : Channel)
    → same_channel at (channel_of_message m) ≡ false → queued_at l m q d at ≡ q d at
unsaid_queue {w} l m q d at differs = grind arith

pub client-says : {w : ℕ} (l : ℕ) (m : Message w) {p t : ℕ → History w} {q : ℕ → Channel → List (Beat w)} {f : ℕ
    → History w} → is_from_client (beat_of m 0) ≡ true → (r : Profile)
    → broken_in_order r (beat_of m 0) (p l) ≡ None → ArePassing p t q f
    → ArePassing (said_at l m p) t (queued_at l m q) f
client-says l m {p} {t} {q} {f} ours r legal is = record {
  down = λ d at e.
      let differs = apart at _ true e (sends m false ours) in
      rw (unsaid_queue l m q d at differs, unsaid_history l m p d at differs) (is.down d at e);
  up = λ d at e. (said_here l m p q d at (carried_on at (t d)) (is.up d at e).0, (is.up d at e).1);
  sinks = λ d. elim (cases_eq d l) [
    | inl same ↦ rw (same, same_number l) (sunk-said m (q l) ours r legal (is.sinks l))
    | inr other ↦ rw (ne_eqb d l other, ne_eqb l d (λ e. other (sym e))) (is.sinks d)
  ];
}

pub manager-says : {w : ℕ} (l : ℕ) (m : Message w) {p t : ℕ → History w} {q : ℕ → Channel → List (Beat w)} {f : ℕ
    → History w}
    → is_from_client (beat_of m 0) ≡ false → ArePassing p t q f → ArePassing p (said_at l m t) (queued_at l m q) f
manager-says l m {p} {t} {q} ours is = record {
  up = λ d at e.
      let differs = apart at _ false e (sends m true ours) in
      rw (unsaid_queue l m q d at differs, unsaid_history l m t d at differs) (is.up d at e);
  down = λ d at e. (said_here l m t q d at (carried_on at (p d)) (is.down d at e).0, (is.down d at e).1);
  sinks = λ d. rw (unsaid_queue l m q d Channel.E (apart Channel.E _ false refl (sends m true ours))) (is.sinks d);
}

-- the taking end hears a beat
heard_history : {w : ℕ} (c : ℕ) (ch : Channel) (x : Beat w) (p : ℕ → History w) (d : ℕ) (at : Channel) → IsOn ch x
    → carried_on at (heard_at c x p d) ≡ (if (c == d) && same_channel at ch then x ∷ carried_on at (p d) else carried_on
    at (p d))
heard_history {w} c ch x p d at is = grind (arith, carried-beat)

heard_here : {w : ℕ} (c : ℕ) (ch : Channel) (x : Beat w) (queue : List (Beat w)) (p : ℕ → History w) (q : ℕ → Channel
    → List (Beat w)) (f : ℕ → History w) (d : ℕ) (at : Channel) (sent : List (Beat w)) → IsOn ch x → q c ch ≡ x ∷ queue
    → IsInOrder sent (q d at) (carried_on at (p d)) × (carried_on at (p d) ≡ carried_on at (f d))
    → IsInOrder sent (popped_at c ch queue q d at) (carried_on at (heard_at c x p d))
    × (carried_on at (heard_at c x p d) ≡ carried_on at (heard_at c x f d))
heard_here {w} c ch x queue p q f d at sent on first is =
    let order : IsInOrder sent (popped_at c ch queue q d at) (carried_on at (heard_at c x p d)) = elim (cases_eq d c) [
      | inl here ↦ rw (here, heard_history c ch x p c at on, same_number c) (pop_order (same_channel at ch) x queue sent
          (q c at) (carried_on at (p c)) (λ e. ap (q c) (same_channel-is at ch e) ∙ first) (rw here at is.0))
      | inr other ↦ rw (heard_history c ch x p d at on, ne_eqb d c other, ne_eqb c d (λ e. other (sym e))) is.0
    ] in
    (order, cc (heard_history c ch x p d at on, is.1, heard_history c ch x f d at on))

unheard : {w : ℕ} (c : ℕ) (ch : Channel) (x : Beat w) (p : ℕ → History w) (d : ℕ) (at : Channel) → IsOn ch x
    → same_channel at ch ≡ false → carried_on at (heard_at c x p d) ≡ carried_on at (p d)
unheard {w} c ch x p d at on differs = heard_history c ch x p d at on ∙ go (c == d) (same_channel at ch) differs
  where
    go : (a b : Bool) → b ≡ false → (if a && b then x ∷ carried_on at (p d) else carried_on at (p d)) ≡ carried_on at
        (p d)
    go a b e = grind arith

unpopped : {w : ℕ} (c : ℕ) (ch : Channel) (queue : List (Beat w)) (q : ℕ → Channel → List (Beat w)) (d : ℕ)
    (at : Channel) → same_channel at ch ≡ false → popped_at c ch queue q d at ≡ q d at
unpopped {w} c ch queue q d at differs = grind arith

pub client-hears : {w : ℕ} (c : ℕ) (ch : Channel) (x : Beat w) (queue : List (Beat w)) {p t : ℕ → History w} {q : ℕ
    → Channel → List (Beat w)} {f : ℕ → History w} → is_to_client ch ≡ true → IsOn ch x → q c ch ≡ x ∷ queue
    → IsNew x (f c) → ArePassing p t q f → ArePassing (heard_at c x p) t (popped_at c ch queue q) (heard_at c x f)
client-hears c ch x queue {p} {t} {q} {f} theirs on first new is = record {
  down = λ d at e. heard_here c ch x queue p q f d at _ on first (is.down d at e);
  up = λ d at e.
      let differs = apart at ch false e theirs in
      rw (unheard c ch x p d at on differs, unheard c ch x f d at on differs, unpopped c ch queue q d at differs)
      (is.up d at e);
  sinks = λ d. rw (unpopped c ch queue q d Channel.E (apart Channel.E ch false refl theirs)) (elim (cases_eq d c) [
    | inl here ↦ rw (here, same_number c) (sunk-heard x (q c Channel.E) (is_theirs ch x true on theirs)
        (begins-alike ch x (p c) (f c) on (is.down c ch theirs).1) new (is.sinks c))
    | inr other ↦ rw (ne_eqb c d (λ e. other (sym e))) (is.sinks d)
  ]);
}

pub manager-hears : {w : ℕ} (c : ℕ) (ch : Channel) (x : Beat w) (queue : List (Beat w)) {p t : ℕ → History w} {q : ℕ
    → Channel → List (Beat w)} {f : ℕ → History w} → is_to_client ch ≡ false → IsOn ch x → q c ch ≡ x ∷ queue
    → ArePassing p t q f → ArePassing p (heard_at c x t) (popped_at c ch queue q) (heard_at c x f)
manager-hears c ch x queue {p} {t} {q} {f} theirs on first is = record {
  up = λ d at e. heard_here c ch x queue t q f d at _ on first (is.up d at e);
  down = λ d at e.
      let differs = apart at ch true e theirs in
      rw (unheard c ch x t d at on differs, unheard c ch x f d at on differs, unpopped c ch queue q d at differs)
      (is.down d at e);
  sinks = λ d. elim (cases_eq d c) [
    | inl here ↦ rw (here, same_number c, is_channel ch x on) (sunk-taken x (q c) queue (is_theirs ch x false on theirs)
        (ap (q c) (sym (is_channel ch x on)) ∙ first) (is.sinks c))
    | inr other ↦ rw (ne_eqb d c other, ne_eqb c d (λ e. other (sym e))) (is.sinks d)
  ];
}

-- the same histories and channels
pub passing-same : {w : ℕ} {p t : ℕ → History w} (p' t' : ℕ → History w) {q : ℕ → Channel → List (Beat w)} (q' : ℕ
    → Channel → List (Beat w)) {f : ℕ → History w} (f' : ℕ → History w) → ((d : ℕ) → p' d ≡ p d)
    → ((d : ℕ) → t' d ≡ t d) → ((d : ℕ) (at : Channel) → q' d at ≡ q d at) → ((d : ℕ) → f' d ≡ f d) → ArePassing p t q f
    → ArePassing p' t' q' f'
passing-same p' t' q' f' ps ts qs fs is = grind arith
