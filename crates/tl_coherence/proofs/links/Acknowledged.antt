-- Sinks of Grants: one is pending in what was delivered on a link exactly as at the client's end, or its GrantAck is
-- under way.
use Rattle.std.proofs.Common.{◌≡◌, ℕ, zero, suc, ◌+◌, Bool, true, false, ◌&&◌, ◌==◌, if◌then◌else◌, List, [], ◌∷◌, ◌++◌}
use Rattle.std.proofs.Common.{None, refl, sym, ◌∙◌, ap, arith, ne_eqb, eqb-true, map, ◌<◌, ◌-◌}
use Rattle.tl_coherence.proofs
use proofs.Imports.{same_Some, Beat, BeatD, BeatE, Channel, IsWidth, Message, MessageA, MessageE}
use proofs.Imports.{beat_of, beats_of, begun, burst_of, History, unfinished, channel_of, is_empty, Config, GrantSink, Cap, Profile}
use proofs.Imports.{broken_in_order, comes_in_grant, on_link, begins, ends, is_grant, opens, pending, whole-e}
use proofs.Imports.{is_from_client, one_if, AreNamed, GrantAck, Kind, Packet, count}
use proofs.Imports.{GrantSent, GrantTaken, State, is_on, AbstractState, IsCarried, AccessMessages, message_of}
use proofs.Imports.{message_of_kind, block_message, SimulationRelation, is_caching, Log, System, channel_of_message}
use proofs.Imports.{same_channel, beats_from}
use Rattle.tl_rules.specs.statement.Conformance.{broken_order}
use Rattle.tl_coherence.specs.refinement.Carried.{spelled}
use proofs.client.HalfTaken.{IsGrantAlone, alone-token}
use proofs.manager.ManagedGrants.{tracker-of}
use proofs.protocol.{BothParts.acknowledging-is, Capacities.kind_there, Capacities.shown_there}
use proofs.protocol.HeadOfD.{IsGrantDue}
use proofs.queues.{Phases.and_left, Phases.and_right, Tokens.same_number}
use proofs.queues.FirstToken.{IsThere, first-there, later-there, first-token}

-- how many of these beats are GrantAcks with this sink
abbrev pub acks : {w : ℕ} → ℕ → List (Beat w) → ℕ
acks i [] = 0
acks i (Beat.E x ∷ xs) = one_if (x.sink == i) + acks i xs
acks i (x ∷ xs) = acks i xs

acks-append : {w : ℕ} (i : ℕ) (xs ys : List (Beat w)) → acks i (xs ++ ys) ≡ acks i xs + acks i ys
acks-append i [] ys = omega arith
acks-append i (Beat.E x ∷ xs) ys = omega (arith, acks-append i xs ys)
acks-append i (x ∷ xs) ys = acks-append i xs ys

-- ---- the histories

-- what holds of an end, of what was delivered and of what is on channel E
pub record AreSunk {w : ℕ} (f p : History w) (queue : List (Beat w)) : Type 0 where
  pub sinks : (i : ℕ) → one_if (pending (GrantSink i) f) ≡ one_if (pending (GrantSink i) p) + acks i queue

-- beats of channels A to C have nothing to do with it
abbrev is_quiet : {w : ℕ} → Beat w → Bool
is_quiet (Beat.D x) = false
is_quiet (Beat.E x) = false
is_quiet x = true

pub sink-quiet : {w : ℕ} (i : ℕ) (x : Beat w) (t : History w) → is_quiet x ≡ true
    → pending (GrantSink i) (x ∷ t) ≡ pending (GrantSink i) t
unfolding pending
sink-quiet i x t e = grind arith

sink_begun : {w : ℕ} (i : ℕ) (m : Message w) (k : ℕ) (t : History w) → is_quiet (beat_of m 0) ≡ true
    → pending (GrantSink i) (begun m k ++ t) ≡ pending (GrantSink i) t
sink_begun i m zero t e = refl
sink_begun i (Message.A m) (suc k) t e =
    sink-quiet i (beat_of (Message.A m) k) (begun (Message.A m) k ++ t) refl ∙ sink_begun i (Message.A m) k t e
sink_begun i (Message.B m) (suc k) t e =
    sink-quiet i (beat_of (Message.B m) k) (begun (Message.B m) k ++ t) refl ∙ sink_begun i (Message.B m) k t e
sink_begun i (Message.C m) (suc k) t e =
    sink-quiet i (beat_of (Message.C m) k) (begun (Message.C m) k ++ t) refl ∙ sink_begun i (Message.C m) k t e
sink_begun i m (suc k) t e = absurd cc

-- a GrantAck closes its sink
sink_acked : {w : ℕ} (i : ℕ) (x : BeatE) (t : History w)
    → pending (GrantSink i) (Beat.E x ∷ t) ≡ (if x.sink == i then false else pending (GrantSink i) t)
unfolding pending
sink_acked {w} i x t = let whole : ends {w = w} (Beat.E x) t ≡ true = (whole-e {w = w} x t).1 in grind arith

-- the GrantAck that is first on channel E has a sink that is pending
pub sunk-first : {w : ℕ} (x : BeatE) (queue : List (Beat w)) {f p : History w} {beats : List (Beat w)}
    → AreSunk f p beats → beats ≡ Beat.E x ∷ queue → pending (GrantSink x.sink) f ≡ true
sunk-first x queue sunk first = let some : (a : Bool) (b : Bool) (n m : ℕ) → b ≡ true
    → one_if a ≡ n + (one_if b + m) → a ≡ true = grind arith in
    some _ (x.sink == x.sink) _ (acks x.sink queue) (same_number x.sink) (rw first at (sunk.sinks x.sink))

-- ---- an end says a message

-- a GrantAck that breaks no rule has a sink that is pending
pending_acked : {w : ℕ} (p : Profile) (x : BeatE) (t : History w) → broken_in_order p (Beat.E x) t ≡ None
    → pending (GrantSink x.sink) t ≡ true
unfolding broken_order
pending_acked {w} p x t legal =
    let whole : begins {w = w} (Beat.E x) t ≡ true = (whole-e {w = w} x t).0 in grind arith

closes_one : (a b c : Bool) (n : ℕ) → (b ≡ true → a ≡ true) → one_if c ≡ one_if a + n
    → one_if c ≡ one_if (if b then false else a) + (n + one_if b)
closes_one a b c n e f = grind arith

pub sunk-said : {w : ℕ} (m : Message w) {f p : History w} (q : Channel → List (Beat w))
    → is_from_client (beat_of m 0) ≡ true → (r : Profile) → broken_in_order r (beat_of m 0) p ≡ None
    → AreSunk f p (q Channel.E)
    → AreSunk f (burst_of m ++ p) (if same_channel Channel.E (channel_of_message m) then q (channel_of_message m)
    ++ beats_from m 0 (beats_of m) else q Channel.E)
unfolding beats_from
sunk-said (Message.A m) {f} {p} q ours r legal is =
    record { sinks = λ i. rw (sink_begun i (Message.A m) (beats_of (Message.A m)) p refl) (is.sinks i) }
sunk-said (Message.C m) {f} {p} q ours r legal is =
    record { sinks = λ i. rw (sink_begun i (Message.C m) (beats_of (Message.C m)) p refl) (is.sinks i) }
sunk-said {w} (Message.E m) {f} {p} q ours r legal is =
    let x : BeatE = record { sink = m.sink } in
    let y : Beat w = Beat.E x in
    let more : (i : ℕ) → acks i (q Channel.E ++ y ∷ []) ≡ acks i (q Channel.E) + one_if (x.sink == i) =
    λ i. omega (arith, acks-append i (q Channel.E) (y ∷ [])) in
    record {
      sinks = λ i. rw (more i, sink_acked i x p) (closes_one (pending (GrantSink i) p) (x.sink == i)
          (pending (GrantSink i) f) (acks i (q Channel.E))
          (λ e. rw (← eqb-true x.sink i e) (pending_acked r x p legal)) (is.sinks i));
    }
sunk-said m q ours r legal is = absurd cc

-- ---- the client's end hears a beat

-- a Grant that begins has a sink that isn't pending
abbrev pub IsNew : {w : ℕ} → Beat w → History w → Type 0
IsNew x f = (i : ℕ) → begins x f ≡ true → opens (GrantSink i) x f ≡ true → pending (GrantSink i) f ≡ false

sink_granted : {w : ℕ} (i : ℕ) (x : BeatD w) (t : History w) → pending (GrantSink i) (Beat.D x ∷ t)
    ≡ (if begins (Beat.D x) t && (is_grant x.opcode && (x.sink == i)) then true else pending (GrantSink i) t)
unfolding pending
sink_granted {w} i x t = grind arith

opens_one : (b o a c : Bool) (n : ℕ) → (b ≡ true → o ≡ true → c ≡ false) → one_if c ≡ one_if a + n
    → one_if (if b && o then true else c) ≡ one_if (if b && o then true else a) + n
opens_one b o a c n e f = grind arith

pub sunk-heard : {w : ℕ} (x : Beat w) {f p : History w} (queue : List (Beat w)) → is_from_client x ≡ false
    → begins x p ≡ begins x f → IsNew x f → AreSunk f p queue → AreSunk (x ∷ f) (x ∷ p) queue
sunk-heard (Beat.B x) {f} {p} queue theirs same new is =
    record { sinks = λ i. rw (sink-quiet i (Beat.B x) f refl, sink-quiet i (Beat.B x) p refl) (is.sinks i) }
sunk-heard (Beat.D x) {f} {p} queue theirs same new is = record {
  sinks = λ i. rw (sink_granted i x f, sink_granted i x p, same) (opens_one (begins (Beat.D x) f)
      (opens (GrantSink i) (Beat.D x) f) (pending (GrantSink i) p) (pending (GrantSink i) f) (acks i queue) (new i)
      (is.sinks i));
}
sunk-heard x queue theirs same new is = absurd cc

-- ---- the manager's end hears one

leaves_one : (b c : Bool) (n a : ℕ) → one_if c ≡ a + (one_if b + n) → one_if (if b then false else c) ≡ a + n
leaves_one b c n a e = grind arith

pub sunk-taken : {w : ℕ} (x : Beat w) {f p : History w} (q : Channel → List (Beat w)) (queue : List (Beat w))
    → is_from_client x ≡ true → q (channel_of x) ≡ x ∷ queue → AreSunk f p (q Channel.E)
    → AreSunk (x ∷ f) p (if same_channel Channel.E (channel_of x) then queue else q Channel.E)
sunk-taken (Beat.A x) {f} q queue ours first is =
    record { sinks = λ i. rw (sink-quiet i (Beat.A x) f refl) (is.sinks i) }
sunk-taken (Beat.C x) {f} q queue ours first is =
    record { sinks = λ i. rw (sink-quiet i (Beat.C x) f refl) (is.sinks i) }
sunk-taken (Beat.E x) {f} {p} q queue ours first is = record {
  sinks = λ i. rw (sink_acked i x f) (leaves_one (x.sink == i) (pending (GrantSink i) f) (acks i queue)
      (one_if (pending (GrantSink i) p)) (rw first at (is.sinks i)));
}
sunk-taken x q queue ours first is = absurd cc

-- ---- the tokens of channel E

-- the message is a GrantAck with another sink
IsElsewhere : {w : ℕ} → ℕ → Message w → Type 0
IsElsewhere i m = (x : MessageE) × (m ≡ Message.E x) × ((x.sink == i) ≡ false)

unacked : {w : ℕ} (i : ℕ) (m : Message w) (k n : ℕ) → IsElsewhere i m → acks i (beats_from m k n) ≡ 0
unfolding beats_from IsElsewhere
unacked {w} i m k n is = rw is.1 (go k n)
  where
    go : (k n : ℕ) → acks i (beats_from {w = w} (Message.E is.0) k n) ≡ 0
    go k zero = refl
    go k (suc n) = let rest = go (k + 1) n in rw is.2 (omega (arith, rest))

all_unacked : {w : ℕ} (i : ℕ) (mail : AccessMessages w) (s : State (List ℕ)) (c : ℕ) (xs : List Packet)
    → ((y : Packet) → IsThere y xs → IsElsewhere i (message_of mail s c y))
    → acks i (spelled (map (message_of mail s c) xs)) ≡ 0
unfolding spelled
all_unacked i mail s c [] each = refl
all_unacked i mail s c (x ∷ xs) each =
    let m = message_of mail s c x in
    omega (
      arith,
      acks-append i (beats_from m 0 (beats_of m)) (spelled (map (message_of mail s c) xs)),
      unacked i m 0
          (beats_of m) (each x (first-there x xs)),
      all_unacked i mail s c xs (λ y there. each y (later-there y x xs there)),
    )

-- blocks in service have trackers of their own
pub trackers-apart : {c n m : ℕ} {d : Bool} {k : Cap} {s : State (List ℕ)} → AreNamed s
    → (s.block n).service ≡ GrantSent c d k → (s.block m).service ≡ GrantTaken c
    → (s.block m).tracker ≡ (s.block n).tracker → ⊥
trackers-apart {c} {n} {m} {d} {k} {s} named sent taken same =
    let here : m ≡ n = same_Some m n (sym (tracker-of m named (rw taken refl)) ∙ ap s.tracked same ∙ tracker-of n named
    (rw sent refl)) in
    let no : GrantTaken c ≡ GrantSent c d k = sym taken ∙ ap (λ j. (s.block j).service) here ∙ sent in absurd cc

-- no GrantAck has the sink of a Grant that is on its way
none_acked : {w : ℕ} {config : Config} {log : Log w} {mail : AccessMessages w} {request : ℕ → MessageA w}
    {s : State (List ℕ)} {sys : System w} (c n : ℕ) → SimulationRelation config log mail request s sys
    → IsGrantDue c n s → acks (s.block n).tracker (sys.channels c Channel.E) ≡ 0
unfolding IsElsewhere block_message
none_acked {w} {config} {log} {mail} {request} {s} {sys} c n h due =
    go (s.link c).e (λ y there. each y.kind y.number (kind_there c Channel.E y h.invariant there) there)
    (h.carried c Channel.E)
  where
    sink : ℕ
    sink = (s.block n).tracker

    each : (k : Kind) (m : ℕ) → is_on Channel.E k ≡ true → 0 < count k m (s.link c).e
        → IsElsewhere sink (message_of_kind k mail s c m)
    each GrantAck m own there = (
      record { sink = (s.block m).tracker },
      refl,
      ne_eqb _ sink (trackers-apart h.invariant.named due.service
          (acknowledging-is _ c (shown_there c Channel.E GrantAck m h.invariant refl there))),
    )
    each k m own there = absurd cc

    go : (xs : List Packet) → ((y : Packet) → IsThere y xs → IsElsewhere sink (message_of mail s c y))
        → IsCarried (unfinished Channel.E (on_link c sys.manager.trace)) (map (message_of mail s c) xs)
        (sys.channels c Channel.E) → acks sink (sys.channels c Channel.E) ≡ 0
    go [] each carried = ap (acks sink) carried.1
    go (y ∷ ys) each carried =
        let m = message_of mail s c y in
        let k = carried.0 in
        let parts = acks-append sink (beats_from m k (beats_of m - k)) (spelled (map (message_of mail s c) ys)) in
        omega (
          arith,
          ap (acks sink) carried.3,
          parts,
          unacked sink m k (beats_of m - k) (each y (first-there y ys)),
          all_unacked sink mail s c ys (λ z there. each z (later-there z y ys there)),
        )

-- the sink of a Grant that is due, and none of which was delivered, isn't pending
pub unsunk-due : {w : ℕ} {config : Config} {log : Log w} {mail : AccessMessages w} {request : ℕ → MessageA w}
    {s : State (List ℕ)} {sys : System w} {f : History w} (c n : ℕ) → SimulationRelation config log mail request s sys
    → IsGrantDue c n s → unfinished Channel.D (sys.clients c).past ≡ []
    → AreSunk f (sys.clients c).past (sys.channels c Channel.E) → pending (GrantSink (s.block n).tracker) f ≡ false
unsunk-due {w} {s} {sys} {f} c n h due whole sunk =
    none_one _ (sunk.sinks (s.block n).tracker ∙ ap₂_plus (ap one_if ((h.known c).sinks (s.block n).tracker
    ∙ ap (comes_in_grant (s.block n).tracker) whole)) (none_acked c n h due))
  where
    none_one : (b : Bool) → one_if b ≡ 0 → b ≡ false
    none_one b e = grind arith

    ap₂_plus : {a b c d : ℕ} → a ≡ b → c ≡ d → a + c ≡ b + d
    ap₂_plus e g = omega (arith, e, g)

-- ---- what is next on a channel to the client

-- a Grant that begins has a sink that isn't pending
pub new-next : {w : ℕ} {config : Config} {log : Log w} (h : AbstractState w) {sys : System w} {f : History w} (c : ℕ)
    (x : Beat w) (queue : List (Beat w)) → IsWidth w → SimulationRelation config log h.mail h.request h.state sys
    → sys.channels c (channel_of x) ≡ x ∷ queue → begins x (sys.clients c).past ≡ begins x f
    → AreSunk f (sys.clients c).past (sys.channels c Channel.E) → IsNew x f
unfolding IsGrantAlone
new-next {w} {config} h {sys} {f} c (Beat.D y) queue width is beats same sunk i begins_ opens_ =
    let first = first-token (is_caching config) Channel.D c h.mail h.state sys (Beat.D y) queue width is.invariant
    is.carried beats in
    let alone = alone-token c first.kind first.number first.rest is first.tokens first.own in
    let beat : Beat.D y ≡ beat_of (Message.D alone.0) first.next.k =
    first.next.beat_is ∙ ap (λ m. beat_of m first.next.k) alone.1 in
    let opcode : y.opcode ≡ alone.0.opcode = cc in
    let sink : y.sink ≡ alone.0.sink = cc in
    let grant = alone.2 (ap is_grant (sym opcode) ∙ and_left (is_grant y.opcode) (y.sink == i) opens_) in
    let named : y.sink ≡ i = eqb-true y.sink i (and_right (is_grant y.opcode) (y.sink == i) opens_) in
    let at : i ≡ (h.state.block grant.0).tracker = cc (named, sink, grant.3) in
    rw at (unsunk-due c grant.0 is grant.1 (none_left (unfinished Channel.D (sys.clients c).past) (same ∙ begins_)) sunk)
  where
    none_left : (xs : List (Beat w)) → is_empty xs ≡ true → xs ≡ []
    none_left xs e = grind arith
new-next h c x queue width is beats same sunk i begins_ opens_ = absurd cc
