-- What an outcome ends of what is outstanding.
-- What is outstanding is what is open: at every event the requests and Releases that it starts and ends are those that
-- it opens and closes.
use Rattle.std.proofs.Common.{◌≡◌, ℕ, ◌+◌, ◌<◌, Bool, true, false, ◌==◌, if◌then◌else◌, List, ◌∷◌, Option, Some, None}
use Rattle.std.proofs.Common.{Ok, refl, sym, ◌∙◌, ap, subst, arith, map}
use Rattle.tl_coherence.proofs
use proofs.Imports.{Beat, BeatD, Link, Channel, OpD, IsWidth, Message, MessageD, beat_of, beats_of, d_beat_of}
use proofs.Imports.{channel_of, unfinished, completes, Config, is_release_ack, Verdict, EndConfig, finish_of, one_if}
use proofs.Imports.{grant_opcode, is_access_answer, open_releases, open_requests, Event, Ask, Deliver, Outcome, Answer}
use proofs.Imports.{Grant, GrantAck, Kind, Packet, Probe, ReleaseAck, Block, is_on, on, packet, AbstractState}
use proofs.Imports.{abstract_step, abstract_step_by, kind_taken, message_of, message_of_kind, block_message}
use proofs.Imports.{SimulationRelation, is_caching, receiver, is_moving, ends_release, ends_request, starts_release}
use proofs.Imports.{starts_request, Log, system_after, is_to_client, outcome_of, stepped_at, stepped, System, terms_at}
use Rattle.tl_client.specs.statement.Endpoint as client
use Rattle.tl_client.specs.statement.Offer as offer
use proofs.queues.{Carried.IsNext, QuiescentQueues.client_below, Codes.access_kind, Moves.on_same}
use proofs.queues.FirstToken.{IsFirst, first-token}
use proofs.outstanding.OpenKinds.{is_ending, is_letting_go, balance-kind, balance-asked}
use proofs.simulation.{Bounded.matched-bounded, Moved.IsTakenByClient, Moved.client-moves, Owned.sources-own}
use proofs.protocol.HeadOfD.{answer-due, grant-due, grant_message, ack_message, grant-rendered}
use proofs.protocol.Served.{clients_in, IsBalance}
use proofs.client.DeliverD.{finish_at, answer-last, same_answers, acked}
use proofs.deliveries.{ReportsAfter.rendered_release_ack, ManagersAfter.at-manager}
use proofs.deliveries.DeliverDUnmoved.{followed-moving, followed-still}
use proofs.manager.RequestsTaken.{next_tracker}

-- ---- what an outcome ends

abbrev pub Ends : {w : ℕ} → Outcome w → Bool → Bool → Type 0
Ends o ends lets_go = (ends_request o ≡ ends) × (ends_release o ≡ lets_go)

pub still-ends : {w : ℕ} (o : Outcome w) → is_moving o ≡ false → Ends o false false
still-ends o e = grind arith

abbrev pub is_e : Channel → Bool
is_e Channel.E = true
is_e _ = false

pub moved-ends : {w : ℕ} (x : Beat w) → Ends (Outcome.Moved x) (is_e (channel_of x)) false
moved-ends (Beat.A x) = (refl, refl)
moved-ends x = (refl, refl)

-- a response ends what its opcode says
pub finish-ends : {w : ℕ} (x : Beat w) (source : ℕ) (o : OpD) (param size address : ℕ) (payload : List ℕ)
    → Ends (Outcome.Done x source (finish_of w o param size address payload)) (is_access_answer o) (is_release_ack o)
finish-ends x source OpD.AccessAck param size address payload = (refl, refl)
finish-ends x source o param size address payload = (refl, refl)

-- ---- what a message of the manager's channels ends

pub manager-kind : (ch : Channel) (k : Kind) → is_to_client ch ≡ false → is_on ch k ≡ true → (is_ending k ≡ is_e ch)
    × (is_letting_go k ≡ false)
manager-kind ch k e f = grind arith

-- a GrantAck is one beat
pub ack_whole : (w c n : ℕ) (b : Block (List ℕ)) → beats_of (block_message {w = w} GrantAck c n b) ≡ 1
unfolding block_message
ack_whole w c n b = refl

pub one_whole : (k n : ℕ) → n ≡ 1 → k < n → (k + 1 == n) ≡ true
one_whole k n e f = grind arith

pub grant_kind : (b : Bool) → (is_access_answer (grant_opcode b) ≡ false) × (is_release_ack (grant_opcode b) ≡ false)
grant_kind b = grind arith

probe_on_b : (w c n k : ℕ) (b : Block (List ℕ)) → channel_of (beat_of (block_message {w = w} Probe c n b) k) ≡ Channel.B
unfolding block_message
probe_on_b w c n k b = refl

pub probe-ends : {w : ℕ} (x : Beat w) (e : client.Endpoint w) (v : Verdict) (m : Option (Message w))
    → channel_of x ≡ Channel.B → (offer.taken x e).answer ≡ Ok (v, m) → Ends (outcome_of x v) false false
probe-ends {w} x e v m of_b answer = grind (arith, moved-ends)

-- the first beat of channel B is one of a Probe
pub first-probe : {w : ℕ} {c : ℕ} (h : AbstractState w) {sys : System w} {x : Beat w} {queue : List (Beat w)}
    (first : IsFirst Channel.B c h.mail h.state sys x queue)
    → (channel_of x ≡ Channel.B) × ((is_ending first.kind ≡ false) × (is_letting_go first.kind ≡ false))
first-probe {w} {c} h {sys} {x} {queue} first = grind (arith, probe_on_b)

-- a delivery that moves a beat is one of a client's link, which has that beat
pub first-moved : {w : ℕ} (config : Config) (link : Link) (ch : Channel) (sys : System w)
    → is_moving (stepped config (Deliver link ch) sys).outcome ≡ true → (x : Beat w) × (queue : List (Beat w))
    × (terms : EndConfig) × ((sys.channels link.0 ch ≡ x ∷ queue) × (terms_at config link.0 ≡ Some terms))
unfolding stepped
first-moved {w} config link ch sys moving = grind arith

-- ---- one event

module _ {w : ℕ} {config : Config} {log : Log w} (h : AbstractState w) (width : IsWidth w)
    (matched : SimulationRelation config log h.mail h.request h.state (system_after config log)) where
  -- what this event, with this outcome, starts and ends is what is opened and closed
  abbrev pub IsCounted : Event w → Outcome w → AbstractState w → Type 0
  IsCounted event o h' = IsBalance config h.state h'.state (starts_request event o) (ends_request o)
      (starts_release event o) (ends_release o)

  counted-as : (link : Link) (ch : Channel) (o : Outcome w) (h' : AbstractState w) {ends lets : Bool} → Ends o ends lets
      → IsBalance config h.state h'.state false ends false lets → IsCounted (Deliver link ch) o h'
  counted-as link ch o h' e b = record {
    requests = ap (λ x. open_requests config h'.state + one_if x) e.0 ∙ b.requests;
    releases = ap (λ x. open_releases config h'.state + one_if x) e.1 ∙ b.releases;
  }

  unopened : IsBalance config h.state h.state false false false false
  unopened = record { requests = refl; releases = refl }

  -- the last beat of a message, or another one
  counted-either : (link : Link) (ch : Channel) (o : Outcome w) (tracker : ℕ) (k : Kind) (i : ℕ) (rest : List Packet)
      (b : Bool) → link.0 < clients_in config → on k (h.state.link link.0) ≡ packet k i ∷ rest
      → (b ≡ true → Ends o (is_ending k) (is_letting_go k)) → (b ≡ false → Ends o false false)
      → IsCounted (Deliver link ch) o (if b then kind_taken config tracker link.0 k i rest h else h)
  counted-either link ch o tracker k i rest true few first last part = counted-as link ch o (kind_taken config tracker
      link.0 k i rest h) (last refl) (balance-kind tracker k i rest h matched few (matched-bounded config log h.mail
      h.request h.state (system_after config log) matched link.0 (sources-own config log link.0 width)) first)
  counted-either link ch o tracker k i rest false few first last part = counted-as link ch o h (part refl) unopened

  -- ---- what the manager takes

  whole_e : (c : ℕ) (k : Kind) (n : ℕ) → is_on Channel.E k ≡ true → beats_of (message_of_kind k h.mail h.state c n) ≡ 1
  whole_e c k n e = grind (arith, ack_whole)

  part_apart : (ch : Channel) (c : ℕ) (x : Beat w) (queue : List (Beat w))
      → IsFirst ch c h.mail h.state (system_after config log) x queue
      → completes x (unfinished ch (receiver ch c (system_after config log))) ≡ false → is_e ch ≡ false
  part_apart ch c x queue e f = grind (arith, whole_e, one_whole)

  counted-manager : (link : Link) (ch : Channel) (terms : EndConfig) (x : Beat w) (queue : List (Beat w))
      → terms_at config link.0 ≡ Some terms → is_to_client ch ≡ false → (system_after config log).channels link.0 ch
      ≡ x ∷ queue → is_moving (stepped config (Deliver link ch) (system_after config log)).outcome ≡ true
      → IsCounted (Deliver link ch) (stepped config (Deliver link ch) (system_after config log)).outcome
      (abstract_step config (Deliver link ch) (system_after config log) h)
  counted-manager link ch terms x queue known down beats moving =
      let at = at-manager link ch h terms x queue width matched known down beats moving in
      let ends : Ends (Outcome.Moved x) (is_e ch) false = rw at.of_it at (moved-ends x) in
      let kinds = manager-kind ch at.first.kind down at.first.own in
      subst (λ o. IsCounted (Deliver link ch) o (abstract_step config (Deliver link ch) (system_after config log) h))
      (sym (ap (λ y. y.outcome) at.step_is)) (subst (λ z. IsCounted (Deliver link ch) (Outcome.Moved x) z)
      (sym at.follows) (counted-either link ch (Outcome.Moved x) (next_tracker (system_after config log)) at.first.kind
      at.first.number at.first.rest (completes x (unfinished ch (receiver ch link.0 (system_after config log))))
      (client_below config link.0 terms known)
      (on_same ch at.first.kind (h.state.link link.0) at.first.own ∙ at.first.tokens)
      (λ last. (ends.0 ∙ sym kinds.0, ends.1 ∙ sym kinds.1))
      (λ part. (ends.0 ∙ part_apart ch link.0 x queue at.first part, ends.1))))

  -- ---- what a client takes

  -- the first token of the channel, and what its message ends
  counted-client : (link : Link) {ch : Channel} {terms : EndConfig} {x : Beat w} {queue : List (Beat w)}
      → terms_at config link.0 ≡ Some terms → (system_after config log).channels link.0 ch ≡ x ∷ queue
      → is_moving (stepped config (Deliver link ch) (system_after config log)).outcome ≡ true
      → (first : IsFirst ch link.0 h.mail h.state (system_after config log) x queue)
      → IsTakenByClient terms link.0 ch x queue (system_after config log)
      (stepped config (Deliver link ch) (system_after config log))
      → ((v : Verdict) (m : Option (Message w)) → (offer.taken x ((system_after config log).clients link.0)).answer
      ≡ Ok (v, m) → (completes x (unfinished ch (receiver ch link.0 (system_after config log))) ≡ true
      → Ends (outcome_of x v) (is_ending first.kind) (is_letting_go first.kind))
      × (completes x (unfinished ch (receiver ch link.0 (system_after config log))) ≡ false
      → Ends (outcome_of x v) false false))
      → IsCounted (Deliver link ch) (stepped config (Deliver link ch) (system_after config log)).outcome
      (abstract_step config (Deliver link ch) (system_after config log) h)
  counted-client link {ch} {terms} {x} {queue} known beats moving first t ends =
      let done : Bool = completes x (unfinished ch (receiver ch link.0 (system_after config log))) in
      let follows : abstract_step config (Deliver link ch) (system_after config log) h ≡ (if done then kind_taken config
      (next_tracker (system_after config log)) link.0 first.kind first.number first.rest h else h) =
      cc (followed-moving config link ch (system_after config log) h x queue moving beats, first.tokens) in
      subst (λ o. IsCounted (Deliver link ch) o (abstract_step config (Deliver link ch) (system_after config log) h))
      (sym (ap (λ y. y.outcome) t.step_is)) (rw follows (counted-either link ch (outcome_of x t.verdict_is)
      (next_tracker (system_after config log)) first.kind first.number first.rest done
      (client_below config link.0 terms known) (on_same ch first.kind (h.state.link link.0) first.own ∙ first.tokens)
      (ends t.verdict_is t.message t.answer).0 (ends t.verdict_is t.message t.answer).1))

  counted-b : (link : Link) (terms : EndConfig) (x : Beat w) (queue : List (Beat w))
      → terms_at config link.0 ≡ Some terms → (system_after config log).channels link.0 Channel.B ≡ x ∷ queue
      → is_moving (stepped config (Deliver link Channel.B) (system_after config log)).outcome ≡ true
      → IsCounted (Deliver link Channel.B) (stepped config (Deliver link Channel.B) (system_after config log)).outcome
      (abstract_step config (Deliver link Channel.B) (system_after config log) h)
  counted-b link terms x queue known beats moving =
      let first = first-token (is_caching config) Channel.B link.0 h.mail _ (system_after config log) x queue
      width matched.invariant matched.carried beats in
      let probe = first-probe h first in
      counted-client link known beats moving first (client-moves config link Channel.B (system_after config log) terms x
      queue known beats refl moving) (λ v m answer.
      let none = probe-ends x ((system_after config log).clients link.0) v m probe.0 answer in
      (λ last. (none.0 ∙ sym probe.1.0, none.1 ∙ sym probe.1.1), λ part. none))

  -- a response, by the opcode of its message
  response-ends : (c : ℕ) (k : Kind) (mm : MessageD w) (i : ℕ) (x : Beat w) → x ≡ Beat.D (d_beat_of mm i)
      → is_access_answer mm.opcode ≡ is_ending k → is_release_ack mm.opcode ≡ is_letting_go k
      → (v : Verdict) (m : Option (Message w)) → (offer.taken x ((system_after config log).clients c)).answer
      ≡ Ok (v, m) → (completes x (unfinished Channel.D ((system_after config log).clients c).past) ≡ true
      → Ends (outcome_of x v) (is_ending k) (is_letting_go k))
      × (completes x (unfinished Channel.D ((system_after config log).clients c).past) ≡ false
      → Ends (outcome_of x v) false false)
  response-ends c k mm i x x_is access ack v m answer = (last, part)
    where
      e : client.Endpoint w
      e = (system_after config log).clients c

      y : BeatD w
      y = d_beat_of mm i

      at : (b : Bool) → completes x (unfinished Channel.D e.past) ≡ b
          → completes (Beat.D y) (unfinished Channel.D e.past) ≡ b
      at b f = sym (ap (λ z. completes z (unfinished Channel.D e.past)) x_is) ∙ f

      last : completes x (unfinished Channel.D e.past) ≡ true → Ends (outcome_of x v) (is_ending k) (is_letting_go k)
      last f =
          let same = (same_answers v (Verdict.Done y.source (finish_at y e)) m (acked y.opcode y.sink)
          (offer.taken x e).answer answer (ap (λ z. (offer.taken z e).answer) x_is ∙ answer-last y e (at true f))).0 in
          let ends = finish-ends x y.source y.opcode y.param y.size _ _ in
          subst (λ u. Ends (outcome_of x u) (is_ending k) (is_letting_go k)) (sym same) (ends.0 ∙ access, ends.1 ∙ ack)

      part : completes x (unfinished Channel.D e.past) ≡ false → Ends (outcome_of x v) false false
      part f = grind arith

  counted-d : (link : Link) (terms : EndConfig) (x : Beat w) (queue : List (Beat w))
      → terms_at config link.0 ≡ Some terms → (system_after config log).channels link.0 Channel.D ≡ x ∷ queue
      → is_moving (stepped config (Deliver link Channel.D) (system_after config log)).outcome ≡ true
      → IsCounted (Deliver link Channel.D) (stepped config (Deliver link Channel.D) (system_after config log)).outcome
      (abstract_step config (Deliver link Channel.D) (system_after config log) h)
  counted-d link terms x queue known beats moving = counted-client link known beats moving first
      (client-moves config link Channel.D (system_after config log) terms x queue known beats refl moving)
      (kinds first.kind first.tokens first.own first.next)
    where
      c : ℕ
      c = link.0

      first : IsFirst Channel.D c h.mail h.state (system_after config log) x queue
      first = first-token (is_caching config) Channel.D c h.mail _ (system_after config log) x queue width
          matched.invariant matched.carried beats

      Here : Kind → Type 0
      Here k = (v : Verdict) (m : Option (Message w)) → (offer.taken x ((system_after config log).clients c)).answer
          ≡ Ok (v, m) → (completes x (unfinished Channel.D ((system_after config log).clients c).past) ≡ true
          → Ends (outcome_of x v) (is_ending k) (is_letting_go k)) × (completes x
          (unfinished Channel.D ((system_after config log).clients c).past) ≡ false → Ends (outcome_of x v) false false)

      kinds : (k : Kind) → (h.state.link c).d ≡ packet k first.number ∷ first.rest → is_on Channel.D k ≡ true
          → IsNext x (unfinished Channel.D (receiver Channel.D c (system_after config log)))
          (message_of_kind k h.mail h.state c first.number) (map (message_of h.mail h.state c) first.rest) queue
          → Here k
      kinds Answer tokens own next =
          let due = answer-due (is_caching config) c first.number _ h.mail _ matched.invariant
          (matched.answered c first.number) tokens in
          response-ends c Answer due.answer next.k x (next.beat_is ∙ ap (λ m. beat_of m next.k)
          due.answer_is) due.answers_access (access_kind due.answer.opcode due.answers_access).1
      kinds Grant tokens own next =
          let due = grant-due (is_caching config) c first.number _ _ matched.invariant tokens in
          response-ends c Grant (grant_message due.data_too due.k ((h.state.block first.number).source c) (h.state.block
          first.number).tracker (h.state.block first.number).truth) next.k x (next.beat_is ∙ ap (λ m. beat_of m next.k)
          (grant-rendered c first.number h.state due)) (grant_kind due.data_too).0 (grant_kind due.data_too).1
      kinds ReleaseAck tokens own next =
          response-ends c ReleaseAck (ack_message ((h.state.block first.number).release_source c)) next.k x
          (cc (next.beat_is, rendered_release_ack c first.number (h.state.block first.number))) refl refl
      kinds k tokens own next = absurd cc

  -- ---- any event

  counted-delivery : (link : Link) (ch : Channel) (b : Bool)
      → is_moving (stepped config (Deliver link ch) (system_after config log)).outcome ≡ b
      → IsCounted (Deliver link ch) (stepped config (Deliver link ch) (system_after config log)).outcome
      (abstract_step config (Deliver link ch) (system_after config log) h)
  counted-delivery link ch false still = rw (followed-still config link ch (system_after config log) h still)
      (counted-as link ch (stepped config (Deliver link ch) (system_after config log)).outcome h
      (still-ends (stepped config (Deliver link ch) (system_after config log)).outcome still) unopened)
  counted-delivery link ch true moving = go ch (first-moved config link ch (system_after config log) moving) moving
    where
      go : (i : Channel) → ((x : Beat w) × (queue : List (Beat w)) × (terms : EndConfig)
          × (((system_after config log).channels link.0 i ≡ x ∷ queue) × (terms_at config link.0 ≡ Some terms)))
          → is_moving (stepped config (Deliver link i) (system_after config log)).outcome ≡ true
          → IsCounted (Deliver link i) (stepped config (Deliver link i) (system_after config log)).outcome
          (abstract_step config (Deliver link i) (system_after config log) h)
      go Channel.B p m = counted-b link p.2 p.0 p.1 p.3.1 p.3.0 m
      go Channel.D p m = counted-d link p.2 p.0 p.1 p.3.1 p.3.0 m
      go i p m = counted-manager link i p.2 p.0 p.1 p.3.1 refl p.3.0 m

  -- What an event starts and ends is what it opens and closes.
  pub counted-followed : (event : Event w) → IsCounted event (stepped config event (system_after config log)).outcome
      (abstract_step config event (system_after config log) h)
  unfolding stepped
  counted-followed (Deliver link ch) =
      counted-delivery link ch (is_moving (stepped config (Deliver link ch) (system_after config log)).outcome) refl
  counted-followed (Ask c o) = go (terms_at config c) refl
    where
      go : (t : Option EndConfig) → terms_at config c ≡ t
          → IsCounted (Ask c o) (stepped_at config t (Ask c o) (system_after config log)).outcome
          (abstract_step_by config (Ask c o) (stepped_at config t (Ask c o) (system_after config log)).outcome
          (system_after config log) h)
      go None e = record { requests = refl; releases = refl }
      go (Some terms) e = balance-asked h terms c o matched e (client_below config c terms e)
