-- The beat that is next on channel D of a client's link: one of an answer, of a Grant, or of a ReleaseAck.
-- What was delivered in part on a link: of which Grant, and of which Release.
use Rattle.std.proofs.Common.{◌≡◌, ℕ, zero, suc, Bool, true, false, not, ◌&&◌, ◌==◌, List, ◌∷◌, Option, Some}
use Rattle.std.proofs.Common.{arith, None, refl, sym, ◌∙◌, ap, subst, length, eqb-true, map}
use Rattle.tl_coherence.proofs
use proofs.Imports.{Beat, BeatA, BeatC, BeatD, Channel, IsWidth, length-begun, Message, MessageA, MessageC, MessageD}
use proofs.Imports.{beat_of, begun, d_beat_of, unfinished, Config, comes_in_release, on_link, asks_for}
use proofs.Imports.{grants, is_grant, is_release, request_of, same_block, Answer, Grant, Kind, Packet}
use proofs.Imports.{ProbeAck, Release, ReleaseAck, Acquires, Block, State, is_on, packet}
use proofs.Imports.{is_releasing, is_unserved, AbstractState, comes_granting, is_requested, AccessMessages}
use proofs.Imports.{message_of, message_of_kind, prune_told, report_told, block_message, MonitorRelations}
use proofs.Imports.{SimulationRelation, asked_by, is_caching, receiver, flow, Log, system_after, System}
use proofs.client.ClientEnd.{asks-acquire}
use proofs.queues.{Phases.and_left, Phases.and_right, Tokens.same_number, Codes.access_kind, Carried.IsNext}
use proofs.queues.FirstToken.{IsFirst, first-token}
use proofs.client.HalfTaken.{never_grant, half-granted, half-taken}
use proofs.Imports.{same_Some, ReleasePhase, is_acked}
use proofs.manager.{Reporting.report-about, Reporting.release-about}
use proofs.protocol.HeadOfD.{IsGrantDue, answer-due, grant-due, grant-rendered, grant_message, ack_message, own_view}
use proofs.protocol.HeadOfD.{IsAnswerDue}
use proofs.protocol.BothParts.{is_of-is, releasing-is, first-shown}

-- the Grant of the block that is on its way to the client
abbrev pub grant_sent : {w : ℕ} (c n : ℕ) (s : State (List ℕ)) → IsGrantDue c n s → MessageD w
grant_sent c n s due = grant_message due.data_too due.k ((s.block n).source c) (s.block n).tracker (s.block n).truth

-- the beat is the one at this place of the Grant of the block that is on its way to the client
pub record IsGrantBeat {w : ℕ} (c n : ℕ) (s : State (List ℕ)) (y : BeatD w) (place : ℕ) : Type 0 where
  pub due : IsGrantDue c n s
  pub beat_is : y ≡ d_beat_of (grant_sent c n s due) place

same_beat : {w : ℕ} (x y : BeatD w) → Beat.D x ≡ Beat.D y → x ≡ y
same_beat x y e = cc

module _ {w : ℕ} (config : Config) (log : Log w) (h : AbstractState w) (c : ℕ) (y : BeatD w) (queue : List (Beat w))
    (width : IsWidth w) (is : SimulationRelation config log h.mail h.request h.state (system_after config log))
    (flowed : MonitorRelations log h.mail h.state (system_after config log))
    (beats : (system_after config log).channels c Channel.D ≡ Beat.D y ∷ queue) where
  abbrev s : State (List ℕ)
  s = h.state

  first : IsFirst Channel.D c h.mail s (system_after config log) (Beat.D y) queue
  first = first-token (is_caching config) Channel.D c h.mail s (system_after config log) _ queue width
      is.invariant is.carried beats

  abbrev Next : Kind → ℕ → Type 0
  Next k i = IsNext (Beat.D y) (unfinished Channel.D ((system_after config log).clients c).past)
      (message_of_kind k h.mail s c i) (map (message_of h.mail s c) first.rest) queue

  -- what holds of a beat of an answer, of one of a Grant, and of one of a ReleaseAck holds of it
  pub next-on_d : (P : Type 0) → ((i : ℕ) (due : IsAnswerDue c i h.mail s)
      → y ≡ d_beat_of due.answer (length (unfinished Channel.D (flow c log))) → P)
      → ((i : ℕ) → IsGrantBeat c i s y (length (unfinished Channel.D (flow c log))) → P)
      → ((i k : ℕ) → y ≡ d_beat_of (ack_message ((s.block i).release_source c)) k → P) → P
  unfolding block_message
  next-on_d P answer grant ack = go first.kind first.number first.tokens first.own first.next
    where
      place : (m : Message w) (k : ℕ) → unfinished Channel.D ((system_after config log).clients c).past ≡ begun m k
          → k ≡ length (unfinished Channel.D (flow c log))
      place m k e = sym (ap length ((flowed c).rest_is Channel.D ∙ e) ∙ length-begun m k)

      go : (k : Kind) (i : ℕ) → (s.link c).d ≡ packet k i ∷ first.rest → is_on Channel.D k ≡ true → Next k i → P
      go Answer i tokens own next =
          let due = answer-due (is_caching config) c i _ h.mail s is.invariant (is.answered c i) tokens in
          answer i due (same_beat y (d_beat_of due.answer next.k) (next.beat_is ∙ ap (λ m. beat_of m next.k)
          due.answer_is) ∙ ap (d_beat_of due.answer) (place (message_of_kind Answer h.mail s c i) next.k next.rest_is))
      go Grant i tokens own next =
          let due = grant-due (is_caching config) c i _ s is.invariant tokens in
          grant i (record {
            due = due;
            beat_is = cc (
              same_beat y (d_beat_of (grant_sent c i s due) next.k) (next.beat_is
                  ∙ ap (λ z. beat_of z next.k) (grant-rendered c i s due)),
              place (message_of_kind Grant h.mail s c i) next.k next.rest_is,
            );
          })
      go ReleaseAck i tokens own next =
          ack i next.k (same_beat y (d_beat_of (ack_message ((s.block i).release_source c)) next.k) next.beat_is)
      go k i tokens own next = absurd cc

  -- a Grant that is on its way is of the block that its request asks for
  granted_block : {i : ℕ} (n : ℕ) → IsGrantBeat c i s y (length (unfinished Channel.D (flow c log)))
      → asks_for n (request_of y.source (flow c log)) ≡ true → i ≡ n
  granted_block {i} n grant asks =
      let b : Block (List ℕ) = s.block i in
      let rest_now : List (Beat w) = unfinished Channel.A (receiver Channel.A c (system_after config log)) in
      let from : y.source ≡ b.source c = ap (λ z. z.source) grant.beat_is in
      let requested : is_requested c y.source rest_now (s.uses c y.source) s ≡ true =
      ap (λ u. is_requested c y.source rest_now u s) (ap (s.uses c) from ∙ grant.due.used)
      ∙ ap (λ v. not (is_unserved v)) (own_view c grant.due.data_too grant.due.k b.service grant.due.service) in
      let asked : request_of y.source (flow c log) ≡ asked_by h.mail s c (b.source c) =
      cc ((flowed c).asked_is y.source ((flowed c).requests y.source ∙ requested), from) in
      let asked_for : asks_for n (request_of y.source (flow c log)) ≡ (i == n) = cc (
        asked,
        asks-acquire c _ i (b.source c) grant.due.whole grant.due.g h.mail s grant.due.used grant.due.wants refl,
        same_block i,
      ) in
      eqb-true i n (sym asked_for ∙ asks)

  -- a beat that grants a block is one of that block's Grant
  pub grant-next : (n : ℕ) → grants n y (flow c log) ≡ true
      → IsGrantBeat c n s y (length (unfinished Channel.D (flow c log)))
  grant-next n granted = next-on_d Of (λ i due e. not_granted (ap (λ z. is_grant z.opcode) e
      ∙ (access_kind due.answer.opcode due.answers_access).0))
      (λ i grant. subst (λ j. IsGrantBeat c j s y (length (unfinished Channel.D (flow c log))))
      (granted_block n grant (and_right (is_grant y.opcode) (asks_for n (request_of y.source (flow c log))) granted))
      grant) (λ i k e. not_granted (ap (λ z. is_grant z.opcode) e))
    where
      Of : Type 0
      Of = IsGrantBeat c n s y (length (unfinished Channel.D (flow c log)))

      not_granted : is_grant y.opcode ≡ false → Of
      not_granted e = absurd (let yes : is_grant y.opcode ≡ true =
          and_left (is_grant y.opcode) (asks_for n (request_of y.source (flow c log))) granted in
          let no : false ≡ true = sym e ∙ yes in cc)

-- ---- a Grant

-- requests that are asked with other first beats, but for sources that are open, change nothing of it
pub coming-asked : {w : ℕ} {config : Config} {log : Log w} {mail : AccessMessages w} {request : ℕ → MessageA w}
    {s : State (List ℕ)} {sys : System w} (c m : ℕ) (asked asked' : ℕ → Option (BeatA w))
    → SimulationRelation config log mail request s sys → ((i n : ℕ) → s.uses c i ≡ Acquires n → asked' i ≡ asked i)
    → comes_granting m asked' (unfinished Channel.D (sys.clients c).past) ≡ comes_granting m asked
    (unfinished Channel.D (sys.clients c).past)
coming-asked {w} {s} {sys} c m asked asked' h same = go (unfinished Channel.D (sys.clients c).past) refl
  where
    go : (beats : List (Beat w)) → unfinished Channel.D (sys.clients c).past ≡ beats
        → comes_granting m asked' beats ≡ comes_granting m asked beats
    go (Beat.D x ∷ more) e = by (is_grant x.opcode) refl
      where
        by : (b : Bool) → is_grant x.opcode ≡ b
            → (b && asks_for m (asked' x.source)) ≡ (b && asks_for m (asked x.source))
        by false f = refl
        by true f =
            let of = half-granted c x more h e f in
            ap (asks_for m) (same x.source of.0 (ap (s.uses c) of.2 ∙ of.1.used))
    go beats e = refl

-- ---- a Release

-- a beat of this message, if it is one of a Release, has the source of one that isn't answered
IsReleaseAlone : {w : ℕ} → ℕ → State (List ℕ) → Message w → Type 0
IsReleaseAlone {w} c s m = (y : MessageC w) × (m ≡ Message.C y) × (is_release y.opcode ≡ true
    → (n : ℕ) × (is_releasing ((s.block n).pair c).letting ≡ true) × (y.source ≡ (s.block n).release_source c))

alone_report : {w : ℕ} (c n : ℕ) {s : State (List ℕ)} (width : IsWidth w) {config : Config} {log : Log w}
    {mail : AccessMessages w} {request : ℕ → MessageA w}
    {sys : System w} → SimulationRelation config log mail request s sys
    → IsReleaseAlone {w = w} c s (block_message ProbeAck c n (s.block n))
unfolding IsReleaseAlone block_message
alone_report c n {s} width h =
    let about = report-about (report_told ((s.block n).pair c).probing) n _ width (h.sized n).truth in
    (about.0, about.1, never_grant (is_release about.0.opcode) about.2.releases)

alone_release : {w : ℕ} (c n : ℕ) {s : State (List ℕ)} (width : IsWidth w) {config : Config} {log : Log w}
    {mail : AccessMessages w} {request : ℕ → MessageA w} {sys : System w}
    → SimulationRelation config log mail request s sys → is_releasing ((s.block n).pair c).letting ≡ true
    → IsReleaseAlone {w = w} c s (block_message Release c n (s.block n))
unfolding IsReleaseAlone block_message
alone_release c n {s} width h shows =
    let about = release-about (prune_told ((s.block n).pair c).letting) ((s.block n).release_source c) n
    _ width (h.sized n).truth in
    (about.0, about.1, λ e. (n, shows, about.3))

begun_release : {w : ℕ} (c : ℕ) (s : State (List ℕ)) (m : Message w) (k : ℕ) (x : BeatC w) (more : List (Beat w))
    → IsReleaseAlone c s m → Beat.C x ∷ more ≡ begun m k → is_release x.opcode ≡ true
    → (n : ℕ) × (is_releasing ((s.block n).pair c).letting ≡ true) × (x.source ≡ (s.block n).release_source c)
unfolding IsReleaseAlone
begun_release {w} c s m k x more is e releases = go k (e ∙ ap (λ y. begun y k) is.1)
  where
    go : (i : ℕ) → Beat.C x ∷ more ≡ begun (Message.C is.0) i
        → (n : ℕ) × (is_releasing ((s.block n).pair c).letting ≡ true) × (x.source ≡ (s.block n).release_source c)
    go zero f = absurd cc
    go (suc i) f =
        let opcode : x.opcode ≡ is.0.opcode = cc in
        let source : x.source ≡ is.0.source = cc in
        told source (is.2 (sym (ap is_release opcode) ∙ releases))
      where
        told : x.source ≡ is.0.source → (n : ℕ) × (is_releasing ((s.block n).pair c).letting ≡ true)
            × (is.0.source ≡ (s.block n).release_source c)
            → (n : ℕ) × (is_releasing ((s.block n).pair c).letting ≡ true) × (x.source ≡ (s.block n).release_source c)
        told source (n, releasing, of_source) = (n, releasing, source ∙ of_source)

half-released : {w : ℕ} {config : Config} {log : Log w} {mail : AccessMessages w} {request : ℕ → MessageA w}
    {s : State (List ℕ)} {sys : System w} (c : ℕ) (x : BeatC w)
    (more : List (Beat w)) → IsWidth w → SimulationRelation config log mail request s sys
    → unfinished Channel.C (on_link c sys.manager.trace) ≡ Beat.C x ∷ more → is_release x.opcode ≡ true → (n : ℕ)
    × (is_releasing ((s.block n).pair c).letting ≡ true) × (x.source ≡ (s.block n).release_source c)
half-released {w} {mail} {s} c x more width h is releases = half-taken c Channel.C (λ beats. beats ≡ Beat.C x ∷ more
    → (n : ℕ) × (is_releasing ((s.block n).pair c).letting ≡ true) × (x.source ≡ (s.block n).release_source c)) h
    (λ e. absurd cc) (λ k i rest j first own e. begun_release c s _ j x more (each k i rest first own) (sym e) releases)
    is
  where
    each : (k : Kind) (i : ℕ) (rest : List Packet) → (s.link c).c ≡ packet k i ∷ rest → is_on Channel.C k ≡ true
        → IsReleaseAlone c s (message_of_kind k mail s c i)
    each ProbeAck i rest first own = alone_report c i width h
    each Release i rest first own = alone_release c i width h (first-shown h.invariant c Release refl first)
    each k i rest first own = absurd cc

-- a Release that was delivered in part isn't answered, and is the one with its source
coming-release : {w : ℕ} {config : Config} {log : Log w} {mail : AccessMessages w} {request : ℕ → MessageA w}
    {s : State (List ℕ)} {sys : System w} (c source : ℕ) → IsWidth w → SimulationRelation config log mail request s sys
    → comes_in_release source (unfinished Channel.C (on_link c sys.manager.trace)) ≡ true
    → (n : ℕ) × (is_releasing ((s.block n).pair c).letting ≡ true) × (s.lets c source ≡ Some n)
coming-release {w} {s} {sys} c source width h = go (unfinished Channel.C (on_link c sys.manager.trace)) refl
  where
    go : (beats : List (Beat w)) → unfinished Channel.C (on_link c sys.manager.trace) ≡ beats
        → comes_in_release source beats ≡ true
        → (n : ℕ) × (is_releasing ((s.block n).pair c).letting ≡ true) × (s.lets c source ≡ Some n)
    go (Beat.C x ∷ more) e f =
        let of = half-released c x more width h e (and_left (is_release x.opcode) (x.source == source) f) in
        let same : source ≡ (s.block of.0).release_source c =
        sym (eqb-true x.source source (and_right (is_release x.opcode) (x.source == source) f)) ∙ of.2 in
        let letting = releasing-is _ of.1 in
        let used = is_of-is of.0 _ (h.invariant.named.releases c ((s.block of.0).release_source c) of.0
        ∙ rw (letting, same_number ((s.block of.0).release_source c)) refl) in
        (of.0, of.1, ap (s.lets c) same ∙ used)
    go beats e f = absurd cc

never_coming : (b : Bool) → (b ≡ true → ⊥) → b ≡ false
never_coming b e = grind arith

-- no Release is half delivered with a source that is free, or that of a Release that is acknowledged
pub coming-free : {w : ℕ} {config : Config} {log : Log w} {mail : AccessMessages w} {request : ℕ → MessageA w}
    {s : State (List ℕ)} {sys : System w} (c source : ℕ) → IsWidth w → SimulationRelation config log mail request s sys
    → s.lets c source ≡ None → comes_in_release source (unfinished Channel.C (on_link c sys.manager.trace)) ≡ false
coming-free c source width h free = never_coming _ (λ e. let of = coming-release c source width h e in
    let no : None ≡ Some of.0 = sym free ∙ of.2 in cc)

pub coming-acked : {w : ℕ} {config : Config} {log : Log w} {mail : AccessMessages w} {request : ℕ → MessageA w}
    {s : State (List ℕ)} {sys : System w} (c n source : ℕ) → IsWidth w
    → SimulationRelation config log mail request s sys → s.lets c source ≡ Some n
    → is_acked ((s.block n).pair c).letting ≡ true
    → comes_in_release source (unfinished Channel.C (on_link c sys.manager.trace)) ≡ false
coming-acked {s} c n source width h let_ acked = never_coming _ (λ e.
    let of = coming-release c source width h e in
    let here : of.0 ≡ n = same_Some of.0 n (sym of.2 ∙ let_) in
    apart ((s.block n).pair c).letting acked (sym (ap (λ j. is_releasing ((s.block j).pair c).letting) here) ∙ of.1))
  where
    apart : (x : ReleasePhase) → is_acked x ≡ true → is_releasing x ≡ true → ⊥
    apart x e f = grind arith
