-- What a receiver has of the message that is first on its channel: some beats of the message of the first token.
use Rattle.std.proofs.Common.{◌≡◌, ℕ, zero, suc, ◌*◌, Bool, true, false, ◌==◌, List, [], ◌∷◌}
use Rattle.std.proofs.Common.{refl, sym, ◌∙◌, ap, eqb-true, map}
use Rattle.tl_coherence.proofs
use proofs.Imports.{Beat, BeatD, Channel, Message, MessageA, MessageD, begun, unfinished, Config, asks_for, block_at}
use proofs.Imports.{is_grant, same_block, Answer, Grant, Kind, Packet, ReleaseAck, State, is_on, packet, packets_on}
use proofs.Imports.{view, is_granting, IsCarried, comes_granting, AccessMessages, message_of, message_of_kind}
use proofs.Imports.{block_message, SimulationRelation, asked_by, is_caching, receiver, Log, System}
use proofs.client.ClientEnd.{asks-acquire}
use proofs.queues.{Phases.and_left, Phases.and_right, Codes.access_kind, FirstToken.own_kind}
use proofs.protocol.HeadOfD.{IsGrantDue, answer-due, grant-due, grant-rendered, grant_message, ack_message, own_view}

-- what holds of no beats, and of the beginnings of each message that may be first, holds of what the receiver has
pub half-taken : {w : ℕ} {config : Config} {log : Log w} {mail : AccessMessages w} {request : ℕ → MessageA w}
    {s : State (List ℕ)} {sys : System w} (c : ℕ) (ch : Channel) (Q : List (Beat w) → Type 0)
    → SimulationRelation config log mail request s sys → Q []
    → ((k : Kind) (i : ℕ) (rest : List Packet) (j : ℕ) → packets_on ch (s.link c) ≡ packet k i ∷ rest
    → is_on ch k ≡ true → Q (begun (message_of_kind k mail s c i) j)) → Q (unfinished ch (receiver ch c sys))
half-taken {w} {config} {mail} {s} {sys} c ch Q h none some = go (packets_on ch (s.link c)) refl (h.carried c ch)
  where
    go : (xs : List Packet) → packets_on ch (s.link c) ≡ xs → IsCarried (unfinished ch (receiver ch c sys))
        (map (message_of mail s c) (packets_on ch (s.link c))) (sys.channels c ch)
        → Q (unfinished ch (receiver ch c sys))
    go [] first carried =
        let nothing : IsCarried (unfinished ch (receiver ch c sys)) [] (sys.channels c ch) =
        rw (ap (map (message_of mail s c)) first) at carried in
        rw nothing.0 none
    go (y ∷ ys) first carried =
        let one : IsCarried (unfinished ch (receiver ch c sys)) (message_of mail s c y ∷ map (message_of mail s c) ys)
        (sys.channels c ch) = rw (ap (map (message_of mail s c)) first) at carried in
        rw one.2 (some y.kind y.number ys one.0 first (own_kind (is_caching config) s c ch y.kind y.number ys
        h.invariant first))

-- ---- channel D

-- a beat of this message is, if it is one of a Grant
unfoldable pub IsGrantAlone : {w : ℕ} → ℕ → State (List ℕ) → Message w → Type 0
IsGrantAlone {w} c s m = (y : MessageD w) × (m ≡ Message.D y) × (is_grant y.opcode ≡ true → (n : ℕ) × IsGrantDue c n s
    × (y.source ≡ (s.block n).source c) × (y.sink ≡ (s.block n).tracker))

pub never_grant : {A : Type 0} (b : Bool) → b ≡ false → b ≡ true → A
never_grant b e f = absurd (let no : false ≡ true = sym e ∙ f in cc)

alone_answer : {w : ℕ} {config : Config} {log : Log w} {mail : AccessMessages w} {request : ℕ → MessageA w}
    {s : State (List ℕ)} {sys : System w} (c i : ℕ)
    (rest : List Packet) → SimulationRelation config log mail request s sys → (s.link c).d ≡ packet Answer i ∷ rest
    → IsGrantAlone c s (mail.answer c i)
unfolding IsGrantAlone
alone_answer {config} {mail} {s} c i rest h first =
    let due = answer-due (is_caching config) c i rest mail s h.invariant (h.answered c i) first in (
      due.answer,
      due.answer_is,
      never_grant (is_grant due.answer.opcode) (access_kind due.answer.opcode due.answers_access).0,
    )

alone_grant : {w : ℕ} {config : Config} {log : Log w} {mail : AccessMessages w} {request : ℕ → MessageA w}
    {s : State (List ℕ)} {sys : System w} (c n : ℕ)
    (rest : List Packet) → SimulationRelation config log mail request s sys → (s.link c).d ≡ packet Grant n ∷ rest
    → IsGrantAlone {w = w} c s (block_message Grant c n (s.block n))
unfolding IsGrantAlone
alone_grant {config} {s} c n rest h first =
    let due = grant-due (is_caching config) c n rest s h.invariant first in (
      grant_message due.data_too due.k ((s.block n).source c) (s.block n).tracker (s.block n).truth,
      grant-rendered c n s due,
      λ e. (n, due, refl, refl),
    )

alone_ack : (w : ℕ) (s : State (List ℕ)) (c n : ℕ) → IsGrantAlone {w = w} c s (block_message ReleaseAck c n (s.block n))
unfolding IsGrantAlone block_message
alone_ack w s c n = (ack_message ((s.block n).release_source c), refl, λ e. absurd cc)

pub alone-token : {w : ℕ} {config : Config} {log : Log w} {mail : AccessMessages w} {request : ℕ → MessageA w}
    {s : State (List ℕ)} {sys : System w} (c : ℕ) (k : Kind) (i : ℕ) (rest : List Packet)
    → SimulationRelation config log mail request s sys → (s.link c).d ≡ packet k i ∷ rest → is_on Channel.D k ≡ true
    → IsGrantAlone c s (message_of_kind k mail s c i)
alone-token c Answer i rest h first own = alone_answer c i rest h first
alone-token c Grant i rest h first own = alone_grant c i rest h first
alone-token {w} {s} c ReleaseAck i rest h first own = alone_ack w s c i
alone-token c k i rest h first own = absurd cc

-- the beat is one of the Grant of this block, which is due to client c
abbrev pub IsOfGrant : {w : ℕ} → ℕ → State (List ℕ) → BeatD w → Type 0
IsOfGrant c s x = (n : ℕ) × IsGrantDue c n s × (x.source ≡ (s.block n).source c) × (x.sink ≡ (s.block n).tracker)

begun_alone : {w : ℕ} (c : ℕ) (s : State (List ℕ)) (m : Message w) (k : ℕ) (x : BeatD w) (more : List (Beat w))
    → IsGrantAlone c s m → Beat.D x ∷ more ≡ begun m k → is_grant x.opcode ≡ true → IsOfGrant c s x
unfolding IsGrantAlone
begun_alone {w} c s m k x more is e grants = go k (e ∙ ap (λ y. begun y k) is.1)
  where
    go : (i : ℕ) → Beat.D x ∷ more ≡ begun (Message.D is.0) i → IsOfGrant c s x
    go zero f = absurd cc
    go (suc i) f =
        let opcode : x.opcode ≡ is.0.opcode = cc in
        let source : x.source ≡ is.0.source = cc in
        let sink : x.sink ≡ is.0.sink = cc in
        told source sink (is.2 (sym (ap is_grant opcode) ∙ grants))
      where
        told : x.source ≡ is.0.source → x.sink ≡ is.0.sink → (n : ℕ) × IsGrantDue c n s
            × (is.0.source ≡ (s.block n).source c) × (is.0.sink ≡ (s.block n).tracker) → IsOfGrant c s x
        told source sink (n, due, of_source, of_sink) = (n, due, source ∙ of_source, sink ∙ of_sink)

-- a Grant that was delivered in part is due
pub half-granted : {w : ℕ} {config : Config} {log : Log w} {mail : AccessMessages w} {request : ℕ → MessageA w}
    {s : State (List ℕ)} {sys : System w} (c : ℕ) (x : BeatD w)
    (more : List (Beat w)) → SimulationRelation config log mail request s sys
    → unfinished Channel.D (sys.clients c).past ≡ Beat.D x ∷ more → is_grant x.opcode ≡ true → IsOfGrant c s x
half-granted {w} {s} c x more h is grants = half-taken c Channel.D (λ beats. beats ≡ Beat.D x ∷ more → IsOfGrant c s x) h
    (λ e. absurd cc) (λ k i rest j first own e. begun_alone c s _ j x more (alone-token c k i rest h first own) (sym e)
    grants) is

-- a Grant of a block that was delivered in part is due
pub coming-granting : {w : ℕ} {config : Config} {log : Log w} {mail : AccessMessages w} {request : ℕ → MessageA w}
    {s : State (List ℕ)} {sys : System w} (c : ℕ) → SimulationRelation config log mail request s sys
    → (n : ℕ) → comes_granting n (asked_by mail s c) (unfinished Channel.D (sys.clients c).past) ≡ true
    → is_granting (view (s.block n).service c) ≡ true
coming-granting {w} {config} {log} {mail} {request} {s} {sys} c h n =
    go (unfinished Channel.D (sys.clients c).past) refl
  where
    go : (beats : List (Beat w)) → unfinished Channel.D (sys.clients c).past ≡ beats
        → comes_granting n (asked_by mail s c) beats ≡ true → is_granting (view (s.block n).service c) ≡ true
    go (Beat.D x ∷ more) e f =
        let of = half-granted c x more h e (and_left (is_grant x.opcode) (asks_for n (asked_by mail s c x.source)) f) in
        let asks = asks-acquire c _ of.0 ((s.block of.0).source c) of.1.whole of.1.g mail s of.1.used of.1.wants refl in
        let here : (block_at (64 * of.0) == n) ≡ true =
        cc (of.2, asks, and_right (is_grant x.opcode) (asks_for n (asked_by mail s c x.source)) f) in
        let same : of.0 ≡ n = sym (same_block of.0) ∙ eqb-true (block_at (64 * of.0)) n here in
        ap (λ i. is_granting (view (s.block i).service c)) (sym same) ∙ ap is_granting
        (own_view c of.1.data_too of.1.k (s.block of.0).service of.1.service)
    go beats e f = absurd cc
