-- A beat of channel D that is delivered to a client is taken, and its end is then that of the protocol.
-- What a client is asked for and starts, the protocol allows: its sources are free, and nothing of the block is open.
use Rattle.std.proofs.Common.{◌≡◌, ℕ, ◌+◌, ◌*◌, Bool, true, false, ◌||◌, List, ◌∷◌, Option, Some, None, refl, sym, ◌∙◌}
use Rattle.std.proofs.Common.{ap, subst, arith, length, lit<, eqb-true, pow_pos, map, is_some}
use Rattle.tl_coherence.proofs
use proofs.Imports.{not-false, or_parts, drop_all, Beat, BeatA, BeatD, Channel, OpD, IsWidth, Message, MessageA}
use proofs.Imports.{MessageD, IsBlankAfter, IsZeroFrom, beats_of, burst_of, d_beat_of, data_beats, unfinished}
use proofs.Imports.{completes, Config, AcquireOf, ReleaseOf, ReleaseSource, RequestSource, Level, Cap, Perm, grow_left}
use proofs.Imports.{prune_left, payload-d, whole_block, payload_of, same_perm, block_at, ends, is_grant, is_release_ack}
use proofs.Imports.{pending, request_of, has_transfers, NotBusy, asked-cases, accounted-offered, least_free-some}
use proofs.Imports.{kept-offered, Busy, Op, Reply, Finish, done, free_release, source_or_0, store, EndConfig, Endpoint}
use proofs.Imports.{held_at, with_past, ended, granted, responded, taken, offered, level_of, Acquire, Answer, Grant}
use proofs.Imports.{Kind, Packet, ReleaseAck, AcquireOpen, AcquirePhase, is_whole, Acquires, GrantSent, Replied}
use proofs.Imports.{SourceFree, SourceState, State, grant_taken, is_on, packet, AbstractState, kind_taken, packet_taken}
use proofs.Imports.{taken_by_client, AccessMessages, acquire_of, message_of, message_of_kind, block_message, IsAnswer}
use proofs.Imports.{IsAnswered, IsGivenAsked, IsSourced, SimulationRelation, asked_by, asked_for, block_used, first_of}
use proofs.Imports.{gives_asked, is_caching, request_source, Log, System, terms_at}
use Rattle.tl_client.specs.statement.Ask as ask
use proofs.client.ClientEnd.{IsEnd, end-matched, terms-are, IsWellKept, answer-first, fitting, grant-first, ack-first}
use proofs.client.ClientEnd.{taken-d}
use proofs.client.ClientAsked.{IsEndOf}
use proofs.client.DeliverD.{end-part, end-answer_taken, end-release_ack_taken, end-grant_taken}
use proofs.protocol.{FollowKept.IsAskable, BothParts.calm-is, BothParts.kept-letting}
use proofs.protocol.HeadOfD.{answer-due, IsGrantDue, grant-due, grant_message, grant-rendered, ack-due, ack_message}
use proofs.queues.{Carried.IsNext, FirstToken.IsFirst, FirstToken.first-token, Codes.access_kind}

-- ---- what a client does at a beat of channel D

last_end : {w : ℕ} (y : BeatD w) (e : Endpoint w) → ends (Beat.D y) e.past ≡ true
    → (taken (Beat.D y) e).after ≡ (responded y (request_of y.source e.past)
    (payload_of (Beat.D y ∷ unfinished Channel.D e.past)) e).after
last_end {w} y e last = cc last

ended_plain : {w : ℕ} (o : OpD) (y : BeatD w) (f : Finish) (r : Option (BeatA w)) (payload : List ℕ) (e : Endpoint w)
    → is_grant o ≡ false → (ended o y f (granted o r payload e)).after ≡ e
ended_plain OpD.Grant y f r payload e plain = absurd cc
ended_plain OpD.GrantData y f r payload e plain = absurd cc
ended_plain o y f r payload e plain = refl

plain_end : {w : ℕ} (y : BeatD w) (e : Endpoint w) → ends (Beat.D y) e.past ≡ true → is_grant y.opcode ≡ false
    → (taken (Beat.D y) e).after ≡ with_past (Beat.D y ∷ e.past) e
plain_end y e last plain = last_end y e last ∙ ended_plain y.opcode y _ (request_of y.source e.past)
    (payload_of (Beat.D y ∷ unfinished Channel.D e.past)) (with_past (Beat.D y ∷ e.past) e) plain

-- ---- the end afterwards

-- the beat is taken; the end is that of the protocol as it was, or after its event where the beat is
-- the last of its message
pub record IsTakenBy {w : ℕ} (config : Config) (terms : EndConfig) (tracker c : ℕ) (h : AbstractState w) (x : Beat w)
    (e : Endpoint w) : Type 0 where
  pub takes : offered terms Channel.D x e ≡ taken x e
  pub more : completes x (unfinished Channel.D e.past) ≡ false → IsEndOf c h (taken x e).after
  pub last : completes x (unfinished Channel.D e.past) ≡ true
      → IsEndOf c (packet_taken config tracker c (h.state.link c).d h) (taken x e).after

well-taken : {w : ℕ} (terms : EndConfig) (x : Beat w) {e : Endpoint w} (f : Endpoint w) → IsWidth w
    → offered terms Channel.D x e ≡ taken x e → f ≡ (taken x e).after → IsWellKept e → IsWellKept f
well-taken terms x {e} f width takes is well =
    let same : (offered terms Channel.D x e).after ≡ f = ap (λ o. o.after) takes ∙ sym is in
    subst (λ g. IsWellKept g) same (record {
      kept = kept-offered terms Channel.D x e width well.kept;
      accounted = accounted-offered terms Channel.D x e width well.kept well.accounted;
    })

-- the end before, as the protocol has it
-- what its message tells of a beat
taken-by : {w : ℕ} (config : Config) (terms : EndConfig) (tracker c : ℕ) (h : AbstractState w) (m : MessageD w)
    {ms : List (Message w)} {x : Beat w} {queue : List (Beat w)} (e : Endpoint w) → IsWidth w → IsEndOf c h e
    → IsNext x (unfinished Channel.D e.past) (Message.D m) ms queue → offered terms Channel.D x e ≡ taken x e
    → ((y : BeatD w) → x ≡ Beat.D y → y.opcode ≡ m.opcode → y.source ≡ m.source → y.param ≡ m.param
    → ends (Beat.D y) e.past ≡ true → x ∷ unfinished Channel.D e.past ≡ burst_of (Message.D m)
    → IsWellKept (taken (Beat.D y) e).after → IsEndOf c (packet_taken config tracker c (h.state.link c).d h)
    (taken (Beat.D y) e).after) → IsTakenBy config terms tracker c h x e
taken-by {w} config terms tracker c h m {x} e width end next takes lasts =
    let y : BeatD w = d_beat_of m next.k in
    let x_is : x ≡ Beat.D y = next.beat_is in
    let ends_at : x ≡ Beat.D y → completes x (unfinished Channel.D e.past) ≡ ends (Beat.D y) e.past =
    λ f. ap (λ z. completes z (unfinished Channel.D e.past)) f in
    let well_y : IsWellKept (taken x e).after → IsWellKept (taken (Beat.D y) e).after =
    subst (λ z. IsWellKept (taken z e).after) x_is in
    let well = well-taken terms x (taken x e).after width takes refl end.well in
    record {
      takes = takes;
      more = λ goes. subst (λ z. IsEndOf c h (taken z e).after) (sym x_is)
          (end-part y (cc (sym (ends_at x_is) ∙ goes)) (sym (ends_at x_is) ∙ goes) (well_y well) end);
      last = λ done. rw x_is (lasts y x_is refl refl refl (sym (ends_at x_is) ∙ done)
          (next.last (eqb-true (next.k + 1) (beats_of (Message.D m)) (sym next.completes_is ∙ done))).1 (well_y well));
    }

-- ---- an answer, a Grant, a ReleaseAck

-- the shadow of a world, and what follows of it
abbrev pub shadow_of : {w : ℕ} → AccessMessages w → (ℕ → MessageA w) → State (List ℕ) → AbstractState w
shadow_of mail request s = record { state = s; mail = mail; request = request }

-- with the first token of channel D
taken_token : {w : ℕ} (config : Config) (tracker c : ℕ) (k : Kind) (n : ℕ) (rest : List Packet) (h : AbstractState w)
    (e : Endpoint w) → (h.state.link c).d ≡ packet k n ∷ rest → IsEndOf c (kind_taken config tracker c k n rest h) e
    → IsEndOf c (packet_taken config tracker c (h.state.link c).d h) e
taken_token config tracker c k n rest h e first end = rw first end

pub answer-delivered : {w : ℕ} {config : Config} {log : Log w} {mail : AccessMessages w} {request : ℕ → MessageA w}
    {s : State (List ℕ)} {sys : System w} (terms : EndConfig)
    (tracker c source : ℕ) (rest : List Packet) {ms : List (Message w)} {x : Beat w} {queue : List (Beat w)}
    → IsWidth w → SimulationRelation config log mail request s sys → terms_at config c ≡ Some terms
    → sys.channels c Channel.D ≡ x ∷ queue → (s.link c).d ≡ packet Answer source ∷ rest
    → IsNext x (unfinished Channel.D (sys.clients c).past) (mail.answer c source) ms queue
    → IsTakenBy config terms tracker c (shadow_of mail request s) x (sys.clients c)
answer-delivered {w} {config} {mail} {request} {s} {sys} terms tracker c source rest {ms} {x} {queue} width h at
    beats first next =
    let e : Endpoint w = sys.clients c in
    let due = answer-due (λ i. is_caching config i) c source rest mail s h.invariant (h.answered c source) first in
    let end = end-matched h c in
    let here : IsNext x (unfinished Channel.D e.past) (Message.D due.answer) ms queue =
    subst (λ m. IsNext x (unfinished Channel.D e.past) m ms queue) due.answer_is next in
    let kind = access_kind due.answer.opcode due.answers_access in
    taken-by config terms tracker c (shadow_of mail request s) due.answer e width end here (taken-d terms c
    due.answer h at beats here (answer-first config.profile end due)) (λ y y_is opcode from param last burst well.
    taken_token config tracker c Answer source rest (shadow_of mail request s) (taken (Beat.D y) e).after
    first (end-answer_taken source y rest mail (plain_end y e last (ap is_grant opcode ∙ kind.0)) last
    (ap is_grant opcode ∙ kind.0) (ap is_release_ack opcode ∙ kind.1) (from ∙ due.from) well end))

pub ack-delivered : {w : ℕ} {config : Config} {log : Log w} {mail : AccessMessages w} {request : ℕ → MessageA w}
    {s : State (List ℕ)} {sys : System w} (terms : EndConfig) (tracker c n : ℕ) (rest : List Packet)
    {ms : List (Message w)} {x : Beat w} {queue : List (Beat w)} → IsWidth w
    → SimulationRelation config log mail request s sys → terms_at config c ≡ Some terms
    → sys.channels c Channel.D ≡ x ∷ queue → (s.link c).d ≡ packet ReleaseAck n ∷ rest
    → IsNext x (unfinished Channel.D (sys.clients c).past) (Message.D (ack_message ((s.block n).release_source c))) ms
    queue → IsTakenBy config terms tracker c (shadow_of mail request s) x (sys.clients c)
ack-delivered {w} {config} {mail} {request} {s} {sys} terms tracker c n rest width h at beats
    first next =
    let e : Endpoint w = sys.clients c in
    let m : MessageD w = ack_message ((s.block n).release_source c) in
    let let_ = ack-due c n rest h.invariant first in
    let end = end-matched h c in
    taken-by config terms tracker c (shadow_of mail request s) m e width end next (taken-d terms c m h at
    beats next (ack-first config.profile n mail end let_)) (λ y y_is opcode from param last burst well.
    taken_token config tracker c ReleaseAck n rest (shadow_of mail request s) (taken (Beat.D y) e).after first
    (end-release_ack_taken n y rest mail (plain_end y e last (ap is_grant opcode)) last (ap is_grant opcode)
    (ap is_release_ack opcode) from (ap (s.lets c) from ∙ let_) well end))

grant_blank : {w : ℕ} (data_too : Bool) (k : Cap) (source sink : ℕ) (payload : List ℕ) → IsWidth w → length payload ≡ 64
    → IsBlankAfter (beats_of (Message.D (grant_message {w = w} data_too k source sink payload)))
    (Message.D (grant_message {w = w} data_too k source sink payload))
grant_blank {w} true k source sink payload width long =
    let all : IsZeroFrom (w * data_beats w 6) payload =
    rw (whole_block w width) (drop_all 64 payload (omega (arith, long))) in
    (all, pow_pos (data_beats w 6))
grant_blank false k source sink payload width long = (refl, lit< tt)

-- the bytes of a Grant that carries them
grant_bytes : {w : ℕ} (data_too : Bool) (k : Cap) (source sink : ℕ) (payload : List ℕ) (beats : List (Beat w))
    → IsWidth w → length payload ≡ 64 → beats ≡ burst_of (Message.D (grant_message data_too k source sink payload))
    → data_too ≡ true → payload_of beats ≡ payload
grant_bytes {w} true k source sink payload beats width long burst carries = payload-d (grant_message true k source sink
    payload) beats width long (burst, grant_blank {w = w} true k source sink payload width long)
grant_bytes false k source sink payload beats width long burst carries = absurd cc

pub grant-delivered : {w : ℕ} {config : Config} {log : Log w} {mail : AccessMessages w} {request : ℕ → MessageA w}
    {s : State (List ℕ)} {sys : System w} (terms : EndConfig)
    (tracker c n : ℕ) (rest : List Packet) {ms : List (Message w)} {x : Beat w} {queue : List (Beat w)}
    → IsWidth w → SimulationRelation config log mail request s sys → terms_at config c ≡ Some terms
    → sys.channels c Channel.D ≡ x ∷ queue → (s.link c).d ≡ packet Grant n ∷ rest
    → IsNext x (unfinished Channel.D (sys.clients c).past) (block_message Grant c n (s.block n)) ms queue
    → IsTakenBy config terms tracker c (shadow_of mail request s) x (sys.clients c)
grant-delivered {w} {config} {log} {mail} {request} {s} {sys} terms tracker c n rest {ms} {x}
    {queue} width h at beats first next =
    let fits =
    fitting ((s.block n).pair c).recorded ((s.block n).pair c).held due.data_too due.k due.whole due.g due.fits in
    let e : Endpoint w = sys.clients c in
    let m = grant_message due.data_too due.k ((s.block n).source c) (s.block n).tracker (s.block n).truth in
    let end : IsEnd (asked_by mail s c) c s e = end-matched h c in
    let served : (y : BeatD w) → IsEnd (asked_by mail (grant_taken c n due.whole due.data_too due.k rest s) c)
    c (grant_taken c n due.whole due.data_too due.k rest s) (taken (Beat.D y) e).after
    → IsEndOf c (kind_taken config tracker c Grant n rest (shadow_of mail request s)) (taken (Beat.D y) e).after =
    λ y is. subst (λ i. IsEndOf c (taken_by_client c n i rest (shadow_of mail request s)) (taken (Beat.D y) e).after)
    (sym due.service) (subst (λ i. IsEnd (asked_by mail (grant_taken c n (is_whole i) due.data_too due.k rest s) c) c
    (grant_taken c n (is_whole i) due.data_too due.k rest s) (taken (Beat.D y) e).after) (sym due.wants) is) in
    let here : IsNext x (unfinished Channel.D e.past) (Message.D m) ms queue =
    subst (λ i. IsNext x (unfinished Channel.D e.past) i ms queue) (grant-rendered c n s due) next in
    taken-by config terms tracker c (shadow_of mail request s) m e width end here
    (taken-d terms c m h at beats here (grant-first config.profile mail end due given))
    (λ y y_is opcode from param last burst well. taken_token config tracker c Grant n rest (shadow_of mail request s)
    (taken (Beat.D y) e).after first (served y (end-grant_taken rest mail width h.invariant.named (record {
      opcode = opcode;
      from = from;
      param = param;
      wants = due.wants;
      used = due.used;
      bare = fits.bare;
      has_copy = λ a b. holds_copy due.whole due.data_too ((s.block n).pair c).held a b fits.carried;
      bytes = λ carries. grant_bytes due.data_too due.k ((s.block n).source c) (s.block n).tracker (s.block n).truth _
          width (h.sized n).truth (ap (λ z. z ∷ unfinished Channel.D e.past) (sym y_is) ∙ burst) carries;
    }) (last_end y e last) last well end)))
  where
    due : IsGrantDue c n s
    due = grant-due (λ i. is_caching config i) c n rest s h.invariant first

    given : gives_asked config.profile (AcquireOpen due.whole due.g) due.k ≡ true
    given =
        let all : IsGivenAsked config.profile (GrantSent c due.data_too due.k) (s.block n).pair =
        subst (λ i. IsGivenAsked config.profile i (s.block n).pair) due.service (h.given n) in
        sym (ap (λ i. gives_asked config.profile i due.k) due.wants) ∙ all

    holds_copy : (whole data_too : Bool) (q : Perm) → whole ≡ false → data_too ≡ false
        → (whole || (data_too || same_perm q Perm.Branch)) ≡ true → same_perm q Perm.None ≡ false
    holds_copy false false Perm.Branch a b f = refl
    holds_copy whole data_too q a b f = absurd cc

-- ---- all of channel D

pub ack_next : {w : ℕ} (c n : ℕ) (s : State (List ℕ)) {x : Beat w} {rest : List (Beat w)} {ms : List (Message w)}
    {queue : List (Beat w)} → IsNext x rest (block_message ReleaseAck c n (s.block n)) ms queue
    → IsNext x rest (Message.D (ack_message ((s.block n).release_source c))) ms queue
unfolding block_message
ack_next c n s is = is

pub delivered-d : {w : ℕ} {config : Config} {log : Log w} {mail : AccessMessages w} {request : ℕ → MessageA w}
    {s : State (List ℕ)} {sys : System w} (terms : EndConfig) (tracker c : ℕ) (x : Beat w) (queue : List (Beat w))
    → IsWidth w → SimulationRelation config log mail request s sys → terms_at config c ≡ Some terms
    → sys.channels c Channel.D ≡ x ∷ queue → IsTakenBy config terms tracker c (shadow_of mail request s) x
    (sys.clients c)
delivered-d {w} {config} {log} {mail} {request} {s} {sys} terms tracker c x queue width h at beats =
    go first.kind first.number first.tokens first.own first.next
  where
    first : IsFirst Channel.D c mail s sys x queue
    first = first-token (λ i. is_caching config i) Channel.D c mail s sys x queue width h.invariant h.carried beats

    go : (k : Kind) (i : ℕ) → (s.link c).d ≡ packet k i ∷ first.rest → is_on Channel.D k ≡ true
        → IsNext x (unfinished Channel.D (sys.clients c).past) (message_of_kind k mail s c i)
        (map (message_of mail s c) first.rest) queue
        → IsTakenBy config terms tracker c (shadow_of mail request s) x (sys.clients c)
    go Answer i tokens own next = answer-delivered terms tracker c i _ width h at beats tokens next
    go Grant i tokens own next = grant-delivered terms tracker c i _ width h at beats tokens next
    go ReleaseAck i tokens own next = ack-delivered terms tracker c i _ width h at beats tokens (ack_next c i s next)
    go k i tokens own next = absurd cc

-- ---- sources that are free

-- the request of a use that isn't an Acquire is one
is_request : {w : ℕ} → Message w → Bool
is_request (Message.A m) = true
is_request _ = false

sourced_request : {w : ℕ} (m : Message w) (source : ℕ) → request_source m ≡ Some source → is_request m ≡ true
unfolding is_request
sourced_request m source e = grind arith

answered_request : {w : ℕ} (source : ℕ) (m x : Message w) → IsAnswer source m x → is_request m ≡ true
unfolding is_request
answered_request source m x e = grind arith

asks_something : {w : ℕ} (m : Message w) → is_request m ≡ true → is_some (first_of m) ≡ true
unfolding is_request
asks_something m e = grind arith

pub acquires_something : (w : ℕ) (a : AcquirePhase) (source n : ℕ)
    → is_some (first_of (acquire_of {w = w} a source n)) ≡ true
acquires_something w a source n = grind arith

-- a source that asks for nothing is closed
pub closed-source : {w : ℕ} (config : Config) (c : ℕ) {source : ℕ} (mail : AccessMessages w) (s : State (List ℕ))
    → IsSourced config c source (mail.request c source) (s.uses c source) → IsAnswered source (mail.request c source)
    (mail.answer c source) (s.uses c source) → is_some (asked_by mail s c source) ≡ false → s.uses c source ≡ SourceFree
unfolding block_message
closed-source {w} config c {source} mail s sourced answered none = go (s.uses c source) refl sourced answered none
  where
    go : (u : SourceState) → s.uses c source ≡ u → IsSourced config c source (mail.request c source) u
        → IsAnswered source (mail.request c source) (mail.answer c source) u
        → is_some (asked_for u (mail.request c source)
        (block_message Acquire c (block_used u) (s.block (block_used u)))) ≡ false → u ≡ SourceFree
    go SourceFree e a b f = refl
    go Replied e a b f = absurd (let no : true ≡ false = sym (asks_something (mail.request c source)
        (answered_request source (mail.request c source) (mail.answer c source) b)) ∙ f in cc)
    go (Acquires n) e a b f = absurd (let no : true ≡ false = sym (acquires_something w ((s.block n).pair c).acquiring
        ((s.block n).source c) n) ∙ f in cc)
    go u e a b f = absurd (let no : true ≡ false =
        sym (asks_something (mail.request c source) (sourced_request (mail.request c source) source a.0)) ∙ f in cc)

pub no_let : (o : Option ℕ) → is_some o ≡ false → o ≡ None
no_let o e = grind arith

-- ---- a client with transfers caches

pub caches : (config : Config) (c : ℕ) (l : Level) → level_of config c ≡ Some l → has_transfers l ≡ true
    → is_caching config c ≡ true
caches config c l e f = grind arith

pub swap_perms : (p q : Perm) → same_perm p q ≡ same_perm q p
swap_perms p q = grind arith

-- ---- what is started

busy_may : {w : ℕ} (caching : ℕ → Bool) (c : ℕ) (o : Op w) (b : Busy) (h : AbstractState w)
    → IsAskable caching c o (Reply.Busy b) h
busy_may caching c o b h = grind arith

store_may : {w : ℕ} (caching : ℕ → Bool) (c address size value : ℕ) (p : Perm) (e : Endpoint w) (h : AbstractState w)
    → p ≡ ((h.state.block (block_at address)).pair c).held
    → IsAskable caching c (Op.Store address size value) (store address size value p e).reply h
store_may caching c address size value p e h f = grind arith

-- what is given of a client that is asked
record IsAt {w : ℕ} (config : Config) (c : ℕ) (terms : EndConfig) (h : AbstractState w) (e : Endpoint w) : Type 0 where
  end : IsEnd (asked_by h.mail h.state c) c h.state e
  level_is : level_of config c ≡ Some terms.level
  closes : (source : ℕ) → is_some (asked_by h.mail h.state c source) ≡ false → h.state.uses c source ≡ SourceFree

free_use : {w : ℕ} {config : Config} {c : ℕ} (source : ℕ) {terms : EndConfig} {h : AbstractState w} {e : Endpoint w}
    → IsAt config c terms h e → pending (RequestSource source) e.past ≡ false → h.state.uses c source ≡ SourceFree
free_use source at free = at.closes source (sym (at.end.knows.1.requests source) ∙ free)

done_may : {w : ℕ} {config : Config} {c : ℕ} {terms : EndConfig} (o : Op w) {h : AbstractState w} {e : Endpoint w}
    → IsAt config c terms h e → NotBusy terms o e → IsAskable (is_caching config) c o (done terms o e).reply h
done_may {config} {c} (Op.Store address size value) {h} {e} at free = store_may (is_caching config) c address size value
    _ e h (at.end.knows.0.held_is (block_at address))
done_may {config} {c} {terms} (Op.Acquire n g) {h} {e} at free =
    let idle = or_parts (pending (AcquireOf n) e.past) (pending (ReleaseOf n) e.past) free.b2 in (
      caches config c terms.level at.level_is (not-false (has_transfers terms.level) free.b4),
      free_use _ at (least_free-some (λ s. pending (RequestSource s) e.past) 0 terms.sources free.b1).0,
      calm-is _ (sym (at.end.knows.0.acquires n) ∙ idle.0),
      kept-letting _ (sym (at.end.knows.0.releases n) ∙ idle.1),
      cc (at.end.knows.0.held_is n, not-false (same_perm (grow_left g) (held_at e n)) free.b3),
    )
done_may {config} {c} {terms} (Op.AcquireWhole n bytes) {h} {e} at free =
    let idle = or_parts (pending (AcquireOf n) e.past) (pending (ReleaseOf n) e.past) free.b2 in
    let fact = caches config c _ at.level_is (not-false (has_transfers terms.level) free.b4) in
    let other_fact = free_use _ at
    (least_free-some (λ s. pending (RequestSource s) e.past) 0 terms.sources free.b1).0 in
    let third_fact = calm-is _ (sym (at.end.knows.0.acquires n) ∙ idle.0) in
    let fourth_fact = kept-letting _ (sym (at.end.knows.0.releases n) ∙ idle.1) in
    (fact, other_fact, third_fact, fourth_fact, ap (same_perm Perm.Trunk) (sym (at.end.knows.0.held_is n)) ∙ free.b3)
done_may {config} {c} {terms} (Op.Release n r) {h} {e} at free =
    let idle = or_parts (pending (AcquireOf n) e.past) (pending (ReleaseOf n) e.past) free.b2 in
    let source = source_or_0 (free_release terms e.past) in (
      caches config c terms.level at.level_is (not-false (has_transfers terms.level) free.b4),
      no_let _ (sym (at.end.knows.1.releases source)
          ∙ (least_free-some (λ s. pending (ReleaseSource s) e.past) 0 terms.sources free.b1).0),
      calm-is _ (sym (at.end.knows.0.acquires n) ∙ idle.0),
      kept-letting _ (sym (at.end.knows.0.releases n) ∙ idle.1),
      swap_perms ((h.state.block n).pair c).held (prune_left r) ∙ ap (same_perm (prune_left r))
          (sym (at.end.knows.0.held_is n)) ∙ not-false (same_perm (prune_left r) (held_at e n)) free.b3,
    )
done_may {terms} (Op.Access (Message.A m)) {e} at free = free_use _ at
    (least_free-some (λ s. pending (RequestSource s) e.past) 0 terms.sources free.b1).0
done_may o at free = tt

-- What a client answers to an operation, the protocol allows.
pub askable : {w : ℕ} {config : Config} {log : Log w} {mail : AccessMessages w} {request : ℕ → MessageA w}
    {s : State (List ℕ)} {sys : System w} (terms : EndConfig) (c : ℕ) (o : Op w)
    → SimulationRelation config log mail request s sys → terms_at config c ≡ Some terms
    → IsAskable (is_caching config) c o (ask.asked terms o (sys.clients c)).reply (shadow_of mail request s)
askable {config} {mail} {request} {s} {sys} terms c o h at = asked-cases terms o (sys.clients c)
    (λ x. IsAskable (is_caching config) c o x.reply (shadow_of mail request s)) (λ b. busy_may (is_caching config) c o
    b (shadow_of mail request s)) (done_may {config = config} {c = c} {terms = terms} o {h = (shadow_of mail request s)}
    {e = (sys.clients c)} (record {
      end = end-matched h c;
      level_is = (terms-are config c terms at).level;
      closes = λ source none. closed-source config c mail s (h.sourced c source) (h.answered c source) none;
    }))
