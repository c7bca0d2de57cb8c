-- A sink is pending only of an Acquire in service.
use Rattle.tl_manager.proofs.Imports.{IsWidth, Beat, BeatA, BeatC, BeatE, Link, Message, A, B, C, D, E, MessageD}
use Rattle.tl_manager.proofs.Imports.{beats_of, beat_of, begun, History, channel_of, unfinished, beats-positive, Config}
use Rattle.tl_manager.proofs.Imports.{GrantSink, sent, Trace, on_link, begins, ends, pending, is_grant, is_acquire}
use Rattle.tl_manager.proofs.Imports.{Handed, with_handed, Each, is_granting, Service, is_access_answer, is_ended_by}
use Rattle.tl_manager.proofs.Imports.{with_service, services_after, services, is_from_client, pending-sent_b}
use Rattle.tl_manager.proofs.Imports.{pending-sent_d, IsWhole}
use Rattle.std.proofs.Common.{◌≡◌, ℕ, zero, suc, ◌==◌, Bool, true, false, not, cond, ◌&&◌, ◌||◌, List, [], ◌∷◌, ◌++◌}
use Rattle.std.proofs.Common.{map, Option, Some, None, refl, sym, ap, subst, ◌∙◌, inl, inr}
use Rattle.std.specs.Prelude.{filter, if◌then◌else◌, ⊤}
use Rattle.std.proofs.lemmas.Bool.{or_cases, and_parts, eqb-true, eq-eqb, ne_eqb, true≢false}
use Rattle.tl_manager.proofs.pending.Handed.{after_sent, own_link, other_link, whole-after_sent}
use Rattle.tl_manager.{proofs.messages.Lawful.IsHandable, proofs.words_of_clients.Lists.each_weaker}
use Rattle.tl_rules.proofs.Tables.{neither}

-- the Acquire of this client that has this tracker
abbrev pub grants_by : {w : ℕ} → ℕ → ℕ → Service w → Bool
grants_by client sink s = is_acquire s.request.opcode && ((s.link.0 == client) && (s.tracker == sink))

-- ---- services that go on

-- an element that a filter keeps
kept_by : {w : ℕ} (client sink : ℕ) (test : Service w → Bool) (ss : List (Service w))
    → ((s : Service w) → grants_by client sink s ≡ true → test s ≡ true) → is_granting client sink ss ≡ true
    → is_granting client sink (filter test ss) ≡ true
kept_by client sink test [] keeps e = e
kept_by {w} client sink test (s ∷ ss) keeps e = elim (or_cases (grants_by client sink s) (is_granting client sink ss) e) [
  | inl here ↦ rw (keeps s here, here) refl
  | inr later ↦ go (test s) (kept_by client sink test ss keeps later)
]
  where
    go : (b : Bool) → is_granting client sink (filter test ss) ≡ true
        → is_granting client sink (cond b (s ∷ filter test ss) (filter test ss)) ≡ true
    go true rest = second (grants_by client sink s) rest
      where
        second : (b : Bool) {c : Bool} → c ≡ true → (b || c) ≡ true
        second true e = refl
        second false e = e
    go false rest = rest

-- any other beat than a request's
abbrev pub is_request : {w : ℕ} → Beat w → Bool
is_request (Beat.A x) = true
is_request _ = false

goes_on : {w : ℕ} (client sink : ℕ) (x : Link × Beat w) (ss : List (Service w)) (last : Bool)
    → ((s : Service w) → grants_by client sink s ≡ true → is_ended_by x s ≡ false)
    → is_granting client sink ss ≡ true
    → is_granting client sink (if last then filter (λ s. not (is_ended_by x s)) ss else ss) ≡ true
goes_on client sink x ss true keeps e = kept_by client sink (λ s. not (is_ended_by x s)) ss
    (λ s by. rw (keeps s by) refl) e
goes_on client sink x ss false keeps e = e

granting-beat : {w : ℕ} (client sink : ℕ) (x : Link × Beat w) (t : Trace w) → is_request x.1 ≡ false
    → ((s : Service w) → grants_by client sink s ≡ true → is_ended_by x s ≡ false)
    → is_granting client sink (services t) ≡ true → is_granting client sink (services (x ∷ t)) ≡ true
unfolding services
granting-beat client sink (link, Beat.A x) t other keeps e = absurd cc
granting-beat client sink (link, Beat.B x) t other keeps e =
    goes_on client sink (link, Beat.B x) (services t) (ends (Beat.B x) (on_link link.0 t)) keeps e
granting-beat client sink (link, Beat.C x) t other keeps e =
    goes_on client sink (link, Beat.C x) (services t) (ends (Beat.C x) (on_link link.0 t)) keeps e
granting-beat client sink (link, Beat.D x) t other keeps e =
    goes_on client sink (link, Beat.D x) (services t) (ends (Beat.D x) (on_link link.0 t)) keeps e
granting-beat client sink (link, Beat.E x) t other keeps e =
    goes_on client sink (link, Beat.E x) (services t) (ends (Beat.E x) (on_link link.0 t)) keeps e

-- one more service
more_granting : {w : ℕ} (client sink : ℕ) (o : Option (Service w)) (ss : List (Service w))
    → is_granting client sink ss ≡ true → is_granting client sink (with_service o ss) ≡ true
more_granting client sink None ss e = e
more_granting {w} client sink (Some s) ss e = go (grants_by client sink s)
  where
    go : (b : Bool) → (b || is_granting client sink ss) ≡ true
    go true = refl
    go false = e

granting-request : {w : ℕ} (client sink : ℕ) (link : Link) (x : BeatA w) (t : Trace w)
    → is_granting client sink (services t) ≡ true → is_granting client sink (services ((link, Beat.A x) ∷ t)) ≡ true
unfolding services
granting-request {w} client sink link x t e = go (ends (Beat.A x) (on_link link.0 t))
  where
    go : (b : Bool) → is_granting client sink
        (if b then services_after (link, Beat.A x) (unfinished (channel_of (Beat.A x)) (on_link link.0 t)) (services t)
        else services t) ≡ true
    go true = more_granting client sink _ (services t) e
    go false = e

no_access : (a b c acquires : Bool) → acquires ≡ true → (a && (b && (not acquires && c))) ≡ false
no_access true true c true e = refl
no_access true false c true e = refl
no_access false b c true e = refl
no_access a b c false e = absurd cc

-- an answer to an access ends no Acquire
not_answered : {w : ℕ} (client sink : ℕ) (link : Link) (m : MessageD w) (i : ℕ) (s : Service w)
    → grants_by client sink s ≡ true → is_ended_by (link, beat_of (D m) i) s ≡ false
not_answered client sink link m i s by =
    no_access (s.link.0 == link.0) (is_access_answer m.opcode) (s.request.source == m.source)
    (is_acquire s.request.opcode) (and_parts (is_acquire s.request.opcode) _ by).0

ours_go_on : {w : ℕ} (client sink : ℕ) (link : Link) (m : Message w) (n : ℕ) (t : Trace w)
    → is_from_client (beat_of m 0) ≡ false → is_granting client sink (services t) ≡ true
    → is_granting client sink (services (map (λ b. (link, b)) (begun m n) ++ t)) ≡ true
ours_go_on client sink link m zero t ours e = e
ours_go_on client sink link (B m) (suc n) t ours e =
    granting-beat client sink (link, beat_of (B m) n) (map (λ b. (link, b)) (begun (B m) n) ++ t) refl (λ s by. refl)
    (ours_go_on client sink link (B m) n t ours e)
ours_go_on client sink link (D m) (suc n) t ours e =
    granting-beat client sink (link, beat_of (D m) n) (map (λ b. (link, b)) (begun (D m) n) ++ t) refl
    (λ s by. not_answered client sink link m n s by) (ours_go_on client sink link (D m) n t ours e)
ours_go_on client sink link v (suc n) t ours e = absurd cc

-- ---- what is pending after a client's beat

abbrev pub AreTracked : {w : ℕ} → Trace w → Type 0
AreTracked t = (client sink : ℕ) → pending (GrantSink sink) (on_link client t) ≡ true
    → is_granting client sink (services t) ≡ true

still : (first last closed before : Bool) → (if first && false then true else if last && closed then false else before)
    ≡ true → (before ≡ true) × ((last && closed) ≡ false)
still true true true before e = absurd cc
still false true true before e = absurd cc
still v u y before e = (e, refl)

-- a beat that moves no sink
pending_before : {w : ℕ} (client sink : ℕ) (link : Link) (x : Beat w) (t : Trace w)
    → ((h : History w) → pending (GrantSink sink) (x ∷ h) ≡ pending (GrantSink sink) h)
    → pending (GrantSink sink) (on_link client ((link, x) ∷ t)) ≡ pending (GrantSink sink) (on_link client t)
unfolding on_link
pending_before {w} client sink link x t same = go (link.0 == client)
  where
    go : (b : Bool) → pending (GrantSink sink) (if b then x ∷ on_link client t else on_link client t) ≡ pending
        (GrantSink sink) (on_link client t)
    go true = same (on_link client t)
    go false = refl

moves_none_a : {w : ℕ} (sink : ℕ) (x : BeatA w) (h : History w) → pending (GrantSink sink) (Beat.A x ∷ h) ≡ pending
    (GrantSink sink) h
unfolding pending
moves_none_a sink x h = neither (begins (Beat.A x) h) (ends (Beat.A x) h) (pending (GrantSink sink) h)

moves_none_c : {w : ℕ} (sink : ℕ) (x : BeatC w) (h : History w) → pending (GrantSink sink) (Beat.C x ∷ h) ≡ pending
    (GrantSink sink) h
unfolding pending
moves_none_c sink x h = neither (begins (Beat.C x) h) (ends (Beat.C x) h) (pending (GrantSink sink) h)

after_ack : {w : ℕ} (sink : ℕ) (x : BeatE) (h : History w) → pending (GrantSink sink) (Beat.E x ∷ h) ≡ true
    → (pending (GrantSink sink) h ≡ true)
    × ((ends {w = w} (Beat.E x) h && (x.sink == sink)) ≡ false)
unfolding pending
after_ack {w} sink x h e = still (begins {w = w} (Beat.E x) h) (ends {w = w} (Beat.E x) h) (x.sink == sink)
    (pending (GrantSink sink) h) e

-- a GrantAck of another link, and of another sink, leaves the service
other_link_ack : {w : ℕ} (client sink : ℕ) (link : Link) (x : BeatE) (s : Service w) → (link.0 == client) ≡ false
    → grants_by client sink s ≡ true → is_ended_by (link, Beat.E x) s ≡ false
other_link_ack client sink link x s other by =
    let mine = (and_parts (s.link.0 == client) (s.tracker == sink) (and_parts (is_acquire s.request.opcode) _ by).1).0
    in
    let away : (s.link.0 == link.0) ≡ false =
    ne_eqb s.link.0 link.0 (λ e. true≢false (sym (eq-eqb link.0 client (sym e ∙ eqb-true s.link.0 client mine))
    ∙ other)) in
    rw away refl

other_sink_ack : {w : ℕ} (client sink : ℕ) (link : Link) (x : BeatE) (s : Service w) → (x.sink == sink) ≡ false
    → grants_by client sink s ≡ true → is_ended_by (link, Beat.E x) s ≡ false
other_sink_ack client sink link x s other by =
    let mine = (and_parts (s.link.0 == client) (s.tracker == sink) (and_parts (is_acquire s.request.opcode) _ by).1).1
    in
    let away : (s.tracker == x.sink) ≡ false =
    ne_eqb s.tracker x.sink (λ e. true≢false (sym (eq-eqb x.sink sink (sym e ∙ eqb-true s.tracker sink mine))
    ∙ other)) in
    rw away (two (s.link.0 == link.0) (is_acquire s.request.opcode))
  where
    two : (a b : Bool) → (a && (b && false)) ≡ false
    two true true = refl
    two v u = refl

own_ack : {w : ℕ} (sink : ℕ) (link : Link) (x : BeatE) (t : Trace w) → AreTracked t
    → pending (GrantSink sink) (Beat.E x ∷ on_link link.0 t) ≡ true
    → is_granting link.0 sink (services ((link, Beat.E x) ∷ t)) ≡ true
unfolding services
own_ack {w} sink link x t tracked e =
    let p = after_ack sink x (on_link link.0 t) e in
    go (ends {w = w} (Beat.E x) (on_link link.0 t)) p.1 (tracked link.0 sink p.0)
  where
    go : (b : Bool) → (b && (x.sink == sink)) ≡ false → is_granting link.0 sink (services t) ≡ true
        → is_granting link.0 sink (if b then filter (λ s. not (is_ended_by (link, Beat.E x) s)) (services t) else
        services t) ≡ true
    go true other before = kept_by link.0 sink (λ s. not (is_ended_by (link, Beat.E x) s)) (services t)
        (λ s by. rw (other_sink_ack link.0 sink link x s other by) refl) before
    go false other before = before

taken_ack : {w : ℕ} (client sink : ℕ) (link : Link) (x : BeatE) (t : Trace w) → AreTracked t
    → pending (GrantSink sink) (on_link client ((link, Beat.E x) ∷ t)) ≡ true
    → is_granting client sink (services ((link, Beat.E x) ∷ t)) ≡ true
unfolding on_link
taken_ack {w} client sink link x t tracked e = go (link.0 == client) refl e
  where
    go : (b : Bool) → (link.0 == client) ≡ b
        → pending (GrantSink sink) (if b then Beat.E x ∷ on_link client t else on_link client t) ≡ true
        → is_granting client sink (services ((link, Beat.E x) ∷ t)) ≡ true
    go true here f =
        let same = eqb-true link.0 client here in
        subst (λ (n : ℕ). is_granting n sink (services ((link, Beat.E x) ∷ t)) ≡ true) same
        (own_ack sink link x t tracked (ap (λ n. pending (GrantSink sink) (Beat.E x ∷ on_link n t)) same ∙ f))
    go false other f = granting-beat client sink (link, Beat.E x) t refl
        (λ s by. other_link_ack client sink link x s other by) (tracked client sink f)

-- each pending sink is still tracked after a client's beat
pub tracked-taken : {w : ℕ} (link : Link) (x : Beat w) (t : Trace w) → is_from_client x ≡ true → AreTracked t
    → AreTracked ((link, x) ∷ t)
tracked-taken link (Beat.A x) t theirs tracked =
    λ client sink e. granting-request client sink link x t
    (tracked client sink (sym (pending_before client sink link (Beat.A x) t (λ h. moves_none_a sink x h)) ∙ e))
tracked-taken link (Beat.C x) t theirs tracked =
    λ client sink e. granting-beat client sink (link, Beat.C x) t refl (λ s by. refl)
    (tracked client sink (sym (pending_before client sink link (Beat.C x) t (λ h. moves_none_c sink x h)) ∙ e))
tracked-taken link (Beat.E x) t theirs tracked = λ client sink e. taken_ack client sink link x t tracked e
tracked-taken link v t theirs tracked = absurd cc

-- ---- after messages were handed out

-- a Grant has the tracker of an Acquire of its client that is in service as its sink
abbrev pub IsGranted : {w : ℕ} → List (Service w) → Link × Message w → Type 0
IsGranted ss (link, D m) = is_grant m.opcode ≡ true → is_granting link.0 m.sink ss ≡ true
IsGranted ss _ = ⊤

sent_sink : {w : ℕ} (link : Link) (m : Message w) (sink : ℕ) (t : Trace w) → IsWidth w
    → is_from_client (beat_of m 0) ≡ false → IsWhole (on_link link.0 t) → IsGranted (services t) (link, m)
    → AreTracked t → pending (GrantSink sink) (sent m (on_link link.0 t)) ≡ true
    → is_granting link.0 sink (services t) ≡ true
sent_sink link (A m) sink t width ours ok granted tracked e = absurd cc
sent_sink link (B m) sink t width ours ok granted tracked e =
    tracked link.0 sink (sym (pending-sent_b (GrantSink sink) m (on_link link.0 t) ok.0 (beats-positive (B m) width))
    ∙ e)
sent_sink link (C m) sink t width ours ok granted tracked e = absurd cc
sent_sink {w} link (D m) sink t width ours ok granted tracked e =
    go (is_grant m.opcode) (m.sink == sink) granted refl
    (sym (pending-sent_d (GrantSink sink) m (on_link link.0 t) ok.1 (beats-positive (D m) width)) ∙ e)
  where
    go : (b c : Bool) → (b ≡ true → is_granting link.0 m.sink (services t) ≡ true) → (m.sink == sink) ≡ c
        → (if b && c then true else pending (GrantSink sink) (on_link link.0 t)) ≡ true
        → is_granting link.0 sink (services t) ≡ true
    go true true has same f = subst (λ (n : ℕ). is_granting link.0 n (services t) ≡ true) (eqb-true m.sink sink same)
        (has refl)
    go v u has same f = tracked link.0 sink f
sent_sink link (E m) sink t width ours ok granted tracked e = absurd cc

tracked-sent : {w : ℕ} (link : Link) (m : Message w) (t : Trace w) → IsWidth w → is_from_client (beat_of m 0) ≡ false
    → ((client : ℕ) → IsWhole (on_link client t))
    → IsGranted (services t) (link, m) → AreTracked t → AreTracked (after_sent link m t)
tracked-sent {w} link m t width ours ok granted tracked = λ client sink e. ours_go_on client sink link m (beats_of m) t
    ours (go client sink (link.0 == client) refl e)
  where
    go : (client sink : ℕ) (b : Bool) → (link.0 == client) ≡ b
        → pending (GrantSink sink) (on_link client (after_sent link m t)) ≡ true
        → is_granting client sink (services t) ≡ true
    go client sink true here e =
        let same = eqb-true link.0 client here in
        subst (λ (n : ℕ). is_granting n sink (services t) ≡ true) same
        (sent_sink link m sink t width ours (ok link.0) granted tracked
        (ap (pending (GrantSink sink)) (sym (own_link link.0 link m t (eq-eqb link.0 link.0 refl))) ∙ ap
        (λ n. pending (GrantSink sink) (on_link n (after_sent link m t))) same ∙ e))
    go client sink false other e =
        tracked client sink (ap (pending (GrantSink sink)) (sym (other_link client link m t other)) ∙ e)

granted_still : {w : ℕ} (x : Link × Message w) (link : Link) (m : Message w) (t : Trace w)
    → is_from_client (beat_of m 0) ≡ false → IsGranted (services t) x
    → IsGranted (services (after_sent link m t)) x
granted_still (to, A y) link m t ours granted = tt
granted_still (to, B y) link m t ours granted = tt
granted_still (to, C y) link m t ours granted = tt
granted_still (to, D y) link m t ours granted = λ e. ours_go_on to.0 y.sink link m (beats_of m) t ours (granted e)
granted_still (to, E y) link m t ours granted = tt

pub tracked-handed : {w : ℕ} (config : Config) (handed : Handed w) (t : Trace w) → IsWidth w
    → Each (IsHandable config) handed → ((client : ℕ) → IsWhole (on_link client t))
    → Each (IsGranted (services t)) handed → AreTracked t → AreTracked (with_handed handed t)
unfolding with_handed
tracked-handed config [] t width each ok granted tracked = tracked
tracked-handed config (x ∷ handed) t width each ok granted tracked =
    tracked-handed config handed (after_sent x.0 x.1 t) width each.1
    (λ client. whole-after_sent client x.0 x.1 t width each.0.ours (ok client))
    (each_weaker (IsGranted (services t)) (IsGranted (services (after_sent x.0 x.1 t))) handed
    (λ y g. granted_still y x.0 x.1 t each.0.ours g) granted.1)
    (tracked-sent x.0 x.1 t width each.0.ours ok granted.0 tracked)
