-- The request in service with a source on a link is that of a tracker.
use Rattle.tl_manager.proofs.Imports.{Link, MessageA, unfinished, RequestSource, Trace, on_link, comes_in_request}
use Rattle.tl_manager.proofs.Imports.{block_at, pending, request_of, Each, one_if, count_where, is_granted, HasFields}
use Rattle.tl_manager.proofs.Imports.{Service, services, service_of_block, service_with, IsTracked, tracker_at, Tracker}
use Rattle.tl_manager.proofs.Imports.{Free, Probing, Granted}
use Rattle.std.proofs.Common.{◌≡◌, ℕ, ◌+◌, ◌<◌, ◌==◌, Bool, true, false, ◌&&◌, ◌||◌, List, [], ◌∷◌, Option, Some, None}
use Rattle.std.proofs.Common.{is_some, refl, sym, ap, subst, ◌∙◌, arith}
use Rattle.std.proofs.lemmas.Bool.{eqb-true, eq-eqb, and_parts}
use Rattle.tl_beat.specs.declared.channel.Channel.{Channel}
use Rattle.tl_rules.specs.code.Open.{open_request, request_fields}
use Rattle.tl_manager.specs.laws.Pending
use Rattle.tl_manager.{specs.laws.Pending.is_any, specs.code.Trackers.IsAsked, specs.code.Tracking.request_in}
use Rattle.tl_manager.{specs.declared.manager.tracker.Trackers.Trackers, proofs.services.Serving.tracker_among}
use Rattle.tl_manager.{proofs.services.Serving.one_tracker, proofs.pending.Sources.source-pending}
use Rattle.tl_manager.{proofs.pending.Sources.served-each, proofs.pending.Looking.AreLooked}
use Rattle.tl_manager.specs.code.Tracking
use Rattle.tl_manager.proofs.words_of_clients.Counts.{one_at_most, count-served}

-- ---- sources

unasking : {w : ℕ} (trackers : Trackers w) (client source : ℕ) (t : Trace w) → AreLooked trackers t
    → ((i : ℕ) → Tracking.serves_source client source (tracker_at trackers i) ≡ false)
    → is_any (Pending.is_asking client source t) (services t) ≡ false
unasking {w} trackers client source t are none =
    all (services t) (served-each (λ v. Pending.is_asking client source t v ≡ false) (services t) are.blocks_apart each)
  where
    all : (vs : List (Service w)) → Each (λ v. Pending.is_asking client source t v ≡ false) vs
        → is_any (Pending.is_asking client source t) vs ≡ false
    all [] e = refl
    all (v ∷ vs) e = rw e.0 (all vs e.1)

    never : (a b : Bool) → (a && (b && false)) ≡ false
    never true true = refl
    never v u = refl

    drop : (a b : Bool) → (a && b) ≡ false → (a && (b && true)) ≡ false
    drop true true e = absurd cc
    drop v u e = refl

    go : (k : ℕ) (v : Service w) (x : Tracker w) → service_of_block k (services t) ≡ Some v → IsTracked v.tracker x t
        → Tracking.serves_source client source x ≡ false → Pending.is_asking client source t v ≡ false
    go k v Free e is f = absurd (let among = tracker_among k (services t) v e in cc)
    go k v (Probing link request missing) e is f =
        let same = one_tracker k (block_at request.address) (services t) v (service_with v.tracker link request)
        are.trackers_apart e is.serves refl in
        ap (Pending.is_asking client source t) same ∙ rw is.unanswered
        (drop (link.0 == client) (request.source == source) f)
    go k v (Granted link block) e is f =
        let same = one_tracker k block (services t) v (service_with v.tracker link is.request) are.trackers_apart e
        is.serves refl in
        ap (Pending.is_asking client source t) same ∙ rw is.granted
        (never (link.0 == client) (is.request.source == source))

    each : (k : ℕ) (v : Service w) → service_of_block k (services t) ≡ Some v
        → Pending.is_asking client source t v ≡ false
    each k v e = go k v (tracker_at trackers v.tracker) e (are.tracked v.tracker) (none v.tracker)

-- the request that has the source, and its fields
asked-at : {w : ℕ} (n client source : ℕ) (tracker : Tracker w) (request : MessageA w) (t : Trace w)
    → IsTracked n tracker t → Tracking.serves_source client source tracker ≡ true
    → request_in tracker ≡ Some request
    → (link : Link) × (service_of_block (block_at request.address) (services t) ≡ Some (service_with n link request))
    × (is_granted t (service_with n link request) ≡ false) × (link.0 ≡ client) × (request.source ≡ source)
asked-at n client source Free request t is e f = absurd cc
asked-at n client source (Granted link k) request t is e f = absurd cc
asked-at {w} n client source (Probing link asked missing) request t is e f =
    let same : asked ≡ request = cc in
    let p = and_parts (link.0 == client) (asked.source == source) e in
    subst (λ (r : MessageA w). (l : Link)
    × (service_of_block (block_at r.address) (services t) ≡ Some (service_with n l r))
    × (is_granted t (service_with n l r) ≡ false) × (l.0 ≡ client) × (r.source ≡ source)) same
    (link, is.serves, is.unanswered, eqb-true link.0 client p.0, eqb-true asked.source source p.1)

asking-served : {w : ℕ} (n client source : ℕ) (link : Link) (request : MessageA w) (t : Trace w)
    → is_granted t (service_with n link request) ≡ false → link.0 ≡ client
    → request.source ≡ source → Pending.is_asking client source t (service_with n link request) ≡ true
asking-served n client source link request t e f g = rw (eq-eqb link.0 client f, eq-eqb request.source source g, e) refl

-- a source is pending where the unfinished request has it, or one is asked with it
pub source-looked : {w : ℕ} (trackers : Trackers w) (client source : ℕ) (o : Option (MessageA w)) (t : Trace w)
    → AreLooked trackers t → IsAsked trackers client source o
    → (comes_in_request source (unfinished Channel.A (on_link client t)) || is_some o) ≡ pending (RequestSource source)
    (on_link client t)
source-looked {w} trackers client source o t are asked =
    ap (λ b. comes_in_request source (unfinished Channel.A (on_link client t)) || b) (go o asked) ∙ sym
    (source-pending client source t are.accounted)
  where
    count_any : (f : Service w → Bool) (vs : List (Service w)) → 0 < count_where f vs → is_any f vs ≡ true
    count_any f [] lt = absurd (omega (arith, lt))
    count_any f (v ∷ vs) lt = here (f v) (λ l. count_any f vs l) lt
      where
        here : (b : Bool) → (0 < count_where f vs → is_any f vs ≡ true) → 0 < one_if b + count_where f vs
            → (b || is_any f vs) ≡ true
        here true rest l = refl
        here false rest l = rest (omega (arith, l))

    go : (x : Option (MessageA w)) → IsAsked trackers client source x
        → is_some x ≡ is_any (Pending.is_asking client source t) (services t)
    go None none = sym (unasking trackers client source t are none)
    go (Some request) found =
        let is = asked-at found.0 client source (tracker_at trackers found.0) request t (are.tracked found.0) found.1
        found.2 in
        let asks : Pending.is_asking client source t (service_with found.0 is.0 request) ≡ true =
        asking-served found.0 client source is.0 request t is.2 is.3 is.4 in
        sym (count_any (Pending.is_asking client source t) (services t)
        (count-served (block_at request.address) (Pending.is_asking client source t) (services t)
        (service_with found.0 is.0 request) is.1 asks))

-- what an answer depends on of the request with this source
pub request-unasked : {w : ℕ} (trackers : Trackers w) (client source : ℕ) (t : Trace w) → AreLooked trackers t
    → IsAsked trackers client source None → None ≡ open_request source (on_link client t)
request-unasked {w} trackers client source t are asked =
    go (comes_in_request source (unfinished Channel.A (on_link client t))) refl
    (source-looked trackers client source None t are asked)
  where
    go : (b : Bool) → comes_in_request source (unfinished Channel.A (on_link client t)) ≡ b
        → (b || false) ≡ pending (RequestSource source) (on_link client t)
        → None ≡ open_request source (on_link client t)
    go true e f = rw (sym f, e) refl
    go false e f = rw (sym f) refl

fields-read : {w : ℕ} (request : MessageA w) (o : Option _)
    → HasFields {w = w} request.opcode request.param request.size request.source request.address o
    → Some (record {
      opcode = request.opcode;
      param = request.param;
      size = request.size;
      block =
          block_at request.address;
    }) ≡ request_fields o
fields-read request None is = absurd is
fields-read request (Some x) is = rw (is.0, is.1, is.2, is.4) refl

pub request-asked : {w : ℕ} (trackers : Trackers w) (client source : ℕ) (request : MessageA w) (t : Trace w)
    → AreLooked trackers t → IsAsked trackers client source (Some request)
    → Some (record {
      opcode = request.opcode;
      param = request.param;
      size = request.size;
      block =
          block_at request.address;
    }) ≡ open_request source (on_link client t)
request-asked {w} trackers client source request t are found =
    fields-read request (request_of source (on_link client t)) fields
    ∙ sym (go (pending (RequestSource source) (on_link client t))
    (comes_in_request source (unfinished Channel.A (on_link client t))) refl refl)
  where
    is : (link : Link) × (service_of_block (block_at request.address) (services t) ≡ Some
        (service_with found.0 link request))
        × (is_granted t (service_with found.0 link request) ≡ false) × (link.0 ≡ client) × (request.source ≡ source)
    is = asked-at found.0 client source (tracker_at trackers found.0) request t (are.tracked found.0) found.1 found.2

    fields : HasFields request.opcode request.param request.size request.source request.address
        (request_of source (on_link client t))
    fields =
        let named = (subst (Pending.IsNamed (block_at request.address) t) is.1
        (are.accounted.blocks (block_at request.address)).named).0 is.2 in
        subst (λ i. HasFields request.opcode request.param request.size request.source request.address
        (request_of i (on_link client t))) is.4
        (subst (λ i. HasFields request.opcode request.param request.size request.source request.address
        (request_of request.source (on_link i t))) is.3 named)

    go : (p b : Bool) → pending (RequestSource source) (on_link client t) ≡ p
        → comes_in_request source (unfinished Channel.A (on_link client t)) ≡ b
        → open_request source (on_link client t) ≡ request_fields (request_of source (on_link client t))
    go true false e f = rw (e, f) refl
    go p true e f =
        let total = are.accounted.sources client source in
        let most = one_at_most (pending (RequestSource source) (on_link client t)) in
        let some = count-served (block_at request.address) (Pending.is_asking client source t) (services t)
        (service_with found.0 is.0 request) is.1
        (asking-served found.0 client source is.0 request t is.2 is.3 is.4) in
        let here : one_if (comes_in_request source (unfinished Channel.A (on_link client t))) ≡ 1 = rw f refl in
        absurd (omega (arith, total, most, some, here))
    go false false e f =
        let asked = source-looked trackers client source (Some request) t are found in
        absurd (let pends : pending (RequestSource source) (on_link client t) ≡ true = sym asked ∙ rw f refl in cc)
