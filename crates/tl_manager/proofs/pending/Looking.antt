-- What is pending on a link, and which messages are open, read off the trackers.
use Rattle.tl_manager.proofs.Imports.{Link, MessageA, AcquireOf, GrantSink, GrantAckOf, ProbeOf, Trace, on_link}
use Rattle.tl_manager.proofs.Imports.{block_at, is_acquire, pending, is_one_of, Each, AreApart, blocks_of, is_granted}
use Rattle.tl_manager.proofs.Imports.{IsAccounted, IsProbed, Service, services, service_of_block, trackers_of}
use Rattle.tl_manager.proofs.Imports.{service_with, IsTracked, tracker_at, is_of, Tracker, Free, Probing, Granted}
use Rattle.std.proofs.Common.{◌≡◌, ℕ, ◌==◌, Bool, true, false, ◌&&◌, ◌||◌, List, [], ◌∷◌, Some, None, refl, sym, ap}
use Rattle.std.proofs.Common.{subst, ◌∙◌, inl, inr}
use Rattle.std.specs.Prelude.{if◌then◌else◌}
use Rattle.std.proofs.lemmas.Bool.{eqb-true, eq-eqb, and_parts}
use Rattle.tl_rules.specs.code.Open.{open_probe}
use Rattle.tl_manager.specs.statement.Holders
use Rattle.tl_manager.specs.laws.Pending
use Rattle.tl_manager.{specs.laws.Pending.is_any, specs.code.Probed.probe_in, specs.code.Tracked.AreMissing}
use Rattle.tl_manager.{specs.code.Trackers.IsOfBlock, specs.code.Tracking.request_in}
use Rattle.tl_manager.{specs.declared.manager.tracker.Trackers.Trackers, proofs.words_of_clients.Counts.same_tracker}
use Rattle.tl_manager.{proofs.blocks.Reporting.unserved-block, proofs.services.Serving.some_is}
use Rattle.tl_manager.{proofs.pending.Sinks.AreTracked, proofs.pending.Sources.sink-pending}
use Rattle.tl_manager.{proofs.words_of_clients.Words.set-is}
use Rattle.tl_manager.specs.code.Tracking

-- the trackers after a trace, and what is known of that
pub record AreLooked {w : ℕ} (trackers : Trackers w) (t : Trace w) : Type 0 where
  pub tracked : (n : ℕ) → IsTracked n (tracker_at trackers n) t
  pub accounted : IsAccounted t
  pub sinks : AreTracked t
  pub blocks_apart : AreApart (blocks_of (services t))
  pub trackers_apart : AreApart (trackers_of (services t))

-- ---- the tracker of a block

-- what it says of the block's service
abbrev IsLooked : {w : ℕ} → Tracker w → ℕ → Trace w → Type 0
IsLooked Free block t = service_of_block block (services t) ≡ None
IsLooked (Probing link request missing) block t =
    (n : ℕ) × (service_of_block block (services t) ≡ Some (service_with n link request))
    × (is_granted t (service_with n link request) ≡ false) × AreMissing missing block t
IsLooked {w} (Granted link k) block t = (n : ℕ) × (request : MessageA w)
    × (service_of_block block (services t) ≡ Some (service_with n link request))
    × (is_granted t (service_with n link request) ≡ true)

looked : {w : ℕ} (trackers : Trackers w) (block : ℕ) (tracker : Tracker w) (t : Trace w) → AreLooked trackers t
    → IsOfBlock trackers block tracker → IsLooked tracker block t
looked {w} trackers block tracker t are (inr none) =
    subst (λ (x : Tracker w). IsLooked x block t) (sym none.0)
    (unserved-block block (tracker_at trackers) t are.trackers_apart are.tracked none.1)
looked {w} trackers block tracker t are (inl found) =
    go tracker (subst (λ (x : Tracker w). IsTracked found.0 x t) (sym found.1) (are.tracked found.0)) found.2
  where
    go : (x : Tracker w) → IsTracked found.0 x t → is_of block x ≡ true → IsLooked x block t
    go Free is e = absurd cc
    go (Probing link request missing) is e =
        let same = eqb-true (block_at request.address) block e in
        (found.0, rw same at is.serves, is.unanswered, rw same at is.bits)
    go (Granted link k) is e = (found.0, is.request, rw (eqb-true k block e) at is.serves, is.granted)

-- an Acquire that isn't granted
pub acquiring-looked : {w : ℕ} (trackers : Trackers w) (block client : ℕ) (tracker : Tracker w) (t : Trace w)
    → AreLooked trackers t → IsOfBlock trackers block tracker
    → Tracking.awaits_grant client tracker ≡ pending (AcquireOf block) (on_link client t)
acquiring-looked {w} trackers block client tracker t are of = go tracker (looked trackers block tracker t are of) ∙ sym
    ((are.accounted.blocks block).acquires client)
  where
    always : (a b : Bool) → (a && b) ≡ (a && (b && true))
    always true true = refl
    always v u = refl

    never : (a b : Bool) → false ≡ (a && (b && false))
    never true true = refl
    never v u = refl

    go : (x : Tracker w) → IsLooked x block t → Tracking.awaits_grant client x ≡ Pending.is_acquiring client t
        (service_of_block block (services t))
    go Free e = rw e refl
    go (Probing link request missing) is = rw (is.1, is.2) (always (is_acquire request.opcode) (link.0 == client))
    go (Granted link k) is = rw (is.2, is.3) (never (is_acquire is.1.opcode) (link.0 == client))

-- a GrantAck that is missing
pub granted-looked : {w : ℕ} (trackers : Trackers w) (block client : ℕ) (tracker : Tracker w) (t : Trace w)
    → AreLooked trackers t → IsOfBlock trackers block tracker
    → Tracking.awaits_grant_ack client tracker ≡ pending (GrantAckOf block) (on_link client t)
granted-looked {w} trackers block client tracker t are of = go tracker (looked trackers block tracker t are of) ∙ sym
    ((are.accounted.blocks block).grants client)
  where
    always : (b : Bool) → b ≡ (b && true)
    always true = refl
    always false = refl

    never : (b : Bool) → false ≡ (b && false)
    never true = refl
    never false = refl

    go : (x : Tracker w) → IsLooked x block t → Tracking.awaits_grant_ack client x ≡ Pending.is_granted_to client t
        (service_of_block block (services t))
    go Free e = rw e refl
    go (Probing link request missing) is = rw (is.1, is.2) (never (link.0 == client))
    go (Granted link k) is = rw (is.2, is.3) (always (link.0 == client))

-- a ProbeAck that is missing
pub missing-looked : {w : ℕ} (trackers : Trackers w) (block client : ℕ) (tracker : Tracker w) (t : Trace w)
    → AreLooked trackers t → IsOfBlock trackers block tracker
    → Tracking.awaits_probe_ack client tracker ≡ pending (ProbeOf block) (on_link client t)
missing-looked {w} trackers block client tracker t are of = go tracker (looked trackers block tracker t are of)
  where
    calm : (b : Bool) → pending (ProbeOf block) (on_link client t) ≡ b → (IsProbed client block t → ⊥) → false ≡ b
    calm true e none = absurd (none ((are.accounted.blocks block).probes client e))
    calm false e none = refl

    unserved : service_of_block block (services t) ≡ None → IsProbed client block t → ⊥
    unserved e is = absurd (let no : Some is.service ≡ None = sym is.serves ∙ e in cc)

    answered : (s : Service w) → service_of_block block (services t) ≡ Some s → is_granted t s ≡ true
        → IsProbed client block t → ⊥
    answered s e granted is = absurd (let same = some_is is.service s (sym is.serves ∙ e) in
        let no : is_granted t s ≡ false = ap (is_granted t) (sym same) ∙ is.unanswered in cc)

    go : (x : Tracker w) → IsLooked x block t → Tracking.awaits_probe_ack client x ≡ pending (ProbeOf block)
        (on_link client t)
    go Free e = calm (pending (ProbeOf block) (on_link client t)) refl (unserved e)
    go (Probing link request missing) is = ap (λ b. b == 1) (is.3 client) ∙ set-is (Holders.is_missing client block t)
    go (Granted link k) is = calm (pending (ProbeOf block) (on_link client t)) refl
        (answered (service_with is.0 link is.1) is.2 is.3)

-- the Probe that it is for
pub probe-looked : {w : ℕ} (trackers : Trackers w) (block client : ℕ) (tracker : Tracker w) (t : Trace w)
    → AreLooked trackers t → IsOfBlock trackers block tracker
    → Tracking.awaits_probe_ack client tracker ≡ true → probe_in (request_in tracker) ≡ open_probe block
    (on_link client t)
probe-looked {w} trackers block client tracker t are of e = go tracker (looked trackers block tracker t are of) e
  where
    pends : pending (ProbeOf block) (on_link client t) ≡ true
    pends = sym (missing-looked trackers block client tracker t are of) ∙ e

    go : (x : Tracker w) → IsLooked x block t → Tracking.awaits_probe_ack client x ≡ true
        → probe_in (request_in x) ≡ open_probe block (on_link client t)
    go (Probing link request missing) is f =
        let probed = (are.accounted.blocks block).probes client pends in
        let same = some_is probed.service (service_with is.0 link request) (sym probed.serves ∙ is.1) in
        let caps = ap (λ (s : Service w). Holders.cap_probed s.request.opcode s.request.param) (sym same) ∙ probed.caps
        in
        rw (pends, probed.probe, caps) refl
    go v is f = absurd cc

-- ---- sinks

none_any : {w : ℕ} (f : Service w → Bool) (sink : ℕ) (ss : List (Service w))
    → ((v : Service w) → f v ≡ true → v.tracker ≡ sink) → is_one_of sink (trackers_of ss) ≡ false → is_any f ss ≡ false
none_any f sink [] at e = refl
none_any {w} f sink (v ∷ ss) at e = go (f v) refl (sink == v.tracker) refl (λ i. none_any f sink ss at i) e
  where
    go : (b : Bool) → f v ≡ b → (d : Bool) → (sink == v.tracker) ≡ d
        → (is_one_of sink (trackers_of ss) ≡ false → is_any f ss ≡ false)
        → (d || is_one_of sink (trackers_of ss)) ≡ false
        → (b || is_any f ss) ≡ false
    go true g d h more i = absurd (let here : (sink == v.tracker) ≡ true = eq-eqb sink v.tracker (sym (at v g)) in
        let no : d ≡ true = sym h ∙ here in rest d no i)
      where
        rest : (d : Bool) → d ≡ true → (d || is_one_of sink (trackers_of ss)) ≡ false → ⊥
        rest true j k = cc
        rest false j k = cc
    go false g true h more i = absurd cc
    go false g false h more i = more i

-- of the services those that pass are this one
one_any : {w : ℕ} (f : Service w → Bool) (n : ℕ) (s : Service w) (ss : List (Service w))
    → service_of_block n ss ≡ Some s → Each (λ u. (u.tracker == s.tracker) ≡ true → u ≡ s) ss
    → ((u : Service w) → f u ≡ true → (u.tracker == s.tracker) ≡ true) → is_any f ss ≡ f s
one_any {w} f n s ss e each at = go (f s) refl
  where
    either : (b : Bool) → (b || true) ≡ true
    either true = refl
    either false = refl

    yes : (vs : List (Service w)) → service_of_block n vs ≡ Some s → f s ≡ true → is_any f vs ≡ true
    yes [] g h = absurd cc
    yes (v ∷ vs) g h = here (block_at v.request.address == n) g (λ i. yes vs i h)
      where
        here : (b : Bool) → (if b then Some v else service_of_block n vs) ≡ Some s
            → (service_of_block n vs ≡ Some s → is_any f vs ≡ true) → (f v || is_any f vs) ≡ true
        here true i rest = let passes : f v ≡ true = ap f (some_is v s i) ∙ h in rw passes refl
        here false i rest = rw (rest i) (either (f v))

    no : (vs : List (Service w)) → Each (λ u. (u.tracker == s.tracker) ≡ true → u ≡ s) vs → f s ≡ false
        → is_any f vs ≡ false
    no [] all h = refl
    no (v ∷ vs) all h = here (f v) refl (no vs all.1 h)
      where
        here : (b : Bool) → f v ≡ b → is_any f vs ≡ false → (b || is_any f vs) ≡ false
        here true i rest = absurd (let same : v ≡ s = all.0 (at v i) in let passes : f s ≡ true = ap f (sym same) ∙ i in
            cc)
        here false i rest = rest

    go : (b : Bool) → f s ≡ b → is_any f ss ≡ f s
    go true g = yes ss e g ∙ sym g
    go false g = no ss each g ∙ sym g

pub sink-looked : {w : ℕ} (trackers : Trackers w) (sink client : ℕ) (t : Trace w) → AreLooked trackers t
    → Tracking.awaits_grant_ack client (tracker_at trackers sink) ≡ pending (GrantSink sink) (on_link client t)
sink-looked {w} trackers sink client t are = go (tracker_at trackers sink) (are.tracked sink) ∙ sym
    (sink-pending client sink t are.sinks)
  where
    test : Service w → Bool
    test = Pending.is_granted_with client sink t

    tracker_of : (v : Service w) → Pending.is_granted_with client sink t v ≡ true → v.tracker ≡ sink
    tracker_of v e =
        let p = and_parts (v.link.0 == client) ((v.tracker == sink) && is_granted t v) e in
        let q = and_parts (v.tracker == sink) (is_granted t v) p.1 in
        eqb-true v.tracker sink q.0

    never : (b : Bool) → false ≡ (b && false)
    never true = refl
    never false = refl

    always : (b : Bool) → b ≡ (b && true)
    always true = refl
    always false = refl

    alone : (k : ℕ) (link : Link) (request : MessageA w)
        → service_of_block k (services t) ≡ Some (service_with sink link request)
        → is_any (Pending.is_granted_with client sink t) (services t) ≡ Pending.is_granted_with client sink t
        (service_with sink link request)
    alone k link request e =
        one_any (Pending.is_granted_with client sink t) k (service_with sink link request) (services t) e
        (same_tracker k (services t) (service_with sink link request) are.trackers_apart e)
        (λ u f. eq-eqb u.tracker sink (tracker_of u f))

    go : (x : Tracker w) → IsTracked sink x t
        → Tracking.awaits_grant_ack client x ≡ is_any (Pending.is_granted_with client sink t) (services t)
    go Free is = sym (none_any (Pending.is_granted_with client sink t) sink (services t) tracker_of is)
    go (Probing link request missing) is =
        sym (alone (block_at request.address) link request is.serves ∙ rw (is.unanswered, eq-eqb sink sink refl)
        (sym (never (link.0 == client))))
    go (Granted link k) is =
        sym (alone k link is.request is.serves ∙ rw (is.granted, eq-eqb sink sink refl)
        (sym (always (link.0 == client))))
