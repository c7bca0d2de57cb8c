-- What is pending after a GrantAck was taken.
use Rattle.tl_manager.proofs.Imports.{BeatE, Link, History, unfinished, RequestSource, AcquireOf, GrantSink, GrantAckOf}
use Rattle.tl_manager.proofs.Imports.{ProbeOf, Profile, Trace, on_link, broken_in_order, broken_order, ends, is_acquire}
use Rattle.tl_manager.proofs.Imports.{pending, request_of, probe_of, grant_sink, next_rule, pending-quiet, never}
use Rattle.tl_manager.proofs.Imports.{AreApart, blocks_of, count_where, is_granted, is_asking, is_acquiring}
use Rattle.tl_manager.proofs.Imports.{is_granted_to, IsNamed, IsHandled, IsAccounted, Service, services}
use Rattle.tl_manager.proofs.Imports.{service_of_block, is_ended_by}
use Rattle.std.proofs.Common.{◌≡◌, ℕ, ◌==◌, Bool, true, false, not, ◌&&◌, ◌||◌, ◌∷◌, Option, Some, None, refl, sym, ap}
use Rattle.std.proofs.Common.{subst, ◌∙◌}
use Rattle.std.specs.Prelude.{filter, if◌then◌else◌}
use Rattle.std.proofs.lemmas.Bool.{eqb-true, eq-eqb, and_parts, or_parts, not-false}
use Rattle.tl_beat.{specs.declared.beat.Beat.Beat, specs.declared.channel.Channel.Channel}
use Rattle.tl_params.specs.declared.rule.Rule.TheVariants.{H8}
use Rattle.tl_rules.{specs.statement.Conformance.comes_in_grant, specs.statement.History.is_sink}
use Rattle.tl_manager.proofs.words_of_clients.Counts.{count-same, count-filter, all-each}
use Rattle.tl_manager.proofs.pending.LinkHistories.{own_beat, other_beat, beat-keeps, pending-closed, whole-e}
use Rattle.tl_manager.proofs.services.Serving.{if_passes, serving-filter, some_is}
use Rattle.tl_manager.proofs.blocks.Unmoved.{IsSame, handled-same, begun-kept, reports-kept}

pub request_of-e : {w : ℕ} (q : ℕ) (x : BeatE) (t : History w) → request_of q (Beat.E x ∷ t) ≡ request_of q t
unfolding request_of
request_of-e q x t = refl

pub grant_sink-e : {w : ℕ} (k : ℕ) (x : BeatE) (t : History w) → grant_sink k (Beat.E x ∷ t) ≡ grant_sink k t
unfolding grant_sink
grant_sink-e k x t = refl

pub probe_of-e : {w : ℕ} (k : ℕ) (x : BeatE) (t : History w) → probe_of k (Beat.E x ∷ t) ≡ probe_of k t
unfolding probe_of
probe_of-e k x t = refl

pub burst-e : {w : ℕ} (x : BeatE) (t : History w) → unfinished Channel.A (Beat.E x ∷ t) ≡ unfinished Channel.A t
unfolding unfinished
burst-e x t = refl

burst-ec : {w : ℕ} (x : BeatE) (t : History w) → unfinished Channel.C (Beat.E x ∷ t) ≡ unfinished Channel.C t
unfolding unfinished
burst-ec x t = refl

-- a GrantAck that breaks no rule is of a sink whose Grant was handed out
pub acked-sink : {w : ℕ} (p : Profile) (x : BeatE) (h : History w) → broken_in_order p (Beat.E x) h ≡ None
    → pending (GrantSink x.sink) h ≡ true
unfolding broken_order
acked-sink {w} p x h order =
    let first = (whole-e {w = w} x h).0 in
    let rules = rw first at order in
    let late = (next_rule (not (pending (GrantSink x.sink) h) || comes_in_grant x.sink (unfinished Channel.D h)) H8 None
    rules).0 in
    not-false (pending (GrantSink x.sink) h)
    (or_parts (not (pending (GrantSink x.sink) h)) (comes_in_grant x.sink (unfinished Channel.D h)) late).0

-- the services after it
pub services-e : {w : ℕ} (link : Link) (x : BeatE) (t : Trace w)
    → services ((link, Beat.E x) ∷ t) ≡ filter (λ s. not (is_ended_by (link, Beat.E x) s)) (services t)
unfolding services
services-e {w} link x t = rw ((whole-e {w = w} x (on_link link.0 t)).1) refl

-- the service that it ends was granted
ended-granted : {w : ℕ} (link : Link) (x : BeatE) (t : Trace w) (s : Service w)
    → pending (GrantSink x.sink) (on_link link.0 t) ≡ true → is_ended_by (link, Beat.E x) s ≡ true
    → is_granted t s ≡ true
ended-granted link x t s pends e =
    let p = and_parts (s.link.0 == link.0) (is_acquire s.request.opcode && (s.tracker == x.sink)) e in
    let q = and_parts (is_acquire s.request.opcode) (s.tracker == x.sink) p.1 in
    rw (q.0, eqb-true s.link.0 link.0 p.0, eqb-true s.tracker x.sink q.1) pends

-- and another one is granted as before
pub granted-left : {w : ℕ} (link : Link) (x : BeatE) (t : Trace w) (s : Service w)
    → is_ended_by (link, Beat.E x) s ≡ false → is_granted ((link, Beat.E x) ∷ t) s ≡ is_granted t s
granted-left {w} link x t s e = go (is_acquire s.request.opcode) (link.0 == s.link.0) refl refl
  where
    u : Trace w
    u = (link, Beat.E x) ∷ t

    apart : (b : Bool) → (x.sink == s.tracker) ≡ b → is_acquire s.request.opcode ≡ true → (link.0 == s.link.0) ≡ true
        → b ≡ false
    apart true f acquires here = absurd (
        let ended : is_ended_by (link, Beat.E x) s ≡ true =
        rw (
          acquires,
          eq-eqb s.link.0 link.0 (sym (eqb-true link.0 s.link.0 here)),
          eq-eqb s.tracker x.sink
              (sym (eqb-true x.sink s.tracker f)),
        ) refl in
        cc)
    apart false f acquires here = refl

    closes_none : (b : Bool) (d : Bool) → (if b && false then false else d) ≡ d
    closes_none true d = refl
    closes_none false d = refl

    go : (acquires here : Bool) → is_acquire s.request.opcode ≡ acquires → (link.0 == s.link.0) ≡ here
        → (acquires && pending (GrantSink s.tracker) (on_link s.link.0 u)) ≡ (acquires && pending (GrantSink s.tracker)
        (on_link s.link.0 t))
    go false here f g = refl
    go true false f g = ap (pending (GrantSink s.tracker)) (other_beat s.link.0 link (Beat.E x) t g)
    go true true f g =
        ap (pending (GrantSink s.tracker)) (own_beat s.link.0 link (Beat.E x) t g) ∙ pending-closed
        (GrantSink s.tracker) (Beat.E x) (on_link s.link.0 t) refl
        ∙ ap (λ b. if ends {w = w} (Beat.E x) (on_link s.link.0 t) && b then false else pending (GrantSink s.tracker)
        (on_link s.link.0 t)) (apart (x.sink == s.tracker) refl f g)
        ∙ closes_none (ends {w = w} (Beat.E x) (on_link s.link.0 t))
        (pending (GrantSink s.tracker) (on_link s.link.0 t))

-- ---- a block

-- its GrantAck is missing as before, where this isn't it
ack-kept : {w : ℕ} (link : Link) (x : BeatE) (t : Trace w) (k c : ℕ)
    → ((link.0 == c) ≡ true → pending (GrantAckOf k) (on_link c t) ≡ true
    → is_sink x.sink (grant_sink k (on_link c t)) ≡ false)
    → pending (GrantAckOf k) (on_link c ((link, Beat.E x) ∷ t)) ≡ pending (GrantAckOf k) (on_link c t)
ack-kept {w} link x t k c other = go (link.0 == c) refl
  where
    left : (last closed before : Bool) → (before ≡ true → closed ≡ false)
        → (if last && closed then false else before) ≡ before
    left true true true free = absurd (let no = free refl in cc)
    left v u y free = refl

    go : (b : Bool) → (link.0 == c) ≡ b → pending (GrantAckOf k) (on_link c ((link, Beat.E x) ∷ t)) ≡ pending
        (GrantAckOf k) (on_link c t)
    go true e =
        ap (pending (GrantAckOf k)) (own_beat c link (Beat.E x) t e) ∙ pending-closed (GrantAckOf k) (Beat.E x)
        (on_link c t) refl
        ∙ left (ends {w = w} (Beat.E x) (on_link c t)) (is_sink x.sink (grant_sink k (on_link c t)))
        (pending (GrantAckOf k) (on_link c t)) (other e)
    go false e = ap (pending (GrantAckOf k)) (other_beat c link (Beat.E x) t e)

same-e : {w : ℕ} (link : Link) (x : BeatE) (t : Trace w) (k : ℕ)
    → service_of_block k (services ((link, Beat.E x) ∷ t)) ≡ service_of_block k (services t)
    → ((s : Service w) → service_of_block k (services t) ≡ Some s → is_ended_by (link, Beat.E x) s ≡ false)
    → ((c : ℕ) → pending (GrantAckOf k) (on_link c ((link, Beat.E x) ∷ t)) ≡ pending (GrantAckOf k) (on_link c t))
    → IsSame k t ((link, Beat.E x) ∷ t)
same-e link x t k serves kept grants = record {
  serves = serves;
  granted = λ s e. granted-left link x t s (kept s e);
  acquires = λ c. beat-keeps (pending (AcquireOf k)) c link (Beat.E x) t
      (λ h. pending-quiet (AcquireOf k) (Beat.E x) h refl refl);
  grants = grants;
  requests = λ s e f. beat-keeps (request_of s.request.source) s.link.0 link (Beat.E x) t
      (request_of-e s.request.source x);
  sinks = λ c. beat-keeps (grant_sink k) c link (Beat.E x) t (grant_sink-e k x);
  probes = λ c e. sym (beat-keeps (pending (ProbeOf k)) c link (Beat.E x) t
      (λ h. pending-quiet (ProbeOf k) (Beat.E x) h refl refl)) ∙ e;
  probe = λ c. beat-keeps (probe_of k) c link (Beat.E x) t (probe_of-e k x);
}

handled-e : {w : ℕ} (link : Link) (x : BeatE) (t : Trace w) (k : ℕ) (o : Option (Service w))
    → service_of_block k (services t) ≡ o → pending (GrantSink x.sink) (on_link link.0 t) ≡ true
    → AreApart (blocks_of (services t)) → IsHandled k t → IsHandled k ((link, Beat.E x) ∷ t)
handled-e {w} link x t k o is pends apart ok = go o is (serving_after ∙ ap (if_passes keeps) is)
  where
    u : Trace w
    u = (link, Beat.E x) ∷ t

    keeps : Service w → Bool
    keeps s = not (is_ended_by (link, Beat.E x) s)

    serving_after : service_of_block k (services u) ≡ if_passes keeps (service_of_block k (services t))
    serving_after = ap (service_of_block k) (services-e link x t) ∙ serving-filter k keeps (services t) apart

    missing : (c : ℕ) → pending (ProbeOf k) (on_link c u) ≡ pending (ProbeOf k) (on_link c t)
    missing c = beat-keeps (pending (ProbeOf k)) c link (Beat.E x) t
        (λ h. pending-quiet (ProbeOf k) (Beat.E x) h refl refl)

    -- the sink of a Grant of the block that isn't acknowledged
    its_sink : (c : ℕ) (s : Service w) → service_of_block k (services t) ≡ Some s
        → pending (GrantAckOf k) (on_link c t) ≡ true
        → (s.link.0 ≡ c) × (is_granted t s ≡ true) × (grant_sink k (on_link c t) ≡ Some s.tracker)
    its_sink c s e f =
        let p = and_parts (s.link.0 == c) (is_granted t s) (sym (ok.grants c ∙ ap (is_granted_to c t) e) ∙ f) in
        let here = eqb-true s.link.0 c p.0 in
        let named = subst (IsNamed k t) e ok.named in
        (here, p.1, ap (λ i. grant_sink k (on_link i t)) (sym here) ∙ named.1 p.1)

    sink_apart : (c : ℕ) (s : Service w) → service_of_block k (services t) ≡ Some s
        → is_ended_by (link, Beat.E x) s ≡ false → (link.0 == c) ≡ true → pending (GrantAckOf k) (on_link c t) ≡ true
        → is_sink x.sink (grant_sink k (on_link c t)) ≡ false
    sink_apart c s e kept here f =
        let its = its_sink c s e f in
        rw its.2 (away (s.tracker == x.sink) refl its.0 (and_parts (is_acquire s.request.opcode) _ its.1).0)
      where
        away : (b : Bool) → (s.tracker == x.sink) ≡ b → s.link.0 ≡ c → is_acquire s.request.opcode ≡ true → b ≡ false
        away true g own acquires = absurd (
            let ended : is_ended_by (link, Beat.E x) s ≡ true =
            rw (acquires, eq-eqb s.link.0 link.0 (own ∙ sym (eqb-true link.0 c here)), g) refl in
            cc)
        away false g own acquires = refl

    gone : (s : Service w) → service_of_block k (services t) ≡ Some s → is_ended_by (link, Beat.E x) s ≡ true
        → service_of_block k (services u) ≡ None → IsHandled k u
    gone s e ended none =
        let granted = ended-granted link x t s pends ended in
        record {
          acquires = λ c.
              beat-keeps (pending (AcquireOf k)) c link (Beat.E x) t (λ h. pending-quiet (AcquireOf k) (Beat.E x) h refl
              refl) ∙ ok.acquires c ∙ ap (is_acquiring c t) e
              ∙ ap (λ b. is_acquire s.request.opcode && ((s.link.0 == c) && not b)) granted ∙ neither
              (is_acquire s.request.opcode) (s.link.0 == c) ∙ ap (is_acquiring c u) (sym none);
          grants = λ c. closed c (link.0 == c) refl ∙ ap (is_granted_to c u) (sym none);
          named = subst (IsNamed k u) (sym none) tt;
          probes = λ c f.
              let before = ok.probes c (sym (missing c) ∙ f) in
              let same : before.service ≡ s = some_is before.service s (sym before.serves ∙ e) in
              absurd (let no : is_granted t s ≡ false = ap (is_granted t) (sym same) ∙ before.unanswered in cc);
        }
      where
        neither : (a b : Bool) → (a && (b && false)) ≡ false
        neither true b = never b
        neither false b = refl

        link_is : s.link.0 ≡ link.0
        link_is = eqb-true s.link.0 link.0 (and_parts (s.link.0 == link.0) _ ended).0

        tracker_is : (s.tracker == x.sink) ≡ true
        tracker_is = (and_parts (is_acquire s.request.opcode) (s.tracker == x.sink)
            (and_parts (s.link.0 == link.0) _ ended).1).1

        acked : (last : Bool) (before : Bool) → last ≡ true → (if last && true then false else before) ≡ false
        acked last before f = rw f refl

        closed : (c : ℕ) (b : Bool) → (link.0 == c) ≡ b → pending (GrantAckOf k) (on_link c u) ≡ false
        closed c true f =
            let own : s.link.0 ≡ c = link_is ∙ eqb-true link.0 c f in
            let granted = ended-granted link x t s pends ended in
            let named = subst (IsNamed k t) e ok.named in
            let sink : is_sink x.sink (grant_sink k (on_link c t)) ≡ true =
            ap (λ i. is_sink x.sink (grant_sink k (on_link i t))) (sym own) ∙ ap (is_sink x.sink) (named.1 granted)
            ∙ tracker_is in
            ap (pending (GrantAckOf k)) (own_beat c link (Beat.E x) t f) ∙ pending-closed (GrantAckOf k) (Beat.E x)
            (on_link c t) refl
            ∙ ap (λ b. if ends {w = w} (Beat.E x) (on_link c t) && b then false else pending (GrantAckOf k)
            (on_link c t)) sink
            ∙ acked (ends {w = w} (Beat.E x) (on_link c t)) (pending (GrantAckOf k) (on_link c t))
            (whole-e {w = w} x (on_link c t)).1
        closed c false f =
            ap (pending (GrantAckOf k)) (other_beat c link (Beat.E x) t f) ∙ ok.grants c ∙ ap (is_granted_to c t) e
            ∙ ap (λ i. (i == c) && is_granted t s) link_is ∙ ap (λ b. b && is_granted t s) f

    left : (s : Service w) → service_of_block k (services t) ≡ Some s → (b : Bool) → is_ended_by (link, Beat.E x) s ≡ b
        → service_of_block k (services u) ≡ (if not b then Some s else None) → IsHandled k u
    left s e true ended after = gone s e ended after
    left s e false kept after =
        handled-same k t u
        (same-e link x t k (after ∙ sym e)
        (λ r f. ap (is_ended_by (link, Beat.E x)) (some_is r s (sym f ∙ e)) ∙ kept)
        (λ c. ack-kept link x t k c (λ here f. sink_apart c s e kept here f)))
        ok

    go : (r : Option (Service w)) → service_of_block k (services t) ≡ r
        → service_of_block k (services u) ≡ if_passes keeps r → IsHandled k u
    go None e after =
        handled-same k t u
        (same-e link x t k (after ∙ sym e)
        (λ s f. absurd (let no : Some s ≡ None = sym f ∙ e in cc))
        (λ c. ack-kept link x t k c (λ here f. absurd (let no : pending (GrantAckOf k) (on_link c t) ≡ false =
        ok.grants c ∙ ap (is_granted_to c t) e in cc))))
        ok
    go (Some s) e after = left s e (is_ended_by (link, Beat.E x) s) refl after

-- ---- all links

pub accounted-e : {w : ℕ} (link : Link) (x : BeatE) (t : Trace w) → pending (GrantSink x.sink) (on_link link.0 t) ≡ true
    → AreApart (blocks_of (services t)) → IsAccounted t
    → IsAccounted ((link, Beat.E x) ∷ t)
accounted-e {w} link x t pends apart ok = record {
  sources = λ c q.
      rw (
        beat-keeps (unfinished Channel.A) c link (Beat.E x) t (burst-e x),
        beat-keeps (pending (RequestSource q)) c link (Beat.E x) t (λ h. pending-quiet (RequestSource q) (Beat.E x) h
            refl refl),
        counted c q,
      )
      (ok.sources c q);
  begun = λ c. begun-kept t u c (beat-keeps (unfinished Channel.A) c link (Beat.E x) t (burst-e x))
      (λ q. beat-keeps (request_of q) c link (Beat.E x) t (request_of-e q x)) ok;
  reports = λ c.
      reports-kept t u c (beat-keeps (unfinished Channel.C) c link (Beat.E x) t (burst-ec x))
      (λ k e. beat-keeps (pending (ProbeOf k)) c link (Beat.E x) t
      (λ h. pending-quiet (ProbeOf k) (Beat.E x) h refl refl) ∙ e) ok;
  blocks = λ k. handled-e link x t k (service_of_block k (services t)) refl pends apart (ok.blocks k);
}
  where
    u : Trace w
    u = (link, Beat.E x) ∷ t

    neither : (a b : Bool) → false ≡ (a && (b && false))
    neither true true = refl
    neither v u = refl

    asks_still : (c q : ℕ) (s : Service w) (b : Bool) → is_ended_by (link, Beat.E x) s ≡ b
        → (not b && is_asking c q u s) ≡ is_asking c q t s
    asks_still c q s true e = neither (s.link.0 == c) (s.request.source == q) ∙ ap
        (λ b. (s.link.0 == c) && ((s.request.source == q) && not b)) (sym (ended-granted link x t s pends e))
    asks_still c q s false e = ap (λ b. (s.link.0 == c) && ((s.request.source == q) && not b))
        (granted-left link x t s e)

    counted : (c q : ℕ) → count_where (is_asking c q u) (services u) ≡ count_where (is_asking c q t) (services t)
    counted c q =
        ap (count_where (is_asking c q u)) (services-e link x t) ∙ count-filter
        (λ s. not (is_ended_by (link, Beat.E x) s)) (is_asking c q u) (services t)
        ∙ count-same (λ s. not (is_ended_by (link, Beat.E x) s) && is_asking c q u s) (is_asking c q t) (services t)
        (all-each (λ s. (not (is_ended_by (link, Beat.E x) s) && is_asking c q u s) ≡ is_asking c q t s) (services t)
        (λ s. asks_still c q s (is_ended_by (link, Beat.E x) s) refl))
