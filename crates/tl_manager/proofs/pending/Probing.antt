-- What is pending after Probes were handed out, and after a beat of channel C.
use Rattle.tl_manager.proofs.Imports.{IsWidth, Beat, BeatC, Link, OpC, first_if, History, unfinished, same_control}
use Rattle.tl_manager.proofs.Imports.{breaks_burst, is_empty, RequestSource, AcquireOf, GrantSink, GrantAckOf, ProbeOf}
use Rattle.tl_manager.proofs.Imports.{Cap, Profile, S1, Trace, on_link, broken_in_order, broken_order, next_rule}
use Rattle.tl_manager.proofs.Imports.{begins, ends, opens, closes, block_at, is_probe_ack, is_release, pending}
use Rattle.tl_manager.proofs.Imports.{request_of, probe_of, grant_sink, pending-quiet, with_handed, probes}
use Rattle.tl_manager.proofs.Imports.{probe_of_block, probe_beat, cap_probed, is_spared, Each, is_granted, IsReporting}
use Rattle.tl_manager.proofs.Imports.{IsProbed, IsAccounted, Service, services, service_of_block, is_ended_by, IsWhole}
use Rattle.std.proofs.Common.{◌≡◌, ℕ, ◌*◌, ◌==◌, Bool, true, false, not, ◌&&◌, ◌||◌, List, [], ◌∷◌, Some, None, refl}
use Rattle.std.proofs.Common.{sym, ap, subst, ◌∙◌, arith}
use Rattle.std.specs.Prelude.{filter, if◌then◌else◌}
use Rattle.std.proofs.lemmas.Bool.{eqb-true, eq-eqb, or_parts, not-false}
use Rattle.tl_beat.specs.declared.channel.Channel.{Channel}
use Rattle.tl_burst.proofs.ControlFields.{control_c}
use Rattle.tl_params.specs.declared.rule.Rule.TheVariants.{H10}
use Rattle.tl_rules.specs.statement.Conformance.{answers_wrong_probe}
use Rattle.tl_manager.{proofs.pending.Accepted.granted-kept, proofs.pending.Handed.whole-after_sent}
use Rattle.tl_manager.{proofs.pending.Probes.filter-all, proofs.pending.Probes.services-b}
use Rattle.tl_manager.proofs.pending.LinkHistories.{own_beat, other_beat, beat-keeps, pending-opened, pending-closed}
use Rattle.tl_manager.proofs.blocks.Unmoved.{IsSame, IsQuiet, handled-same, handled-quiet, reports-kept, accounted-kept}

-- ---- a beat of channel C

pub request_of-c : {w : ℕ} (q : ℕ) (x : BeatC w) (t : History w) → request_of q (Beat.C x ∷ t) ≡ request_of q t
unfolding request_of
request_of-c q x t = refl

pub grant_sink-c : {w : ℕ} (k : ℕ) (x : BeatC w) (t : History w) → grant_sink k (Beat.C x ∷ t) ≡ grant_sink k t
unfolding grant_sink
grant_sink-c k x t = refl

pub probe_of-c : {w : ℕ} (k : ℕ) (x : BeatC w) (t : History w) → probe_of k (Beat.C x ∷ t) ≡ probe_of k t
unfolding probe_of
probe_of-c k x t = refl

pub burst-c : {w : ℕ} (x : BeatC w) (t : History w) → unfinished Channel.A (Beat.C x ∷ t) ≡ unfinished Channel.A t
unfolding unfinished
burst-c x t = refl

-- it ends no service
pub services-c : {w : ℕ} (link : Link) (x : BeatC w) (t : Trace w) → services ((link, Beat.C x) ∷ t) ≡ services t
unfolding services
services-c {w} link x t = go (ends (Beat.C x) (on_link link.0 t))
  where
    go : (b : Bool) → (if b then filter (λ (s : Service w). not (is_ended_by (link, Beat.C x) s)) (services t) else
        services t) ≡ services t
    go true = filter-all (λ (s : Service w). not (is_ended_by (link, Beat.C x) s)) (services t) (λ s. refl)
    go false = refl

-- and a ProbeAck that is missing then was missing before
pub missing-before : {w : ℕ} (link : Link) (x : BeatC w) (t : Trace w) (c k : ℕ)
    → pending (ProbeOf k) (on_link c ((link, Beat.C x) ∷ t)) ≡ true → pending (ProbeOf k) (on_link c t) ≡ true
missing-before {w} link x t c k e = go (link.0 == c) refl
  where
    still : (b d : Bool) → (if b then false else d) ≡ true → d ≡ true
    still true d f = absurd cc
    still false d f = f

    go : (b : Bool) → (link.0 == c) ≡ b → pending (ProbeOf k) (on_link c t) ≡ true
    go true f =
        still (ends (Beat.C x) (on_link c t) && closes (ProbeOf k) (Beat.C x) (on_link c t))
        (pending (ProbeOf k) (on_link c t))
        (sym (ap (pending (ProbeOf k)) (own_beat c link (Beat.C x) t f) ∙ pending-closed (ProbeOf k) (Beat.C x)
        (on_link c t) refl) ∙ e)
    go false f = sym (ap (pending (ProbeOf k)) (other_beat c link (Beat.C x) t f)) ∙ e

-- of another block the same are missing
pub missing-else_c : {w : ℕ} (link : Link) (x : BeatC w) (t : Trace w) (c k : ℕ)
    → (is_probe_ack x.opcode && (block_at x.address == k)) ≡ false
    → pending (ProbeOf k) (on_link c ((link, Beat.C x) ∷ t)) ≡ pending (ProbeOf k) (on_link c t)
missing-else_c link x t c k other = beat-keeps (pending (ProbeOf k)) c link (Beat.C x) t
    (λ h. pending-quiet (ProbeOf k) (Beat.C x) h refl other)

pub same-c : {w : ℕ} (link : Link) (x : BeatC w) (t : Trace w) (k : ℕ) → IsSame k t ((link, Beat.C x) ∷ t)
same-c link x t k = record {
  serves = ap (service_of_block k) (services-c link x t);
  granted = λ s e. granted-kept link (Beat.C x) t s (λ sink h. pending-quiet (GrantSink sink) (Beat.C x) h refl refl);
  acquires = λ c. beat-keeps (pending (AcquireOf k)) c link (Beat.C x) t
      (λ h. pending-quiet (AcquireOf k) (Beat.C x) h refl refl);
  grants = λ c. beat-keeps (pending (GrantAckOf k)) c link (Beat.C x) t
      (λ h. pending-quiet (GrantAckOf k) (Beat.C x) h refl refl);
  requests = λ s e f. beat-keeps (request_of s.request.source) s.link.0 link (Beat.C x) t
      (request_of-c s.request.source x);
  sinks = λ c. beat-keeps (grant_sink k) c link (Beat.C x) t (grant_sink-c k x);
  probes = λ c e. missing-before link x t c k e;
  probe = λ c. beat-keeps (probe_of k) c link (Beat.C x) t (probe_of-c k x);
}

-- ---- the report that it is of

pub probe_ack_kind : (opcode : OpC) → is_probe_ack opcode ≡ true → is_release opcode ≡ false
probe_ack_kind OpC.ProbeAck e = refl
probe_ack_kind OpC.ProbeAckData e = refl
probe_ack_kind v e = absurd cc

-- a beat of a ProbeAck that breaks no rule of order is of one that is missing
pub report-pending : {w : ℕ} (p : Profile) (x : BeatC w) (t : History w) → broken_in_order p (Beat.C x) t ≡ None
    → IsReporting t (unfinished Channel.C t) → is_probe_ack x.opcode ≡ true
    → pending (ProbeOf (block_at x.address)) t ≡ true
unfolding broken_order
report-pending {w} p x t order reporting report = go (unfinished Channel.C t) order reporting
  where
    go : (burst : List (Beat w))
        → (if is_empty burst then broken_order p (Beat.C x) t else first_if (breaks_burst (Beat.C x) burst) S1 None)
        ≡ None → IsReporting t burst
        → pending (ProbeOf (block_at x.address)) t ≡ true
    go [] f ok =
        let rules = rw (probe_ack_kind x.opcode report, report) at f in
        let missing = (next_rule (not (pending (ProbeOf (block_at x.address)) t) || answers_wrong_probe x
        (probe_of (block_at x.address) t)) H10 _ rules).0 in
        not-false (pending (ProbeOf (block_at x.address)) t) (or_parts (not (pending (ProbeOf (block_at x.address)) t))
        (answers_wrong_probe x (probe_of (block_at x.address) t)) missing).0
    go (Beat.C y ∷ burst) f ok =
        let same = not-false (same_control (Beat.C x) (Beat.C y)) (next_rule (not (same_control (Beat.C x) (Beat.C y)))
        S1 None f).0 in
        let fields = control_c x y (rw same refl) in
        ap (λ i. pending (ProbeOf (block_at i)) t) fields.4 ∙ ok (ap is_probe_ack (sym fields.0) ∙ report)
    go v f ok = absurd cc

-- a beat that isn't its last leaves it missing
pub missing-part : {w : ℕ} (x : BeatC w) (h : History w) (k : ℕ) → ends (Beat.C x) h ≡ false
    → pending (ProbeOf k) (Beat.C x ∷ h) ≡ pending (ProbeOf k) h
missing-part x h k part = pending-closed (ProbeOf k) (Beat.C x) h refl ∙ rw part refl

reporting-now : {w : ℕ} (p : Profile) (x : BeatC w) (h : History w) → broken_in_order p (Beat.C x) h ≡ None
    → IsReporting h (unfinished Channel.C h)
    → IsReporting (Beat.C x ∷ h) (unfinished Channel.C (Beat.C x ∷ h))
unfolding unfinished
reporting-now {w} p x h order reporting = go (ends (Beat.C x) h) refl
  where
    go : (b : Bool) → ends (Beat.C x) h ≡ b
        → IsReporting (Beat.C x ∷ h) (if b then [] else Beat.C x ∷ unfinished Channel.C h)
    go true e = tt
    go false e = λ report. missing-part x h (block_at x.address) e ∙ report-pending p x h order reporting report

reports-c : {w : ℕ} (p : Profile) (link : Link) (x : BeatC w) (t : Trace w) (c : ℕ)
    → broken_in_order p (Beat.C x) (on_link link.0 t) ≡ None → IsAccounted t
    → IsReporting (on_link c ((link, Beat.C x) ∷ t)) (unfinished Channel.C (on_link c ((link, Beat.C x) ∷ t)))
reports-c {w} p link x t c order ok = go (link.0 == c) refl
  where
    IsOk : History w → Type 0
    IsOk h = IsReporting h (unfinished Channel.C h)

    go : (b : Bool) → (link.0 == c) ≡ b → IsOk (on_link c ((link, Beat.C x) ∷ t))
    go true e =
        subst IsOk (sym (own_beat c link (Beat.C x) t e))
        (reporting-now p x (on_link c t) (subst (λ (i : ℕ). broken_in_order p (Beat.C x) (on_link i t) ≡ None)
        (eqb-true link.0 c e) order) (ok.reports c))
    go false e = subst IsOk (sym (other_beat c link (Beat.C x) t e)) (ok.reports c)

pub accounted-c : {w : ℕ} (p : Profile) (link : Link) (x : BeatC w) (t : Trace w)
    → broken_in_order p (Beat.C x) (on_link link.0 t) ≡ None → IsAccounted t → IsAccounted ((link, Beat.C x) ∷ t)
accounted-c {w} p link x t order ok =
    accounted-kept t ((link, Beat.C x) ∷ t)
    (record {
      serves = services-c link x t;
      granted = λ s. granted-kept link (Beat.C x) t s (λ sink h. pending-quiet (GrantSink sink) (Beat.C x) h refl refl);
      bursts = λ c. beat-keeps (unfinished Channel.A) c link (Beat.C x) t (burst-c x);
      sources = λ c q. beat-keeps (pending (RequestSource q)) c link (Beat.C x) t
          (λ h. pending-quiet (RequestSource q) (Beat.C x) h refl refl);
      requests = λ c q. beat-keeps (request_of q) c link (Beat.C x) t (request_of-c q x);
    })
    (λ c. reports-c p link x t c order ok)
    (λ k. handled-same k t ((link, Beat.C x) ∷ t) (same-c link x t k) (ok.blocks k)) ok

-- ---- a Probe

pub request_of-b : {w : ℕ} (q n : ℕ) (k : Cap) (t : History w) → request_of q (Beat.B (probe_beat n k) ∷ t) ≡ request_of
    q t
unfolding request_of
request_of-b q n k t = refl

grant_sink-b : {w : ℕ} (i n : ℕ) (k : Cap) (t : History w) → grant_sink i (Beat.B (probe_beat n k) ∷ t) ≡ grant_sink i t
unfolding grant_sink
grant_sink-b i n k t = refl

burst-b : {w : ℕ} (n : ℕ) (k : Cap) (t : History w) → unfinished Channel.A (Beat.B (probe_beat n k) ∷ t) ≡ unfinished
    Channel.A t
unfolding unfinished
burst-b n k t = refl

pub probed_block : (n : ℕ) → block_at (64 * n) ≡ n
probed_block n = omega arith

burst-bc : {w : ℕ} (n : ℕ) (k : Cap) (t : History w) → unfinished Channel.C (Beat.B (probe_beat n k) ∷ t) ≡ unfinished
    Channel.C t
unfolding unfinished
burst-bc n k t = refl

-- what is missing stays so
missing-still_b : {w : ℕ} (link : Link) (n i c : ℕ) (k : Cap) (t : Trace w) → pending (ProbeOf i) (on_link c t) ≡ true
    → pending (ProbeOf i) (on_link c ((link, Beat.B (probe_beat n k)) ∷ t)) ≡ true
missing-still_b {w} link n i c k t e = go (link.0 == c) refl
  where
    opened : (b d : Bool) → d ≡ true → (if b then true else d) ≡ true
    opened true d f = refl
    opened false d f = f

    go : (b : Bool) → (link.0 == c) ≡ b → pending (ProbeOf i) (on_link c ((link, Beat.B (probe_beat n k)) ∷ t)) ≡ true
    go true f =
        ap (pending (ProbeOf i)) (own_beat c link (Beat.B (probe_beat n k)) t f) ∙ pending-opened (ProbeOf i)
        (Beat.B (probe_beat n k)) (on_link c t) refl
        ∙ opened (begins (Beat.B (probe_beat {w = w} n k)) (on_link c t) && opens (ProbeOf i) (Beat.B (probe_beat n k))
        (on_link c t)) (pending (ProbeOf i) (on_link c t)) e
    go false f = ap (pending (ProbeOf i)) (other_beat c link (Beat.B (probe_beat n k)) t f) ∙ e

-- of another block than its own
probe_of-else : {w : ℕ} (i n : ℕ) (k : Cap) (t : History w) → (n == i) ≡ false
    → probe_of i (Beat.B (probe_beat n k) ∷ t) ≡ probe_of i t
unfolding probe_of
probe_of-else {w} i n k t other = rw (probed_block n, other) (go (begins (Beat.B (probe_beat {w = w} n k)) t))
  where
    go : (b : Bool) → (if b && false then Some (probe_beat n k) else probe_of i t) ≡ probe_of i t
    go true = refl
    go false = refl

pub missing-else_b : {w : ℕ} (i n : ℕ) (k : Cap) (t : History w) → (n == i) ≡ false
    → pending (ProbeOf i) (Beat.B (probe_beat n k) ∷ t) ≡ pending (ProbeOf i) t
missing-else_b i n k t other = pending-quiet (ProbeOf i) (Beat.B (probe_beat n k)) t (rw (probed_block n) other) refl

-- and of its own
probe_of-own : {w : ℕ} (n : ℕ) (k : Cap) (t : History w) → unfinished Channel.B t ≡ []
    → probe_of n (Beat.B (probe_beat n k) ∷ t) ≡ Some (probe_beat n k)
unfolding probe_of
probe_of-own n k t none = rw (none, probed_block n, eq-eqb n n refl) refl

pub missing-own_b : {w : ℕ} (n : ℕ) (k : Cap) (t : History w) → unfinished Channel.B t ≡ []
    → pending (ProbeOf n) (Beat.B (probe_beat n k) ∷ t) ≡ true
missing-own_b n k t none = pending-opened (ProbeOf n) (Beat.B (probe_beat n k)) t refl ∙ rw
    (none, probed_block n, eq-eqb n n refl) refl

-- the service that probes with this cap
pub record IsProbing {w : ℕ} (n : ℕ) (k : Cap) (s : Service w) (t : Trace w) : Type 0 where
  pub serves : service_of_block n (services t) ≡ Some s
  pub unanswered : is_granted t s ≡ false
  pub caps : cap_probed s.request.opcode s.request.param ≡ Some k

granted_b : {w : ℕ} (link : Link) (n : ℕ) (k : Cap) (t : Trace w) (s : Service w)
    → is_granted ((link, Beat.B (probe_beat n k)) ∷ t) s ≡ is_granted t s
granted_b link n k t s =
    granted-kept link (Beat.B (probe_beat n k)) t s (λ sink h. pending-quiet (GrantSink sink) (Beat.B (probe_beat n k))
    h refl refl)

quiet-b : {w : ℕ} (link : Link) (n i : ℕ) (k : Cap) (t : Trace w) → IsQuiet i t ((link, Beat.B (probe_beat n k)) ∷ t)
quiet-b link n i k t = record {
  serves = ap (service_of_block i) (services-b link (probe_beat n k) t);
  granted = λ s e. granted_b link n k t s;
  acquires = λ c. beat-keeps (pending (AcquireOf i)) c link (Beat.B (probe_beat n k)) t
      (λ h. pending-quiet (AcquireOf i) (Beat.B (probe_beat n k)) h refl refl);
  grants = λ c. beat-keeps (pending (GrantAckOf i)) c link (Beat.B (probe_beat n k)) t
      (λ h. pending-quiet (GrantAckOf i) (Beat.B (probe_beat n k)) h refl refl);
  requests = λ s e f. beat-keeps (request_of s.request.source) s.link.0 link (Beat.B (probe_beat n k)) t
      (request_of-b s.request.source n k);
  sinks = λ c. beat-keeps (grant_sink i) c link (Beat.B (probe_beat n k)) t (grant_sink-b i n k);
}

probed-still : {w : ℕ} (link : Link) (c i n : ℕ) (k : Cap) (t : Trace w)
    → probe_of i (on_link c ((link, Beat.B (probe_beat n k)) ∷ t)) ≡ probe_of i (on_link c t) → IsProbed c i t
    → IsProbed c i ((link, Beat.B (probe_beat n k)) ∷ t)
probed-still link c i n k t same is = record {
  service = is.service;
  cap = is.cap;
  serves = ap (service_of_block i) (services-b link (probe_beat n k) t) ∙ is.serves;
  unanswered = granted_b link n k t is.service ∙ is.unanswered;
  others = is.others;
  caps = is.caps;
  probe = same ∙ is.probe;
}

pub accounted-probe : {w : ℕ} (link : Link) (n : ℕ) (k : Cap) (s : Service w) (t : Trace w)
    → unfinished Channel.B (on_link link.0 t) ≡ [] → IsProbing n k s t → is_spared s link.0 ≡ false
    → IsAccounted t → IsAccounted ((link, Beat.B (probe_beat n k)) ∷ t)
accounted-probe {w} link n k s t none is other ok =
    accounted-kept t u
    (record {
      serves = services-b link (probe_beat n k) t;
      granted = λ r. granted_b link n k t r;
      bursts = λ c. beat-keeps (unfinished Channel.A) c link (Beat.B (probe_beat n k)) t (burst-b n k);
      sources = λ c q. beat-keeps (pending (RequestSource q)) c link (Beat.B (probe_beat n k)) t
          (λ h. pending-quiet (RequestSource q) (Beat.B (probe_beat n k)) h refl refl);
      requests = λ c q. beat-keeps (request_of q) c link (Beat.B (probe_beat n k)) t (request_of-b q n k);
    })
    (λ c. reports-kept t u c (beat-keeps (unfinished Channel.C) c link (Beat.B (probe_beat n k)) t (burst-bc n k))
    (λ i e. missing-still_b link n i c k t e) ok)
    (λ i. handled-quiet i t u (quiet-b link n i k t) (λ c. probed c i (n == i) refl (link.0 == c) refl) (ok.blocks i))
    ok
  where
    u : Trace w
    u = (link, Beat.B (probe_beat n k)) ∷ t

    probed : (c i : ℕ) (mine : Bool) → (n == i) ≡ mine → (here : Bool) → (link.0 == c) ≡ here
        → pending (ProbeOf i) (on_link c u) ≡ true → IsProbed c i u
    probed c i false e here f g =
        probed-still link c i n k t (beat-keeps (probe_of i) c link (Beat.B (probe_beat n k)) t
        (λ h. probe_of-else i n k h e))
        ((ok.blocks i).probes c (sym (beat-keeps (pending (ProbeOf i)) c link (Beat.B (probe_beat n k)) t
        (λ h. missing-else_b i n k h e)) ∙ g))
    probed c i true e false f g =
        let away = other_beat c link (Beat.B (probe_beat n k)) t f in
        probed-still link c i n k t (ap (probe_of i) away)
        ((ok.blocks i).probes c (sym (ap (pending (ProbeOf i)) away) ∙ g))
    probed c i true e true f g =
        let same : link.0 ≡ c = eqb-true link.0 c f in
        subst (λ (j : ℕ). IsProbed c j u) (eqb-true n i e)
        (record {
          service = s;
          cap = k;
          serves = ap (service_of_block n) (services-b link (probe_beat n k) t) ∙ is.serves;
          unanswered = granted_b link n k t s ∙ is.unanswered;
          others = subst (λ (j : ℕ). is_spared s j ≡ false) same other;
          caps = is.caps;
          probe = ap (probe_of n) (own_beat c link (Beat.B (probe_beat n k)) t f) ∙ probe_of-own n k (on_link c t)
              (subst (λ (j : ℕ). unfinished Channel.B (on_link j t) ≡ []) same none);
        })

-- Probes to several clients
pub accounted-probes : {w : ℕ} (n : ℕ) (k : Cap) (clients : List ℕ) (s : Service w) (t : Trace w) → IsWidth w
    → ((c : ℕ) → IsWhole (on_link c t)) → IsProbing n k s t
    → Each (λ c. is_spared s c ≡ false) clients → IsAccounted t
    → IsAccounted (with_handed (probes n k clients) t)
unfolding with_handed
accounted-probes n k [] s t width whole is others ok = ok
accounted-probes {w} n k (c ∷ clients) s t width whole is others ok =
    accounted-probes n k clients s ((record { 0 = c }, Beat.B (probe_beat n k)) ∷ t) width
    (λ d. whole-after_sent d (record { 0 = c }) (probe_of_block n k) t width refl (whole d))
    (record {
      serves = ap (service_of_block n) (services-b (record { 0 = c }) (probe_beat n k) t) ∙ is.serves;
      unanswered = granted_b (record { 0 = c }) n k t s ∙ is.unanswered;
      caps = is.caps;
    })
    others.1 (accounted-probe (record { 0 = c }) n k s t (whole c).0 is others.0 ok)
