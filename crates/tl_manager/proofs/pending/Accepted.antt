-- What is pending after a beat of a request was taken, on all links.
use Rattle.tl_manager.proofs.Imports.{Beat, BeatA, Link, History, unfinished, RequestSource, AcquireOf, GrantSink}
use Rattle.tl_manager.proofs.Imports.{GrantAckOf, ProbeOf, Trace, on_link, comes_in_request, is_acquire, pending}
use Rattle.tl_manager.proofs.Imports.{request_of, probe_of, grant_sink, pending-quiet, one_if, is_granted, is_asking}
use Rattle.tl_manager.proofs.Imports.{IsAccounted, Service, services, service_of_block}
use Rattle.std.proofs.Common.{◌≡◌, ℕ, ◌+◌, ◌<◌, ◌==◌, Bool, true, false, not, ◌&&◌, ◌∷◌, Some, refl, sym, ap, subst}
use Rattle.std.proofs.Common.{◌∙◌, arith}
use Rattle.std.{specs.Prelude.if◌then◌else◌, proofs.lemmas.Bool.eqb-true, proofs.lemmas.Bool.eq-eqb}
use Rattle.tl_beat.specs.declared.channel.Channel.{Channel}
use Rattle.tl_manager.proofs.pending.Asked.{Place, First, Later}
use Rattle.tl_manager.{proofs.words_of_clients.Counts.count-served, proofs.blocks.Unmoved.IsSame}
use Rattle.tl_manager.proofs.pending.LinkHistories.{own_beat, other_beat, beat-keeps}

-- ---- services whose request isn't answered

pub asks : {w : ℕ} (t : Trace w) (s : Service w) → is_granted t s ≡ false
    → is_asking s.link.0 s.request.source t s ≡ true
asks t s e = rw (eq-eqb s.link.0 s.link.0 refl, eq-eqb s.request.source s.request.source refl) (ap not e)

some_of : (b : Bool) (m n : ℕ) → m + n ≡ one_if b → 0 < n → b ≡ true
some_of true m n e lt = refl
some_of false m n e lt = absurd (omega (arith, e, lt))

-- their sources are pending
pub asking-pending : {w : ℕ} (k : ℕ) (s : Service w) (t : Trace w) → IsAccounted t
    → service_of_block k (services t) ≡ Some s → is_granted t s ≡ false
    → pending (RequestSource s.request.source) (on_link s.link.0 t) ≡ true
asking-pending k s t ok e free =
    some_of (pending (RequestSource s.request.source) (on_link s.link.0 t))
    (one_if (comes_in_request s.request.source (unfinished Channel.A (on_link s.link.0 t)))) _
    (ok.sources s.link.0 s.request.source) (count-served k (is_asking s.link.0 s.request.source t) (services t) s e
    (asks t s free))

-- a beat that opens and closes no sink grants nothing
pub granted-kept : {w : ℕ} (link : Link) (x : Beat w) (t : Trace w) (s : Service w)
    → ((sink : ℕ) (h : History w) → pending (GrantSink sink) (x ∷ h) ≡ pending (GrantSink sink) h)
    → is_granted ((link, x) ∷ t) s ≡ is_granted t s
granted-kept link x t s same =
    ap (λ b. is_acquire s.request.opcode && b) (beat-keeps (pending (GrantSink s.tracker)) s.link.0 link x t
    (same s.tracker))

pub granted_a : {w : ℕ} (link : Link) (x : BeatA w) (t : Trace w) (s : Service w)
    → is_granted ((link, Beat.A x) ∷ t) s ≡ is_granted t s
granted_a link x t s = granted-kept link (Beat.A x) t s (λ sink h. pending-quiet (GrantSink sink) (Beat.A x) h refl
    refl)

-- ---- what a beat of a request leaves of other requests

request-else : {w : ℕ} (x : BeatA w) (t : History w) (q : ℕ) → Place x t → pending (RequestSource q) t ≡ true
    → request_of q (Beat.A x ∷ t) ≡ request_of q t
unfolding request_of
request-else {w} x t q (First none free) pends = rw none (go (x.source == q) refl)
  where
    go : (b : Bool) → (x.source == q) ≡ b → (if true && b then Some x else request_of q t) ≡ request_of q t
    go true e =
        let same : x.source ≡ q = eqb-true x.source q e in
        let no : pending (RequestSource q) t ≡ false = ap (λ i. pending (RequestSource i) t) (sym same) ∙ free in
        absurd cc
    go false e = refl
request-else x t q (Later y burst is begun same) pends = rw is refl

request-kept : {w : ℕ} (link : Link) (x : BeatA w) (t : Trace w) (c q : ℕ) → Place x (on_link link.0 t)
    → pending (RequestSource q) (on_link c t) ≡ true
    → request_of q (on_link c ((link, Beat.A x) ∷ t)) ≡ request_of q (on_link c t)
request-kept {w} link x t c q place pends = go (link.0 == c) refl
  where
    go : (b : Bool) → (link.0 == c) ≡ b → request_of q (on_link c ((link, Beat.A x) ∷ t)) ≡ request_of q (on_link c t)
    go true e = ap (request_of q) (own_beat c link (Beat.A x) t e) ∙ request-else x (on_link c t) q
        (subst (λ (i : ℕ). Place x (on_link i t)) (eqb-true link.0 c e) place) pends
    go false e = ap (request_of q) (other_beat c link (Beat.A x) t e)

pub grant_sink-a : {w : ℕ} (k : ℕ) (x : BeatA w) (t : History w) → grant_sink k (Beat.A x ∷ t) ≡ grant_sink k t
unfolding grant_sink
grant_sink-a k x t = refl

pub probe_of-a : {w : ℕ} (k : ℕ) (x : BeatA w) (t : History w) → probe_of k (Beat.A x ∷ t) ≡ probe_of k t
unfolding probe_of
probe_of-a k x t = refl

-- a block that the beat opens no Acquire of
pub same-else : {w : ℕ} (link : Link) (x : BeatA w) (t : Trace w) (k : ℕ) → Place x (on_link link.0 t) → IsAccounted t
    → service_of_block k (services ((link, Beat.A x) ∷ t)) ≡ service_of_block k (services t)
    → pending (AcquireOf k) (Beat.A x ∷ on_link link.0 t) ≡ pending (AcquireOf k) (on_link link.0 t)
    → IsSame k t ((link, Beat.A x) ∷ t)
same-else {w} link x t k place ok serves acquires = record {
  serves = serves;
  granted = λ s e. granted_a link x t s;
  acquires = λ c. acquires_at c (link.0 == c) refl;
  grants = λ c. beat-keeps (pending (GrantAckOf k)) c link (Beat.A x) t
      (λ h. pending-quiet (GrantAckOf k) (Beat.A x) h refl refl);
  requests = λ s e free. request-kept link x t s.link.0 s.request.source place (asking-pending k s t ok e free);
  sinks = λ c. beat-keeps (grant_sink k) c link (Beat.A x) t (grant_sink-a k x);
  probes = λ c e. sym (beat-keeps (pending (ProbeOf k)) c link (Beat.A x) t
      (λ h. pending-quiet (ProbeOf k) (Beat.A x) h refl refl)) ∙ e;
  probe = λ c. beat-keeps (probe_of k) c link (Beat.A x) t (probe_of-a k x);
}
  where
    acquires_at : (c : ℕ) (b : Bool) → (link.0 == c) ≡ b
        → pending (AcquireOf k) (on_link c ((link, Beat.A x) ∷ t)) ≡ pending (AcquireOf k) (on_link c t)
    acquires_at c true e =
        subst (λ (i : ℕ). pending (AcquireOf k) (on_link i ((link, Beat.A x) ∷ t)) ≡ pending (AcquireOf k)
        (on_link i t)) (eqb-true link.0 c e)
        (ap (pending (AcquireOf k)) (own_beat link.0 link (Beat.A x) t (eq-eqb link.0 link.0 refl)) ∙ acquires)
    acquires_at c false e = ap (pending (AcquireOf k)) (other_beat c link (Beat.A x) t e)
