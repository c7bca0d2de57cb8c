-- What is pending of a block that a beat or a message isn't of.
use Rattle.tl_manager.proofs.Imports.{Beat, History, unfinished, Config, RequestSource, AcquireOf, GrantAckOf, ProbeOf}
use Rattle.tl_manager.proofs.Imports.{Trace, on_link, block_at, is_acquire, pending, request_of, probe_of, grant_sink}
use Rattle.tl_manager.proofs.Imports.{is_settled, is_missing, is_nobody, is_granted, is_acquiring, is_granted_to}
use Rattle.tl_manager.proofs.Imports.{is_awaited, HasFields, IsBegun, IsReporting, IsNamed, IsProbed, IsHandled}
use Rattle.tl_manager.proofs.Imports.{IsAccounted, Service, services, service_of_block}
use Rattle.std.proofs.Common.{◌≡◌, ℕ, ◌==◌, true, false, not, ◌&&◌, ◌||◌, List, [], ◌∷◌, Option, Some, None, refl, sym}
use Rattle.std.proofs.Common.{ap, subst, ◌∙◌}
use Rattle.tl_beat.specs.declared.channel.Channel.{Channel}
use Rattle.tl_manager.{proofs.words_of_clients.Clients.where-same, proofs.words_of_clients.Counts.counted-kept}

-- the traces say the same of the block, where less may be missing
pub record IsSame {w : ℕ} (k : ℕ) (t u : Trace w) : Type 0 where
  pub serves : service_of_block k (services u) ≡ service_of_block k (services t)
  pub granted : (s : Service w) → service_of_block k (services t) ≡ Some s → is_granted u s ≡ is_granted t s
  pub acquires : (c : ℕ) → pending (AcquireOf k) (on_link c u) ≡ pending (AcquireOf k) (on_link c t)
  pub grants : (c : ℕ) → pending (GrantAckOf k) (on_link c u) ≡ pending (GrantAckOf k) (on_link c t)
  pub requests : (s : Service w) → service_of_block k (services t) ≡ Some s → is_granted t s ≡ false
      → request_of s.request.source (on_link s.link.0 u) ≡ request_of s.request.source (on_link s.link.0 t)
  pub sinks : (c : ℕ) → grant_sink k (on_link c u) ≡ grant_sink k (on_link c t)
  pub probes : (c : ℕ) → pending (ProbeOf k) (on_link c u) ≡ true → pending (ProbeOf k) (on_link c t) ≡ true
  pub probe : (c : ℕ) → probe_of k (on_link c u) ≡ probe_of k (on_link c t)

acquiring-same : {w : ℕ} (c : ℕ) (t u : Trace w) (o : Option (Service w))
    → ((s : Service w) → o ≡ Some s → is_granted u s ≡ is_granted t s) → is_acquiring c t o ≡ is_acquiring c u o
acquiring-same c t u None same = refl
acquiring-same c t u (Some s) same = ap (λ b. is_acquire s.request.opcode && ((s.link.0 == c) && not b))
    (sym (same s refl))

granted-same : {w : ℕ} (c : ℕ) (t u : Trace w) (o : Option (Service w))
    → ((s : Service w) → o ≡ Some s → is_granted u s ≡ is_granted t s) → is_granted_to c t o ≡ is_granted_to c u o
granted-same c t u None same = refl
granted-same c t u (Some s) same = ap (λ b. (s.link.0 == c) && b) (sym (same s refl))

named-same : {w : ℕ} (k : ℕ) (t u : Trace w) (o : Option (Service w))
    → ((s : Service w) → o ≡ Some s → is_granted u s ≡ is_granted t s)
    → ((s : Service w) → o ≡ Some s → is_granted t s ≡ false
    → request_of s.request.source (on_link s.link.0 u) ≡ request_of s.request.source (on_link s.link.0 t))
    → ((c : ℕ) → grant_sink k (on_link c u) ≡ grant_sink k (on_link c t)) → IsNamed k t o → IsNamed k u o
named-same k t u None same requests sinks ok = tt
named-same k t u (Some s) same requests sinks ok = (
  λ e.
      let before : is_granted t s ≡ false = sym (same s refl) ∙ e in
      subst (HasFields s.request.opcode s.request.param s.request.size s.request.source s.request.address)
      (sym (requests s refl before)) (ok.0 before),
  λ e. sinks s.link.0 ∙ ok.1 (sym (same s refl) ∙ e),
)

probed-same : {w : ℕ} (c k : ℕ) (t u : Trace w) → IsSame k t u → IsProbed c k t → IsProbed c k u
probed-same c k t u same is = record {
  service = is.service;
  cap = is.cap;
  serves = same.serves ∙ is.serves;
  unanswered = same.granted is.service is.serves ∙ is.unanswered;
  others = is.others;
  caps = is.caps;
  probe = same.probe c ∙ is.probe;
}

pub handled-same : {w : ℕ} (k : ℕ) (t u : Trace w) → IsSame k t u → IsHandled k t → IsHandled k u
handled-same k t u same ok = record {
  acquires = λ c. same.acquires c ∙ ok.acquires c ∙ acquiring-same c t u (service_of_block k (services t)) same.granted
      ∙ ap (is_acquiring c u) (sym same.serves);
  grants = λ c. same.grants c ∙ ok.grants c ∙ granted-same c t u (service_of_block k (services t)) same.granted ∙ ap
      (is_granted_to c u) (sym same.serves);
  named = subst (IsNamed k u) (sym same.serves) (named-same k t u (service_of_block k (services t)) same.granted
      same.requests same.sinks ok.named);
  probes = λ c e. probed-same c k t u same (ok.probes c (same.probes c e));
}

-- the same but for its ProbeAcks
pub record IsQuiet {w : ℕ} (k : ℕ) (t u : Trace w) : Type 0 where
  pub serves : service_of_block k (services u) ≡ service_of_block k (services t)
  pub granted : (s : Service w) → service_of_block k (services t) ≡ Some s → is_granted u s ≡ is_granted t s
  pub acquires : (c : ℕ) → pending (AcquireOf k) (on_link c u) ≡ pending (AcquireOf k) (on_link c t)
  pub grants : (c : ℕ) → pending (GrantAckOf k) (on_link c u) ≡ pending (GrantAckOf k) (on_link c t)
  pub requests : (s : Service w) → service_of_block k (services t) ≡ Some s → is_granted t s ≡ false
      → request_of s.request.source (on_link s.link.0 u) ≡ request_of s.request.source (on_link s.link.0 t)
  pub sinks : (c : ℕ) → grant_sink k (on_link c u) ≡ grant_sink k (on_link c t)

pub handled-quiet : {w : ℕ} (k : ℕ) (t u : Trace w) → IsQuiet k t u
    → ((c : ℕ) → pending (ProbeOf k) (on_link c u) ≡ true → IsProbed c k u) → IsHandled k t → IsHandled k u
handled-quiet k t u same probes ok = record {
  acquires = λ c. same.acquires c ∙ ok.acquires c ∙ acquiring-same c t u (service_of_block k (services t)) same.granted
      ∙ ap (is_acquiring c u) (sym same.serves);
  grants = λ c. same.grants c ∙ ok.grants c ∙ granted-same c t u (service_of_block k (services t)) same.granted ∙ ap
      (is_granted_to c u) (sym same.serves);
  named = subst (IsNamed k u) (sym same.serves) (named-same k t u (service_of_block k (services t)) same.granted
      same.requests same.sinks ok.named);
  probes = probes;
}

-- ---- requests and bursts

-- the traces have the same requests, answered or not
pub record KeepsRequests {w : ℕ} (t u : Trace w) : Type 0 where
  pub serves : services u ≡ services t
  pub granted : (s : Service w) → is_granted u s ≡ is_granted t s
  pub bursts : (c : ℕ) → unfinished Channel.A (on_link c u) ≡ unfinished Channel.A (on_link c t)
  pub sources : (c q : ℕ) → pending (RequestSource q) (on_link c u) ≡ pending (RequestSource q) (on_link c t)
  pub requests : (c q : ℕ) → request_of q (on_link c u) ≡ request_of q (on_link c t)

begun-same : {w : ℕ} (t u : History w) (burst : List (Beat w)) → ((q : ℕ) → request_of q u ≡ request_of q t)
    → IsBegun t burst → IsBegun u burst
begun-same t u [] same ok = tt
begun-same t u (Beat.A x ∷ burst) same ok =
    (ok.0, subst (HasFields x.opcode x.param x.size x.source x.address) (sym (same x.source)) ok.1)
begun-same t u v same ok = absurd ok

pub begun-kept : {w : ℕ} (t u : Trace w) (c : ℕ) → unfinished Channel.A (on_link c u) ≡ unfinished Channel.A
    (on_link c t)
    → ((q : ℕ) → request_of q (on_link c u) ≡ request_of q (on_link c t)) → IsAccounted t
    → IsBegun (on_link c u) (unfinished Channel.A (on_link c u))
begun-kept t u c bursts requests ok =
    subst (IsBegun (on_link c u)) (sym bursts)
    (begun-same (on_link c t) (on_link c u) (unfinished Channel.A (on_link c t)) requests (ok.begun c))

-- a report that is unfinished
reporting-same : {w : ℕ} (t u : History w) (burst : List (Beat w))
    → ((k : ℕ) → pending (ProbeOf k) t ≡ true → pending (ProbeOf k) u ≡ true) → IsReporting t burst
    → IsReporting u burst
reporting-same t u (Beat.C x ∷ burst) still ok = λ e. still (block_at x.address) (ok e)
reporting-same t u v still ok = tt

pub reports-kept : {w : ℕ} (t u : Trace w) (c : ℕ) → unfinished Channel.C (on_link c u) ≡ unfinished Channel.C
    (on_link c t)
    → ((k : ℕ) → pending (ProbeOf k) (on_link c t) ≡ true → pending (ProbeOf k) (on_link c u) ≡ true) → IsAccounted t
    → IsReporting (on_link c u) (unfinished Channel.C (on_link c u))
reports-kept t u c bursts still ok =
    subst (IsReporting (on_link c u)) (sym bursts)
    (reporting-same (on_link c t) (on_link c u) (unfinished Channel.C (on_link c t)) still (ok.reports c))

pub accounted-kept : {w : ℕ} (t u : Trace w) → KeepsRequests t u
    → ((c : ℕ) → IsReporting (on_link c u) (unfinished Channel.C (on_link c u))) → ((k : ℕ) → IsHandled k u)
    → IsAccounted t
    → IsAccounted u
accounted-kept t u same reports handled ok = record {
  sources = λ c q. rw (same.bursts c, same.sources c q, same.serves, counted-kept t u c q (services t) same.granted)
      (ok.sources c q);
  begun = λ c. begun-kept t u c (same.bursts c) (same.requests c) ok;
  reports = reports;
  blocks = handled;
}

-- ---- whether a request is still awaited

-- where the same ProbeAcks of a block are missing
pub settled-same : {w : ℕ} (config : Config) (k : ℕ) (t u : Trace w)
    → ((c : ℕ) → pending (ProbeOf k) (on_link c u) ≡ pending (ProbeOf k) (on_link c t))
    → is_settled config k u ≡ is_settled config k t
settled-same config k t u same = ap is_nobody (where-same 0 _ (λ c. is_missing c k u) (λ c. is_missing c k t) same)

pub awaited-same : {w : ℕ} (config : Config) (k : ℕ) (t u : Trace w)
    → service_of_block k (services u) ≡ service_of_block k (services t)
    → ((s : Service w) → service_of_block k (services t) ≡ Some s → is_granted u s ≡ is_granted t s)
    → ((c : ℕ) → pending (ProbeOf k) (on_link c u) ≡ pending (ProbeOf k) (on_link c t))
    → is_awaited config k t (service_of_block k (services t)) ≡ true
    → is_awaited config k u (service_of_block k (services u)) ≡ true
awaited-same {w} config k t u serves same missing ok =
    ap (is_awaited config k u) serves ∙ go (service_of_block k (services t)) same ok
  where
    go : (o : Option (Service w)) → ((s : Service w) → o ≡ Some s → is_granted u s ≡ is_granted t s)
        → is_awaited config k t o ≡ true → is_awaited config k u o ≡ true
    go None granted e = refl
    go (Some s) granted e = ap (λ b. b || not (is_settled config k u)) (granted s refl) ∙ ap
        (λ b. is_granted t s || not b) (settled-same config k t u missing) ∙ e
