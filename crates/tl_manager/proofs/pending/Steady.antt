-- What is pending after any beat that the manager takes.
use Rattle.tl_manager.proofs.Imports.{IsWidth, Beat, BeatA, BeatE, Link, Config, ProbeOf, Cap, Trace, on_link, ends}
use Rattle.tl_manager.proofs.Imports.{block_at, pending, pending-quiet, Reaction, with_handed, probes, cap_probed}
use Rattle.tl_manager.proofs.Imports.{probed, IsSound, is_awaited, IsSteady, Service, services, service_of_block}
use Rattle.tl_manager.proofs.Imports.{is_in_service, is_ended_by, reaction, End, level_of, must_wait, IsReady, IsServed}
use Rattle.tl_manager.proofs.Imports.{IsTaken}
use Rattle.std.proofs.Common.{◌≡◌, ℕ, Bool, true, false, not, List, [], ◌∷◌, length, Option, Some, None, refl, sym, ap}
use Rattle.std.proofs.Common.{◌∙◌}
use Rattle.std.specs.Prelude.{nat_le, if◌then◌else◌}
use Rattle.std.proofs.lemmas.Bool.{eq-eqb, or_parts, le-leb}
use Rattle.tl_manager.{proofs.pending.Accepted.granted_a, proofs.pending.Asked.Place, proofs.pending.Asked.placed}
use Rattle.tl_manager.{proofs.services.Ended.services-part, proofs.pending.Handed.whole-taken}
use Rattle.tl_manager.{proofs.pending.LinkHistories.beat-keeps, proofs.words_of_clients.Masks.legal-small}
use Rattle.tl_manager.{proofs.pending.Performed.performed-steady, proofs.pending.Probed.probes-steady}
use Rattle.tl_manager.{proofs.messages.Sound.leveled, proofs.blocks.Unmoved.awaited-same}
use Rattle.tl_manager.proofs.pending.Acked.{acked-sink, services-e, granted-left, accounted-e}
use Rattle.tl_manager.proofs.calls.Events.{services-request, reaction-part, reaction-probes, reaction-unprobed}
use Rattle.tl_manager.proofs.calls.Events.{reaction-intent, reaction-ack}
use Rattle.tl_manager.proofs.pending.Requested.{service_made, made, new_ungranted, unserved, accounted-part}
use Rattle.tl_manager.proofs.pending.Requested.{accounted-last}
use Rattle.tl_manager.proofs.services.Serving.{if_passes, serving-filter, some_is}
use Rattle.tl_manager.proofs.pending.SteadyReports.{quietly, doing, steady-report}

-- ---- requests

place_of : {w : ℕ} (config : Config) (link : Link) (x : BeatA w) (e : End w) → IsTaken config link (Beat.A x) e
    → Place x (on_link link.0 e.trace)
place_of config link x e is = placed config.profile x (on_link link.0 e.trace) is.passes.order
    (is.before.steady.accounted.begun link.0)

pub missing_a : {w : ℕ} (link : Link) (x : BeatA w) (t : Trace w) (k c : ℕ)
    → pending (ProbeOf k) (on_link c ((link, Beat.A x) ∷ t)) ≡ pending (ProbeOf k) (on_link c t)
missing_a link x t k c = beat-keeps (pending (ProbeOf k)) c link (Beat.A x) t
    (λ h. pending-quiet (ProbeOf k) (Beat.A x) h refl refl)

request-part : {w : ℕ} (config : Config) (link : Link) (x : BeatA w) (e : End w) → IsTaken config link (Beat.A x) e
    → ends (Beat.A x) (on_link link.0 e.trace) ≡ false
    → IsSteady config ((link, Beat.A x) ∷ e.trace)
request-part config link x e is part = record {
  accounted = accounted-part link x e.trace (place_of config link x e is) part is.before.steady.accounted;
  awaited = λ k. awaited-same config k e.trace ((link, Beat.A x) ∷ e.trace)
      (ap (service_of_block k) (services-part (link, Beat.A x) e.trace part))
      (λ s f. granted_a link x e.trace s) (missing_a link x e.trace k) (is.before.steady.awaited k);
}

small : {w : ℕ} (config : Config) (link : Link) (x : BeatA w) → IsWidth w → IsSound config (link, Beat.A x)
    → nat_le x.size 6 ≡ true
small config link x width sound =
    let l = leveled (level_of config link.0) (Beat.A x) sound.lawful in
    le-leb x.size 6 (legal-small l.0 x width l.2)

unused : {w : ℕ} (config : Config) (link : Link) (x : BeatA w) (t : Trace w)
    → must_wait config link (Beat.A x) t ≡ false → ends (Beat.A x) (on_link link.0 t) ≡ true
    → is_in_service (block_at x.address) (services t) ≡ false
unused config link x t waits last =
    (or_parts (is_in_service (block_at x.address) (services t)) (nat_le config.trackers (length (services t)))
    (rw last at waits)).0

-- the request that the beat completes may be performed, where it probes nobody
pub request-ready : {w : ℕ} (config : Config) (link : Link) (x : BeatA w) (e : End w) (fits : nat_le x.size 6 ≡ true)
    → IsTaken config link (Beat.A x) e
    → IsServed link x (service_made link x e.trace fits) e.trace
    → IsReady config (block_at x.address) (service_made link x e.trace fits) ((link, Beat.A x) ∷ e.trace)
request-ready {w} config link x e fits is served = record {
  width = is.width;
  accounted = accounted-last link x t fits (place_of config link x e is) is.before.sinks free served
      is.before.steady.accounted;
  serves = ap (service_of_block n) more ∙ rw (eq-eqb n n refl) refl;
  unanswered = new_ungranted link x t fits is.before.sinks;
  settled = λ d. missing_a link x t n d ∙ calm d (pending (ProbeOf n) (on_link d t)) refl;
  whole = λ d. whole-taken d link (Beat.A x) t refl (is.before.whole d);
  blocks_apart = is.blocks_apart;
  trackers_apart = is.trackers_apart;
  awaited = λ k other. awaited-same config k t ((link, Beat.A x) ∷ t) (ap (service_of_block k) more ∙ rw other refl)
      (λ v f. granted_a link x t v) (missing_a link x t k) (is.before.steady.awaited k);
}
  where
    t : Trace w
    t = e.trace

    n : ℕ
    n = block_at x.address

    free : is_in_service n (services t) ≡ false
    free = unused config link x t is.passes.waits served.last

    more : services ((link, Beat.A x) ∷ t) ≡ service_made link x t fits ∷ services t
    more = services-request link x (service_made link x t fits) t served

    calm : (d : ℕ) (b : Bool) → pending (ProbeOf n) (on_link d t) ≡ b → b ≡ false
    calm d true f = let probed_by = (is.before.steady.accounted.blocks n).probes d f in absurd
        (let no : Some probed_by.service ≡ None = sym probed_by.serves ∙ unserved (service_of_block n (services t)) free
        in cc)
    calm d false f = refl

request-last : {w : ℕ} (config : Config) (link : Link) (x : BeatA w) (e : End w) → IsTaken config link (Beat.A x) e
    → ends (Beat.A x) (on_link link.0 e.trace) ≡ true
    → IsSteady config (with_handed (reaction config link (Beat.A x) e).handed ((link, Beat.A x) ∷ e.trace))
request-last {w} config link x e is last = go (cap_probed s.request.opcode s.request.param) refl
  where
    u : Trace w
    u = (link, Beat.A x) ∷ e.trace

    found : (fits : nat_le x.size 6 ≡ true) × IsServed link x (service_made link x e.trace fits) e.trace
    found = made link x e.trace last (small config link x is.width is.passes.sound)

    s : Service w
    s = service_made link x e.trace found.0

    ready : IsReady config (block_at x.address) s u
    ready = request-ready config link x e found.0 is found.1

    probing : (k : Cap) → cap_probed s.request.opcode s.request.param ≡ Some k → (ds : List ℕ)
        → probed config s k u ≡ ds → IsSteady config (with_handed (reaction config link (Beat.A x) e).handed u)
    probing k caps [] f = doing config link (Beat.A x) e _ (reaction-unprobed config link x s k e found.1 caps f)
        (performed-steady config (block_at x.address) s u e.memory ready)
    probing k caps (d ∷ ds) f =
        doing config link (Beat.A x) e (record {
          handed = probes (block_at x.address) k (probed config s k u);
          memory =
              e.memory;
        })
        (reaction-probes config link x s k d ds e found.1 caps f ∙ ap
        (λ (cs : List ℕ). record { handed = probes (block_at x.address) k cs; memory = e.memory }) (sym f))
        (probes-steady config (block_at x.address) s k d ds u ready caps f)

    go : (o : Option Cap) → cap_probed s.request.opcode s.request.param ≡ o
        → IsSteady config (with_handed (reaction config link (Beat.A x) e).handed u)
    go None caps = doing config link (Beat.A x) e _ (reaction-intent config link x s e found.1 caps)
        (performed-steady config (block_at x.address) s u e.memory ready)
    go (Some k) caps = probing k caps (probed config s k u) refl

-- ---- GrantAcks

ack : {w : ℕ} (config : Config) (link : Link) (x : BeatE) (e : End w) → IsTaken config link (Beat.E x) e
    → IsSteady config ((link, Beat.E x) ∷ e.trace)
ack {w} config link x e is = record {
  accounted = accounted-e link x t (acked-sink config.profile x (on_link link.0 t) is.passes.order)
      is.before.blocks_apart is.before.steady.accounted;
  awaited = λ k. awaited k (service_of_block k (services t)) refl;
}
  where
    t : Trace w
    t = e.trace

    u : Trace w
    u = (link, Beat.E x) ∷ t

    keeps : Service w → Bool
    keeps s = not (is_ended_by (link, Beat.E x) s)

    serves : (k : ℕ) → service_of_block k (services u) ≡ if_passes keeps (service_of_block k (services t))
    serves k = ap (service_of_block k) (services-e link x t) ∙ serving-filter k keeps (services t)
        is.before.blocks_apart

    missing : (k d : ℕ) → pending (ProbeOf k) (on_link d u) ≡ pending (ProbeOf k) (on_link d t)
    missing k d = beat-keeps (pending (ProbeOf k)) d link (Beat.E x) t
        (λ h. pending-quiet (ProbeOf k) (Beat.E x) h refl refl)

    left : (k : ℕ) (s : Service w) (b : Bool) → is_ended_by (link, Beat.E x) s ≡ b
        → service_of_block k (services t) ≡ Some s → service_of_block k (services u) ≡ (if not b then Some s else None)
        → is_awaited config k u (service_of_block k (services u)) ≡ true
    left k s true f found after = ap (is_awaited config k u) after
    left k s false f found after =
        awaited-same config k t u (after ∙ sym found)
        (λ v g. granted-left link x t v (ap (is_ended_by (link, Beat.E x)) (some_is v s (sym g ∙ found)) ∙ f))
        (missing k) (is.before.steady.awaited k)

    awaited : (k : ℕ) (o : Option (Service w)) → service_of_block k (services t) ≡ o
        → is_awaited config k u (service_of_block k (services u)) ≡ true
    awaited k None f = ap (is_awaited config k u) (serves k ∙ ap (if_passes keeps) f)
    awaited k (Some s) f = left k s (is_ended_by (link, Beat.E x) s) refl f (serves k ∙ ap (if_passes keeps) f)

-- ---- any beat

pub steady-reaction : {w : ℕ} (config : Config) (link : Link) (x : Beat w) (e : End w) → IsTaken config link x e
    → IsSteady config (with_handed (reaction config link x e).handed ((link, x) ∷ e.trace))
steady-reaction {w} config link (Beat.A x) e is = go (ends (Beat.A x) (on_link link.0 e.trace)) refl
  where
    go : (b : Bool) → ends (Beat.A x) (on_link link.0 e.trace) ≡ b
        → IsSteady config (with_handed (reaction config link (Beat.A x) e).handed ((link, Beat.A x) ∷ e.trace))
    go true f = request-last config link x e is f
    go false f = quietly config link (Beat.A x) e
        (ap (λ (d : Reaction w). d.handed) (reaction-part config link (Beat.A x) e f))
        (request-part config link x e is f)
steady-reaction config link (Beat.B x) e is = absurd (let theirs = is.passes.theirs in cc)
steady-reaction config link (Beat.C x) e is = steady-report config link x e is
steady-reaction config link (Beat.D x) e is = absurd (let theirs = is.passes.theirs in cc)
steady-reaction {w} config link (Beat.E x) e is =
    quietly config link (Beat.E x) e (ap (λ (d : Reaction w). d.handed) (reaction-ack config link x e))
    (ack config link x e is)
