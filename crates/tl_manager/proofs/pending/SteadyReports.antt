-- What is pending after a beat of channel C that the manager takes.
use Rattle.tl_manager.proofs.Imports.{IsWidth, Beat, BeatC, Link, OpC, Message, D, MessageD, unfinished, Config}
use Rattle.tl_manager.proofs.Imports.{GrantSink, ProbeOf, Trace, on_link, ends, block_at, is_probe_ack, is_release}
use Rattle.tl_manager.proofs.Imports.{is_release_ack, is_grant, pending, pending-quiet, never, Reaction, with_handed}
use Rattle.tl_manager.proofs.Imports.{release_ack, is_settled, is_granted, is_awaited, IsSteady, Service, services}
use Rattle.tl_manager.proofs.Imports.{service_of_block, reaction, End, IsReady, IsTaken}
use Rattle.std.proofs.Common.{◌≡◌, ℕ, ◌==◌, Bool, true, false, not, ◌&&◌, ◌||◌, [], ◌∷◌, Option, Some, None, refl, sym}
use Rattle.std.proofs.Common.{ap, subst, ◌∙◌}
use Rattle.std.proofs.lemmas.Bool.{eqb-true}
use Rattle.tl_beat.specs.declared.channel.Channel.{Channel}
use Rattle.tl_manager.{proofs.pending.Accepted.granted-kept, proofs.pending.Handed.after_sent}
use Rattle.tl_manager.{proofs.pending.Handed.whole-taken, proofs.pending.Performed.performed-steady}
use Rattle.tl_manager.{proofs.pending.Replies.reply-quiet, proofs.services.Serving.some_is}
use Rattle.tl_manager.{proofs.pending.Settled.settled-all, proofs.blocks.Unmoved.awaited-same}
use Rattle.tl_manager.proofs.pending.Accesses.{granted-still, services-release_ack, accounted-release_ack}
use Rattle.tl_manager.proofs.calls.Events.{reaction-part, reaction-release, reaction-report, reaction-settled}
use Rattle.tl_manager.proofs.calls.Events.{memory_with}
use Rattle.tl_manager.proofs.pending.LinkHistories.{own_beat, other_beat}
use Rattle.tl_manager.proofs.pending.Probing.{services-c, missing-else_c, missing-part, report-pending, accounted-c}

-- where nothing is handed out
pub quietly : {w : ℕ} (config : Config) (link : Link) (x : Beat w) (e : End w) → (reaction config link x e).handed ≡ []
    → IsSteady config ((link, x) ∷ e.trace)
    → IsSteady config (with_handed (reaction config link x e).handed ((link, x) ∷ e.trace))
unfolding with_handed
quietly config link x e nothing ok = rw nothing ok

-- where this is done
pub doing : {w : ℕ} (config : Config) (link : Link) (x : Beat w) (e : End w) (d : Reaction w)
    → reaction config link x e ≡ d → IsSteady config (with_handed d.handed ((link, x) ∷ e.trace))
    → IsSteady config (with_handed (reaction config link x e).handed ((link, x) ∷ e.trace))
doing {w} config link x e d is ok =
    subst (λ (i : Reaction w). IsSteady config (with_handed i.handed ((link, x) ∷ e.trace))) (sym is) ok

-- ---- which ProbeAcks are missing

pub release_kind : (opcode : OpC) → is_release opcode ≡ true → is_probe_ack opcode ≡ false
release_kind OpC.Release e = refl
release_kind OpC.ReleaseData e = refl
release_kind v e = absurd cc

pub granted_c : {w : ℕ} (link : Link) (x : BeatC w) (t : Trace w) (s : Service w)
    → is_granted ((link, Beat.C x) ∷ t) s ≡ is_granted t s
granted_c link x t s = granted-kept link (Beat.C x) t s (λ sink h. pending-quiet (GrantSink sink) (Beat.C x) h refl
    refl)

missing_part : {w : ℕ} (link : Link) (x : BeatC w) (t : Trace w) (k d : ℕ) → ends (Beat.C x) (on_link link.0 t) ≡ false
    → pending (ProbeOf k) (on_link d ((link, Beat.C x) ∷ t)) ≡ pending (ProbeOf k) (on_link d t)
missing_part {w} link x t k d part = go (link.0 == d) refl
  where
    go : (b : Bool) → (link.0 == d) ≡ b → pending (ProbeOf k) (on_link d ((link, Beat.C x) ∷ t)) ≡ pending (ProbeOf k)
        (on_link d t)
    go true e = ap (pending (ProbeOf k)) (own_beat d link (Beat.C x) t e) ∙ missing-part x (on_link d t) k
        (subst (λ (i : ℕ). ends (Beat.C x) (on_link i t) ≡ false) (eqb-true link.0 d e) part)
    go false e = ap (pending (ProbeOf k)) (other_beat d link (Beat.C x) t e)

-- where as many are missing as before
still-steady : {w : ℕ} (config : Config) (link : Link) (x : BeatC w) (e : End w) → IsTaken config link (Beat.C x) e
    → ((k d : ℕ) → pending (ProbeOf k) (on_link d ((link, Beat.C x) ∷ e.trace)) ≡ pending (ProbeOf k)
    (on_link d e.trace)) → IsSteady config ((link, Beat.C x) ∷ e.trace)
still-steady config link x e is same = record {
  accounted = accounted-c config.profile link x e.trace is.passes.order is.before.steady.accounted;
  awaited = λ k. awaited-same config k e.trace ((link, Beat.C x) ∷ e.trace)
      (ap (service_of_block k) (services-c link x e.trace))
      (λ s f. granted_c link x e.trace s) (same k) (is.before.steady.awaited k);
}

no_report : {w : ℕ} (config : Config) (link : Link) (x : BeatC w) (e : End w) → IsTaken config link (Beat.C x) e
    → is_probe_ack x.opcode ≡ false → IsSteady config ((link, Beat.C x) ∷ e.trace)
no_report config link x e is other =
    still-steady config link x e is (λ k d. missing-else_c link x e.trace d k (rw other refl))

-- ---- a Release

pub release_is : {w : ℕ} (source : ℕ) → (m : MessageD w) × (release_ack source ≡ D m) × (is_release_ack m.opcode ≡ true)
    × (is_grant m.opcode ≡ false)
release_is source = (_, refl, refl, refl)

acked-steady : {w : ℕ} (config : Config) (link : Link) (m : MessageD w) (t : Trace w) → IsWidth w
    → unfinished Channel.D (on_link link.0 t) ≡ [] → is_release_ack m.opcode ≡ true
    → is_grant m.opcode ≡ false → IsSteady config t → IsSteady config (after_sent link (D m) t)
acked-steady config link m t width none ack other ok = record {
  accounted = accounted-release_ack link m t width none ack ok.accounted;
  awaited = λ k.
      awaited-same config k t (after_sent link (D m) t)
      (ap (service_of_block k) (services-release_ack link m t width none ack))
      (λ s f. granted-still link m t s width none other)
      (λ d. reply-quiet (ProbeOf k) link m t d width none (λ f. (refl, refl))) (ok.awaited k);
}

release : {w : ℕ} (config : Config) (link : Link) (x : BeatC w) (e : End w) → IsTaken config link (Beat.C x) e
    → is_release x.opcode ≡ true
    → IsSteady config (with_handed ((link, release_ack x.source) ∷ []) ((link, Beat.C x) ∷ e.trace))
unfolding with_handed
release {w} config link x e is kind =
    let m = release_is {w = w} x.source in
    subst (λ (i : Message w). IsSteady config (after_sent link i ((link, Beat.C x) ∷ e.trace))) (sym m.1)
    (acked-steady config link m.0 ((link, Beat.C x) ∷ e.trace) is.width
    (whole-taken link.0 link (Beat.C x) e.trace refl (is.before.whole link.0)).1 m.2 m.3
    (no_report config link x e is (release_kind x.opcode kind)))

-- ---- a ProbeAck

apart_block : {w : ℕ} (x : BeatC w) (k : ℕ) → (block_at x.address == k) ≡ false
    → (is_probe_ack x.opcode && (block_at x.address == k)) ≡ false
apart_block x k e = rw e (never (is_probe_ack x.opcode))

awaited-else : {w : ℕ} (config : Config) (link : Link) (x : BeatC w) (e : End w) (k : ℕ)
    → IsTaken config link (Beat.C x) e → (block_at x.address == k) ≡ false
    → is_awaited config k ((link, Beat.C x) ∷ e.trace) (service_of_block k (services ((link, Beat.C x) ∷ e.trace)))
    ≡ true
awaited-else config link x e k is other =
    awaited-same config k e.trace ((link, Beat.C x) ∷ e.trace) (ap (service_of_block k) (services-c link x e.trace))
    (λ s f. granted_c link x e.trace s)
    (λ d. missing-else_c link x e.trace d k (apart_block x k other)) (is.before.steady.awaited k)

-- where its block's service is awaited still
reported : {w : ℕ} (config : Config) (link : Link) (x : BeatC w) (e : End w) → IsTaken config link (Beat.C x) e
    → is_awaited config (block_at x.address) ((link, Beat.C x) ∷ e.trace)
    (service_of_block (block_at x.address) (services ((link, Beat.C x) ∷ e.trace))) ≡ true
    → IsSteady config ((link, Beat.C x) ∷ e.trace)
reported {w} config link x e is here = record {
  accounted = accounted-c config.profile link x e.trace is.passes.order is.before.steady.accounted;
  awaited = λ k. go k (block_at x.address == k) refl;
}
  where
    go : (k : ℕ) (b : Bool) → (block_at x.address == k) ≡ b → is_awaited config k ((link, Beat.C x) ∷ e.trace)
        (service_of_block k (services ((link, Beat.C x) ∷ e.trace))) ≡ true
    go k true f = subst (λ (i : ℕ). is_awaited config i ((link, Beat.C x) ∷ e.trace)
        (service_of_block i (services ((link, Beat.C x) ∷ e.trace))) ≡ true) (eqb-true (block_at x.address) k f) here
    go k false f = awaited-else config link x e k is f

-- the service that probed its sender
pub report-service : {w : ℕ} (config : Config) (link : Link) (x : BeatC w) (e : End w)
    → IsTaken config link (Beat.C x) e → is_probe_ack x.opcode ≡ true
    → (s : Service w) × (service_of_block (block_at x.address) (services ((link, Beat.C x) ∷ e.trace)) ≡ Some s)
    × (is_granted ((link, Beat.C x) ∷ e.trace) s ≡ false)
report-service config link x e is kind =
    let missing = report-pending config.profile x (on_link link.0 e.trace) is.passes.order
    (is.before.steady.accounted.reports link.0) kind in
    let probed_by = (is.before.steady.accounted.blocks (block_at x.address)).probes link.0 missing in (
      probed_by.service,
      ap (service_of_block (block_at x.address)) (services-c link x e.trace) ∙ probed_by.serves,
      granted_c link x e.trace probed_by.service ∙ probed_by.unanswered,
    )

-- its request may be performed, where no other ProbeAck is missing
pub report-ready : {w : ℕ} (config : Config) (link : Link) (x : BeatC w) (s : Service w) (e : End w)
    → IsTaken config link (Beat.C x) e → is_probe_ack x.opcode ≡ true
    → service_of_block (block_at x.address) (services ((link, Beat.C x) ∷ e.trace)) ≡ Some s
    → is_settled config (block_at x.address) ((link, Beat.C x) ∷ e.trace) ≡ true
    → IsReady config (block_at x.address) s ((link, Beat.C x) ∷ e.trace)
report-ready config link x s e is kind found all =
    let asked = report-service config link x e is kind in
    let same = some_is asked.0 s (sym asked.1 ∙ found) in
    record {
      width = is.width;
      accounted = accounted-c config.profile link x e.trace is.passes.order is.before.steady.accounted;
      serves = found;
      unanswered = ap (is_granted ((link, Beat.C x) ∷ e.trace)) (sym same) ∙ asked.2;
      settled = settled-all config (block_at x.address) ((link, Beat.C x) ∷ e.trace) (is.passes.sound, is.before.sound)
          all;
      whole = λ d. whole-taken d link (Beat.C x) e.trace refl (is.before.whole d);
      blocks_apart = is.blocks_apart;
      trackers_apart = is.trackers_apart;
      awaited = λ k f. awaited-else config link x e k is f;
    }

report : {w : ℕ} (config : Config) (link : Link) (x : BeatC w) (e : End w) → IsTaken config link (Beat.C x) e
    → ends (Beat.C x) (on_link link.0 e.trace) ≡ true → is_release x.opcode ≡ false
    → is_probe_ack x.opcode ≡ true
    → IsSteady config (with_handed (reaction config link (Beat.C x) e).handed ((link, Beat.C x) ∷ e.trace))
report {w} config link x e is last other kind = go (is_settled config n u) refl
  where
    u : Trace w
    u = (link, Beat.C x) ∷ e.trace

    n : ℕ
    n = block_at x.address

    either : (b : Bool) → (b || true) ≡ true
    either true = refl
    either false = refl

    more : (o : Option (Service w)) → is_settled config n u ≡ false → is_awaited config n u o ≡ true
    more None f = refl
    more (Some s) f = ap (λ b. is_granted u s || not b) f ∙ either (is_granted u s)

    go : (b : Bool) → is_settled config n u ≡ b
        → IsSteady config (with_handed (reaction config link (Beat.C x) e).handed u)
    go true f =
        let s = report-service config link x e is kind in
        doing config link (Beat.C x) e _ (reaction-settled config link x s.0 e last other kind f s.1)
        (performed-steady config n s.0 u (memory_with link x e) (report-ready config link x s.0 e is kind s.1 f))
    go false f = quietly config link (Beat.C x) e
        (ap (λ (d : Reaction w). d.handed) (reaction-report config link x e last other kind f))
        (reported config link x e is (more (service_of_block n (services u)) f))

-- ---- any beat of channel C

reaction-other : {w : ℕ} (config : Config) (link : Link) (x : BeatC w) (e : End w)
    → ends (Beat.C x) (on_link link.0 e.trace) ≡ true → is_release x.opcode ≡ false → is_probe_ack x.opcode ≡ false
    → (reaction config link (Beat.C x) e).handed ≡ []
unfolding reaction
reaction-other config link x e last other kind = rw (last, other, kind) refl

pub steady-report : {w : ℕ} (config : Config) (link : Link) (x : BeatC w) (e : End w) → IsTaken config link (Beat.C x) e
    → IsSteady config (with_handed (reaction config link (Beat.C x) e).handed ((link, Beat.C x) ∷ e.trace))
steady-report {w} config link x e is = go (ends (Beat.C x) (on_link link.0 e.trace)) (is_release x.opcode)
    (is_probe_ack x.opcode) refl refl refl
  where
    go : (last kind answers : Bool) → ends (Beat.C x) (on_link link.0 e.trace) ≡ last → is_release x.opcode ≡ kind
        → is_probe_ack x.opcode ≡ answers
        → IsSteady config (with_handed (reaction config link (Beat.C x) e).handed ((link, Beat.C x) ∷ e.trace))
    go false kind answers f g h =
        quietly config link (Beat.C x) e (ap (λ (d : Reaction w). d.handed) (reaction-part config link (Beat.C x) e f))
        (still-steady config link x e is (λ k d. missing_part link x e.trace k d f))
    go true true answers f g h = doing config link (Beat.C x) e _ (reaction-release config link x e f g)
        (release config link x e is g)
    go true false true f g h = report config link x e is f g h
    go true false false f g h = quietly config link (Beat.C x) e (reaction-other config link x e f g h)
        (no_report config link x e is h)
