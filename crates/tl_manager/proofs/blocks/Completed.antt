-- The message of a client that is complete with a beat, and what is kept of the blocks after the beat.
use Rattle.tl_manager.proofs.Imports.{IsWidth, Beat, BeatA, BeatC, BeatE, Link, A, C, E, MessageA, a_beat_of, begun}
use Rattle.tl_manager.proofs.Imports.{beats_of, burst_of, IsBurst, on, unfinished, Config, ProbeOf, Perm, Trace}
use Rattle.tl_manager.proofs.Imports.{on_link, Memory, ends, block_at, pending, is_one_of, IsComplete, Handed}
use Rattle.tl_manager.proofs.Imports.{with_handed, recorded, cap_probed, IsBlockState, IsBlockStateWithout, IsDone}
use Rattle.tl_manager.proofs.Imports.{IsReadyAt, is_granted, IsReady, IsServed, IsTaken, Service, services}
use Rattle.tl_manager.proofs.Imports.{service_of_block, is_in_service, trackers_of, least_untaken, reaction, begun_with}
use Rattle.tl_manager.proofs.Imports.{End, is_from_client, service_with, IsTracked, tracker_at, is_free, BlockState}
use Rattle.tl_manager.proofs.Imports.{Tracker}
use Rattle.std.proofs.Common.{◌≡◌, ℕ, zero, suc, ◌<◌, ◌==◌, Bool, true, false, List, [], ◌∷◌, length, Some, None, refl}
use Rattle.std.proofs.Common.{sym, ap, subst, ◌∙◌}
use Rattle.std.specs.Prelude.{nat_le, unwrap_or}
use Rattle.std.proofs.lemmas.Bool.{eqb-true, ne_eqb, le-leb, or_parts}
use Rattle.tl_beat.specs.declared.channel.Channel.{Channel}
use Rattle.tl_burst.{specs.declared.message.MessageC.MessageC, specs.declared.message.MessageE.MessageE}
use Rattle.tl_burst.{specs.statement.Burst.c_beat_of}
use Rattle.tl_rules.proofs.Payload.{payload-c}
use Rattle.tl_manager.{specs.code.BlockState.IsMessage, specs.laws.Record.reported_by}
use Rattle.tl_manager.{proofs.pending.Accepted.granted_a, proofs.messages.Assembled.request-again}
use Rattle.tl_manager.{proofs.services.Busy.least-tracker, proofs.services.Busy.all-taken}
use Rattle.tl_manager.{proofs.services.Ended.services-part, proofs.calls.Events.services-request}
use Rattle.tl_manager.{proofs.calls.Events.reaction-ack, proofs.pending.Handed.recorded-taken}
use Rattle.tl_manager.{proofs.pending.Probing.missing-part, proofs.pending.Requested.service_made}
use Rattle.tl_manager.{proofs.pending.Requested.made, proofs.services.Serving.none_of_block}
use Rattle.tl_manager.{proofs.services.Serving.some_is, proofs.pending.Steady.request-ready}
use Rattle.tl_manager.{proofs.pending.Steady.missing_a, proofs.pending.SteadyReports.granted_c}
use Rattle.tl_manager.{proofs.services.Trackers.tracked-still}
use Rattle.tl_manager.proofs.pending.LinkHistories.{own_beat, other_beat, whole-e}

-- ---- its newest beat is one of it

pub newest-a : {w : ℕ} (m : MessageA w) (x : BeatA w) (burst : List (Beat w)) (n : ℕ) → Beat.A x ∷ burst ≡ begun (A m) n
    → (k : ℕ) × (x ≡ a_beat_of m k)
newest-a m x burst zero e = absurd cc
newest-a m x burst (suc k) e = (k, cc)

newest-e : {w : ℕ} (m : MessageE) (x : BeatE) (burst : List (Beat w)) → Beat.E x ∷ burst ≡ burst_of (E m)
    → x.sink ≡ m.sink
newest-e {w} m x burst e = let same : Beat.E x ∷ burst ≡ Beat.E (record { sink = m.sink }) ∷ [] = e in cc

on-a : {w : ℕ} (m : MessageA w) (x : Beat w) (burst : List (Beat w)) (n : ℕ) → x ∷ burst ≡ begun (A m) n
    → on Channel.A x ≡ true
on-a m x burst zero e = absurd cc
on-a m x burst (suc k) e = let newest : x ≡ Beat.A (a_beat_of m k) = cc in ap (on Channel.A) newest

on-c : {w : ℕ} (m : MessageC w) (x : Beat w) (burst : List (Beat w)) (n : ℕ) → x ∷ burst ≡ begun (C m) n
    → on Channel.C x ≡ true
on-c m x burst zero e = absurd cc
on-c m x burst (suc k) e = let newest : x ≡ Beat.C (c_beat_of m k) = cc in ap (on Channel.C) newest

pub newest-c : {w : ℕ} (m : MessageC w) (x : BeatC w) (burst : List (Beat w)) (n : ℕ) → Beat.C x ∷ burst ≡ begun (C m) n
    → (k : ℕ) × (x ≡ c_beat_of m k)
newest-c m x burst zero e = absurd cc
newest-c m x burst (suc k) e = (k, cc)

-- ---- a request

-- it is what its beats make up
pub is_served : {w : ℕ} (number : ℕ) (link : Link) (x : BeatA w) (m : MessageA w) (t : Trace w) → IsWidth w
    → length m.payload ≡ 64 → ends (Beat.A x) (on_link link.0 t) ≡ true
    → IsBurst (A m) (Beat.A x ∷ unfinished Channel.A (on_link link.0 t))
    → number ≡ least_untaken (trackers_of (services t))
    → IsServed link x (service_with number link m) t
is_served number link x m t width long last burst same = record {
  last = last;
  made = rw (request-again m (Beat.A x ∷ unfinished Channel.A (on_link link.0 t)) width long burst, same) refl;
}

-- and may be performed, where it probes nobody
pub ready-at : {w : ℕ} (config : Config) (number : ℕ) (link : Link) (x : BeatA w) (m : MessageA w) (e : End w)
    → nat_le x.size 6 ≡ true → IsTaken config link (Beat.A x) e
    → IsServed link x (service_with number link m) e.trace
    → IsReadyAt config number link m ((link, Beat.A x) ∷ e.trace)
ready-at {w} config number link x m e small is served =
    let found = made link x e.trace served.last small in
    let same = some_is (service_made link x e.trace found.0) (service_with number link m)
    (sym found.1.made ∙ served.made) in
    record {
      ready = subst (λ (s : Service w). IsReady config (block_at s.request.address) s ((link, Beat.A x) ∷ e.trace)) same
          (request-ready config link x e found.0 is found.1);
      sound = (is.passes.sound, is.before.sound);
    }

pub block_state-requested : {w : ℕ} {D : Type 0} (perm_of : D → ℕ → ℕ → Perm) (config : Config)
    (block_state : BlockState w D) (number : ℕ) (link : Link) (x : BeatA w) (m : MessageA w) (e : End w)
    → IsTaken config link (Beat.A x) e → IsServed link x (service_with number link m) e.trace
    → IsBlockState perm_of config block_state e.trace e.memory → IsBlockStateWithout number perm_of config block_state
    ((link, Beat.A x) ∷ e.trace) e.memory
block_state-requested {w} perm_of config block_state number link x m e is served block_state_is = record {
  profile = block_state_is.profile;
  count = block_state_is.count;
  tracked = λ n other. tracked-still n (tracker_at block_state.trackers n) e.trace u
      (λ free. ap (λ (ss : List (Service w)). is_one_of n (trackers_of ss)) more ∙ rw (ne_eqb n number other) free)
      (λ k v f at. record {
        serves = ap (service_of_block k) more ∙ rw (away k v f) f;
        granted = granted_a link x e.trace v;
        missing = missing_a link x e.trace k;
      }) (block_state_is.tracked n tt);
  records = λ b c. block_state_is.records b c ∙ sym (recorded-taken c link b (Beat.A x) e.trace refl);
  bytes = block_state_is.bytes;
}
  where
    u : Trace w
    u = (link, Beat.A x) ∷ e.trace

    s : Service w
    s = service_with number link m

    more : services ((link, Beat.A x) ∷ e.trace) ≡ service_with number link m ∷ services e.trace
    more = services-request link x (service_with number link m) e.trace served

    none : service_of_block (block_at m.address) (services e.trace) ≡ None
    none = none_of_block (block_at m.address) (services e.trace) (rw more at is.blocks_apart).0

    away : (k : ℕ) (v : Service w) → service_of_block k (services e.trace) ≡ Some v → (block_at m.address == k) ≡ false
    away k v f = ne_eqb (block_at m.address) k (λ same. absurd (let no : service_of_block k (services e.trace) ≡ None =
        rw same at none in cc))

pub done-requested : {w : ℕ} {M : Type 0} (perm_of : M → ℕ → ℕ → Perm) (config : Config) (block_state : BlockState w M)
    (handed : Handed w) (number : ℕ) (link : Link) (x : BeatA w) (m : MessageA w) (e : End w)
    → IsServed link x (service_with number link m) e.trace
    → IsDone perm_of config block_state handed ((link, Beat.A x) ∷ e.trace)
    (begun_with config (cap_probed m.opcode m.param) (service_with number link m) ((link, Beat.A x) ∷ e.trace)
    e.memory)
    → IsDone perm_of config block_state handed ((link, Beat.A x) ∷ e.trace) (reaction config link (Beat.A x) e)
unfolding reaction
done-requested perm_of config block_state handed number link x m e served done = rw (served.last, served.made) done

-- so its service is begun with the least free tracker
pub done-served : {w : ℕ} {M : Type 0} (perm_of : M → ℕ → ℕ → Perm) (config : Config) (old new : BlockState w M)
    (handed : Handed w) (number : ℕ) (link : Link) (x : Beat w) (m : MessageA w) (e : End w)
    → length m.payload ≡ 64
    → is_free (tracker_at old.trackers number) ≡ true
    → ((i : ℕ) → i < number → is_free (tracker_at old.trackers i) ≡ false)
    → ((t : Trace w) (memory : Memory) → IsReadyAt config number link m t
    → IsBlockStateWithout number perm_of config old t memory
    → IsDone perm_of config new handed t (begun_with config (cap_probed m.opcode m.param) (service_with number link m) t
    memory))
    → IsComplete config link x (A m) e → IsBlockState perm_of config old e.trace e.memory
    → IsDone perm_of config new handed ((link, x) ∷ e.trace) (reaction config link x e)
done-served perm_of config old new handed number link (Beat.A x) m e long free taken begins is block_state =
    let least = least-tracker number (tracker_at old.trackers) e.trace (λ n. block_state.tracked n tt) free taken in
    let served = is_served number link x m e.trace is.taken.width long is.last is.burst least in
    let newest = newest-a m x (unfinished Channel.A (on_link link.0 e.trace)) (beats_of (A m)) is.burst.0 in
    let small : nat_le x.size 6 ≡ true = ap (λ (y : BeatA _). nat_le y.size 6) newest.1 ∙ le-leb m.size 6 m.small in
    done-requested perm_of config new handed number link x m e served
    (begins ((link, Beat.A x) ∷ e.trace) e.memory (ready-at config number link x m e small is.taken served)
    (block_state-requested perm_of config old number link x m e is.taken served block_state))
done-served perm_of config old new handed number link (Beat.C x) m e long free taken begins is block_state =
    absurd (let no = on-a m (Beat.C x) (unfinished Channel.C (on_link link.0 e.trace)) (beats_of (A m)) is.burst.0 in
    cc)
done-served perm_of config old new handed number link (Beat.E x) m e long free taken begins is block_state =
    absurd (let no = on-a m (Beat.E x) (unfinished Channel.E (on_link link.0 e.trace)) (beats_of (A m)) is.burst.0 in
    cc)
done-served perm_of config old new handed number link v m e long free taken begins is block_state =
    absurd (let no = is.taken.passes.theirs in cc)

-- there is one
pub has-room : {w : ℕ} (config : Config) (at : ℕ → Tracker w) (link : Link) (x : Beat w) (m : MessageA w) (e : End w)
    → ((n : ℕ) → IsTracked n (at n) e.trace)
    → ((i : ℕ) → i < config.trackers → is_free (at i) ≡ false) → IsComplete config link x (A m) e → ⊥
has-room config at link (Beat.A x) m e tracked taken is =
    let full = all-taken config.trackers at e.trace tracked taken in
    let room = (or_parts (is_in_service (block_at x.address) (services e.trace))
    (nat_le config.trackers (length (services e.trace))) (rw is.last at is.taken.passes.waits)).1 in
    absurd cc
has-room config at link (Beat.C x) m e tracked taken is =
    absurd (let no = on-a m (Beat.C x) (unfinished Channel.C (on_link link.0 e.trace)) (beats_of (A m)) is.burst.0 in
    cc)
has-room config at link (Beat.E x) m e tracked taken is =
    absurd (let no = on-a m (Beat.E x) (unfinished Channel.E (on_link link.0 e.trace)) (beats_of (A m)) is.burst.0 in
    cc)
has-room config at link v m e tracked taken is = absurd (let no = is.taken.passes.theirs in cc)

-- ---- a message of channel C

pub is_message : {w : ℕ} (config : Config) (link : Link) (x : BeatC w) (m : MessageC w) (e : End w)
    → length m.payload ≡ 64 → IsTaken config link (Beat.C x) e
    → ends (Beat.C x) (on_link link.0 e.trace) ≡ true
    → IsBurst (C m) (Beat.C x ∷ unfinished Channel.C (on_link link.0 e.trace)) → IsMessage config link x m e
is_message {w} config link x m e long is last burst =
    let newest = newest-c m x (unfinished Channel.C (on_link link.0 e.trace)) (beats_of (C m)) burst.0 in
    record {
      taken = is;
      last = last;
      opcode = sym (ap (λ (y : BeatC w). y.opcode) newest.1);
      param = sym (ap (λ (y : BeatC w). y.param) newest.1);
      source = sym (ap (λ (y : BeatC w). y.source) newest.1);
      address = sym (ap (λ (y : BeatC w). y.address) newest.1);
      payload = sym (payload-c m (Beat.C x ∷ unfinished Channel.C (on_link link.0 e.trace)) is.width long burst);
    }

pub done-reported : {w : ℕ} {M : Type 0} (perm_of : M → ℕ → ℕ → Perm) (config : Config) (old new : BlockState w M)
    (handed : Handed w) (link : Link) (x : Beat w) (m : MessageC w) (e : End w)
    → ((y : BeatC w) → IsMessage config link y m e → IsBlockState perm_of config old e.trace e.memory
    → IsDone perm_of config new handed ((link, Beat.C y) ∷ e.trace) (reaction config link (Beat.C y) e))
    → IsComplete config link x (C m) e → IsBlockState perm_of config old e.trace e.memory
    → IsDone perm_of config new handed ((link, x) ∷ e.trace) (reaction config link x e)
done-reported perm_of config old new handed link (Beat.A x) m e takes is block_state =
    absurd (let no = on-c m (Beat.A x) (unfinished Channel.A (on_link link.0 e.trace)) (beats_of (C m)) is.burst.0 in
    cc)
done-reported perm_of config old new handed link (Beat.C x) m e takes is block_state =
    takes x (is_message config link x m e is.filled is.taken is.last is.burst) block_state
done-reported perm_of config old new handed link (Beat.E x) m e takes is block_state =
    absurd (let no = on-c m (Beat.E x) (unfinished Channel.E (on_link link.0 e.trace)) (beats_of (C m)) is.burst.0 in
    cc)
done-reported perm_of config old new handed link v m e takes is block_state =
    absurd (let no = is.taken.passes.theirs in cc)

-- ---- a GrantAck

pub done-acked : {w : ℕ} {M : Type 0} (perm_of : M → ℕ → ℕ → Perm) (config : Config) (old new : BlockState w M)
    (link : Link) (x : Beat w) (m : MessageE) (e : End w)
    → ((y : BeatE) → y.sink ≡ m.sink → IsTaken config link (Beat.E y) e
    → IsBlockState perm_of config old e.trace e.memory
    → IsBlockState perm_of config new ((link, Beat.E y) ∷ e.trace) e.memory)
    → IsComplete config link x (E m) e → IsBlockState perm_of config old e.trace e.memory
    → IsDone perm_of config new [] ((link, x) ∷ e.trace) (reaction config link x e)
unfolding with_handed
done-acked perm_of config old new link (Beat.A x) m e takes is block_state = absurd (let no = is.burst.0 in cc)
done-acked perm_of config old new link (Beat.B x) m e takes is block_state =
    absurd (let no = is.taken.passes.theirs in cc)
done-acked perm_of config old new link (Beat.C x) m e takes is block_state = absurd (let no = is.burst.0 in cc)
done-acked perm_of config old new link (Beat.D x) m e takes is block_state =
    absurd (let no = is.taken.passes.theirs in cc)
done-acked {w} perm_of config old new link (Beat.E x) m e takes is block_state =
    rw (reaction-ack config link x e)
    (refl, takes x (newest-e m x (unfinished Channel.E (on_link link.0 e.trace)) is.burst.0) is.taken block_state)

-- ---- a beat that isn't the last of its burst

part-granted : {w : ℕ} (link : Link) (x : Beat w) (t : Trace w) (s : Service w) → is_from_client x ≡ true
    → ends x (on_link link.0 t) ≡ false → is_granted ((link, x) ∷ t) s ≡ is_granted t s
part-granted link (Beat.A x) t s theirs part = granted_a link x t s
part-granted link (Beat.B x) t s theirs part = absurd cc
part-granted link (Beat.C x) t s theirs part = granted_c link x t s
part-granted link (Beat.D x) t s theirs part = absurd cc
part-granted {w} link (Beat.E x) t s theirs part =
    absurd (let whole : ends {w = w} (Beat.E x) (on_link link.0 t) ≡ true = (whole-e x (on_link link.0 t)).1 in cc)

part-missing : {w : ℕ} (link : Link) (x : Beat w) (t : Trace w) (k c : ℕ) → is_from_client x ≡ true
    → ends x (on_link link.0 t) ≡ false
    → pending (ProbeOf k) (on_link c ((link, x) ∷ t)) ≡ pending (ProbeOf k) (on_link c t)
part-missing link (Beat.A x) t k c theirs part = missing_a link x t k c
part-missing link (Beat.B x) t k c theirs part = absurd cc
part-missing link (Beat.C x) t k c theirs part = go (link.0 == c) refl
  where
    go : (b : Bool) → (link.0 == c) ≡ b → pending (ProbeOf k) (on_link c ((link, Beat.C x) ∷ t)) ≡ pending (ProbeOf k)
        (on_link c t)
    go true e = ap (pending (ProbeOf k)) (own_beat c link (Beat.C x) t e) ∙ missing-part x (on_link c t) k
        (subst (λ i. ends (Beat.C x) (on_link i t) ≡ false) (eqb-true link.0 c e) part)
    go false e = ap (pending (ProbeOf k)) (other_beat c link (Beat.C x) t e)
part-missing link (Beat.D x) t k c theirs part = absurd cc
part-missing {w} link (Beat.E x) t k c theirs part =
    absurd (let whole : ends {w = w} (Beat.E x) (on_link link.0 t) ≡ true = (whole-e x (on_link link.0 t)).1 in cc)

part-reports : {w : ℕ} (link : Link) (x : Beat w) (t : Trace w) (c b : ℕ) → is_from_client x ≡ true
    → ends x (on_link link.0 t) ≡ false → reported_by (link, x) t c b ≡ None
part-reports link (Beat.A x) t c b theirs part = refl
part-reports link (Beat.B x) t c b theirs part = refl
part-reports {w} link (Beat.C x) t c b theirs part = go (link.0 == c) refl
  where
    go : (here : Bool) → (link.0 == c) ≡ here → reported_by (link, Beat.C x) t c b ≡ None
    go true e = let there : ends (Beat.C x) (on_link c t) ≡ false = subst (λ i. ends (Beat.C x) (on_link i t) ≡ false)
        (eqb-true link.0 c e) part in rw (e, there) refl
    go false e = rw e refl
part-reports link (Beat.D x) t c b theirs part = refl
part-reports link (Beat.E x) t c b theirs part = refl

pub done-part : {w : ℕ} {M : Type 0} (perm_of : M → ℕ → ℕ → Perm) (config : Config) (block_state : BlockState w M)
    (link : Link) (x : Beat w) (e : End w) → is_from_client x ≡ true
    → ends x (on_link link.0 e.trace) ≡ false → IsBlockState perm_of config block_state e.trace e.memory
    → IsDone perm_of config block_state [] ((link, x) ∷ e.trace) (reaction config link x e)
unfolding reaction with_handed
done-part {w} perm_of config block_state link x e theirs part is = rw part (
  refl,
  record {
    profile = is.profile;
    count = is.count;
    tracked = λ n all. tracked-still n (tracker_at block_state.trackers n) e.trace ((link, x) ∷ e.trace)
        (λ free. ap (λ (ss : List (Service w)). is_one_of n (trackers_of ss)) (services-part (link, x) e.trace part)
        ∙ free)
        (λ k v f at. record {
          serves = ap (service_of_block k) (services-part (link, x) e.trace part) ∙ f;
          granted = part-granted link x e.trace v theirs part;
          missing = λ c. part-missing link x e.trace k c theirs part;
        }) (is.tracked n tt);
    records = λ b c. is.records b c ∙ sym
        (recorded-taken c link b x e.trace theirs ∙ ap (λ o. unwrap_or o (recorded c b e.trace))
        (part-reports link x e.trace c b theirs part));
    bytes = is.bytes;
  },
)
