-- Who is above a cap for the manager is so for the protocol.
-- A beat of a request that comes to the manager: what the manager makes of it.
-- What the manager knows after a beat of a request, and after one that is not the last.
-- What the manager knows after a request for which others are probed: an Acquire, or an access.
use Rattle.std.proofs.Common.{◌≡◌, ℕ, zero, suc, ◌+◌, ◌*◌, ◌-◌, ◌<◌, ◌≤◌, Bool, true, false, not, ◌&&◌, ◌==◌}
use Rattle.std.proofs.Common.{if◌then◌else◌, List, [], ◌∷◌, Option, Some, None, refl, sym, ◌∙◌, ap, subst, arith, inl}
use Rattle.std.proofs.Common.{inr, length, le-leb, ne_eqb, drop, min, IfSome, length-take, replicate, length-drop}
use Rattle.std.proofs.Common.{slice_range}
use Rattle.tl_coherence.proofs
use proofs.Imports.{and-false, cases_eq, cases_lt, length-replicate, ⊤, Beat, BeatA, Link, Channel, a_carries_data}
use proofs.Imports.{IsWidth, length-begun, A, MessageA, IsBlankAfter, IsZeroFrom, a_beat_of, beats_of, begun, lanes_at}
use proofs.Imports.{History, grown, unfinished, Config, ProbeOf, Cap, Perm, beats_room, held_unsaid, is_last, not_last}
use proofs.Imports.{pending-quiet, sent, Trace, on_link, begins, block_at, ends, held, pending, request_of, swapped}
use proofs.Imports.{is_taken, passed, whole-taken, beat-keeps, other_beat, own_beat, some_is, IsKept, IsReady, End}
use proofs.Imports.{probe_of_block, probes, with_handed, is_spared, probed, recorded, Passes, service_of_block}
use proofs.Imports.{trackers_of, least_untaken, services, set, ClientBlock, ProbeSent, is_unprobed, after_served}
use proofs.Imports.{is_above, Block, Free, State, Waits, served_block, served_pair, client_in, service_with, IsFor}
use Rattle.tl_manager.specs.statement.Holders as holders
use Rattle.tl_burst.specs.statement.Messages.{burst_length}
use Rattle.tl_manager.{proofs.messages.Assembled.request-again, proofs.pending.Steady.request-ready}
use Rattle.tl_manager.{specs.code.Kept.IsTyped, specs.statement.Offer.judged, specs.statement.Service.Service}
use Rattle.tl_manager.{proofs.calls.Events.services-request, proofs.services.Ended.services-part}
use Rattle.tl_manager.{proofs.pending.Probed.probes-keep, specs.statement.Handing.probe_beat}
use Rattle.tl_manager.{proofs.pending.Requested.service_made, proofs.pending.Requested.made, specs.code.Ready.IsServed}
use Rattle.tl_manager.{specs.code.Ready.IsTaken, proofs.pending.Probes.probes-within}
use Rattle.tl_manager.{proofs.pending.Probes.probes-beyond, proofs.pending.Probes.services-probes}
use Rattle.tl_manager.proofs.pending.Probing.{missing-own_b, missing-else_b, request_of-b}
use proofs.queues.{Tokens.same_number, Tokens.set-same, Tokens.set-other, Phases.nothing-above}
use proofs.protocol.Room.{positive}
use proofs.manager.BlockAccounts.{IsTraced, traced-at}

pub same_above : (k : Cap) (p : Perm) → holders.is_above k p ≡ is_above k p
same_above k p = grind arith

-- ---- the request that an unfinished burst began with (to stand in tl_rules)

-- the oldest beat of a burst, whose newest is first
abbrev oldest : {w : ℕ} → List (Beat w) → Option (Beat w)
oldest [] = None
oldest (x ∷ []) = Some x
oldest (x ∷ y ∷ beats) = oldest (y ∷ beats)

-- it is the last request that began with its source
abbrev IsOpened : {w : ℕ} → History w → Option (Beat w) → Type 0
IsOpened t (Some (Beat.A x)) = request_of x.source t ≡ Some x
IsOpened t _ = ⊤

opened-other : {w : ℕ} (t u : History w) (o : Option (Beat w)) → ((s : ℕ) → request_of s u ≡ request_of s t)
    → IsOpened t o → IsOpened u o
opened-other t u o e f = grind arith

-- a request that begins
now_opened : {w : ℕ} (x : BeatA w) (t : History w) → begins (Beat.A x) t ≡ true
    → request_of x.source (Beat.A x ∷ t) ≡ Some x
unfolding request_of
now_opened x t b = rw (b, same_number x.source) refl

still_opened : {w : ℕ} (x : BeatA w) (t : History w) (s : ℕ) → begins (Beat.A x) t ≡ false
    → request_of s (Beat.A x ∷ t) ≡ request_of s t
unfolding request_of
still_opened x t s b = rw b refl

grown_opened : {w : ℕ} (x : BeatA w) (t : History w) (burst : List (Beat w)) → unfinished Channel.A t ≡ burst
    → IsOpened t (oldest burst) → IsOpened (Beat.A x ∷ t) (oldest (grown (Beat.A x) burst))
grown_opened {w} x t burst is ok = go burst is ok (length burst + 1 == burst_length (Beat.A x))
  where
    go : (burst : List (Beat w)) → unfinished Channel.A t ≡ burst → IsOpened t (oldest burst) → (b : Bool)
        → IsOpened (Beat.A x ∷ t) (oldest (if b then [] else Beat.A x ∷ burst))
    go burst is ok true = tt
    go [] is ok false = now_opened x t (rw is refl)
    go (y ∷ beats) is ok false = opened-other t (Beat.A x ∷ t) _ (λ s. still_opened x t s (rw is refl)) ok

opened-always : {w : ℕ} (t : History w) → IsOpened t (oldest (unfinished Channel.A t))
unfolding unfinished request_of
opened-always [] = tt
opened-always (Beat.A x ∷ t) = grown_opened x t _ refl (opened-always t)
opened-always (Beat.B x ∷ t) = opened-other t (Beat.B x ∷ t) _ (λ s. refl) (opened-always t)
opened-always (Beat.C x ∷ t) = opened-other t (Beat.C x ∷ t) _ (λ s. refl) (opened-always t)
opened-always (Beat.D x ∷ t) = opened-other t (Beat.D x ∷ t) _ (λ s. refl) (opened-always t)
opened-always (Beat.E x ∷ t) = opened-other t (Beat.E x ∷ t) _ (λ s. refl) (opened-always t)

oldest-begun : {w : ℕ} (m : MessageA w) (i : ℕ) → oldest (begun (A m) (suc i)) ≡ Some (Beat.A (a_beat_of m 0))
oldest-begun m zero = refl
oldest-begun m (suc i) = oldest-begun m i

-- the last request with the source of one that is unfinished is that one
pub request-begun : {w : ℕ} (m : MessageA w) (i : ℕ) (t : History w) → unfinished Channel.A t ≡ begun (A m) (suc i)
    → request_of m.source t ≡ Some (a_beat_of m 0)
request-begun m i t burst = subst (IsOpened t) (ap oldest burst ∙ oldest-begun m i) (opened-always t)

-- the last request with each source after a beat of a request
pub request-taken : {w : ℕ} (m : MessageA w) (k : ℕ) (t : History w) → unfinished Channel.A t ≡ begun (A m) k
    → request_of m.source (Beat.A (a_beat_of m k) ∷ t) ≡ Some (a_beat_of m 0)
request-taken m zero t burst = now_opened (a_beat_of m 0) t (rw burst refl)
request-taken m (suc i) t burst = still_opened (a_beat_of m (suc i)) t m.source (rw burst refl) ∙ request-begun m i t
    burst

pub request-else : {w : ℕ} (x : BeatA w) (t : History w) (s : ℕ) → (x.source ≡ s → ⊥)
    → request_of s (Beat.A x ∷ t) ≡ request_of s t
unfolding request_of
request-else {w} x t s other = grind arith

-- ---- its payload has 64 bytes

payload-from : (from w : ℕ) (payload : List ℕ) → 0 < w → from + w ≤ 64
    → length (slice_range payload from (from + w)) ≡ w → IsZeroFrom (from + w) payload → length payload ≡ 64
payload-from from w payload some room lanes blank =
    let none : ℕ = 0 in
    let cut = length-take (from + w - from) (drop from payload) in
    let zeros = length-replicate (64 - (from + w)) none in
    let total : length (drop (from + w) payload) ≡ length (replicate (64 - (from + w)) none) = ap length blank in
    let few : min (from + w - from) (length (drop from payload)) ≤ length (drop from payload) = omega arith in
    omega (arith, cut, length-drop from payload, length-drop (from + w) payload, zeros, total, room, lanes, few, some)

payload-length : (w k n : ℕ) (carries : Bool) (payload : List ℕ) → 0 < w → n ≡ suc k → w * n ≤ 64
    → IfSome (lanes_at carries w payload k) (λ lanes. length lanes ≡ w)
    → IsZeroFrom (if carries then w * n else 0) payload → length payload ≡ 64
payload-length w k n true payload some last room lanes blank =
    let whole : w * n ≡ w * k + w = rw last (omega arith) in
    payload-from (w * k) w payload some (rw whole at room) lanes (rw whole at blank)
payload-length w k n false payload some last room lanes blank =
    let none : ℕ = 0 in
    let total : length payload ≡ length (replicate 64 none) = ap length blank in
    omega (arith, length-replicate 64 none, total)

request-filled : {w : ℕ} (m : MessageA w) (k : ℕ) → IsWidth w → beats_of (A m) ≡ suc k
    → IsTyped (Beat.A (a_beat_of m k)) → IsBlankAfter (beats_of (A m)) (A m) → length m.payload ≡ 64
request-filled {w} m k width last typed blank = payload-length w k _ (a_carries_data m.opcode) m.payload
    (positive w width) last (beats_room (A m) width) typed.1 blank.0

-- ---- a beat that the manager takes

abbrev pub link_of : ℕ → Link
link_of c = record { 0 = c }

-- the trace with one more beat of a request
abbrev pub with_beat : {w : ℕ} → ℕ → MessageA w → ℕ → Trace w → Trace w
with_beat c m k t = (link_of c, Beat.A (a_beat_of m k)) ∷ t

-- Beat k of this request comes on the link of client c, and the manager takes it.
pub record IsComing {w : ℕ} (config : Config) (c k : ℕ) (m : MessageA w) (e : End w) : Type 0 where
  pub width : IsWidth w
  pub kept : IsKept config e
  pub within : k < beats_of (A m)
  pub burst : unfinished Channel.A (on_link c e.trace) ≡ begun (A m) k
  pub typed : IsTyped (Beat.A (a_beat_of m k))
  pub blank : IsBlankAfter (beats_of (A m)) (A m)
  pub passes : judged config (link_of c) Channel.A (Beat.A (a_beat_of m k)) e ≡ Passes

taken-coming : {w : ℕ} {config : Config} {c k : ℕ} {m : MessageA w} {e : End w} → IsComing config c k m e
    → IsTaken config (link_of c) (Beat.A (a_beat_of m k)) e
taken-coming {config} {c} {k} {m} {e} is = is_taken config (link_of c) (Beat.A (a_beat_of m k)) e is.width
    (passed config (link_of c) Channel.A (Beat.A (a_beat_of m k)) e is.typed is.passes) is.kept

pub ends-coming : {w : ℕ} {config : Config} {c k : ℕ} {m : MessageA w} {e : End w} → IsComing config c k m e
    → ends (Beat.A (a_beat_of m k)) (on_link c e.trace) ≡ (k + 1 == beats_of (A m))
ends-coming {k} {m} is = rw (is.burst, length-begun (A m) k) refl

-- the service of the request that it completes
abbrev pub service_for : {w : ℕ} → ℕ → MessageA w → Trace w → Service w
service_for c m t = record { tracker = least_untaken (trackers_of (services t)); link = link_of c; request = m }

pub served-last : {w : ℕ} {config : Config} {c k : ℕ} {m : MessageA w} {e : End w} → IsComing config c k m e
    → beats_of (A m) ≡ suc k → IsServed (link_of c) (a_beat_of m k) (service_for c m e.trace) e.trace
served-last {w} {config} {c} {k} {m} {e} is last = record {
  last = ends-coming is ∙ rw last (is_last k (suc k) (omega arith));
  made = let fact = request-again m _ is.width (request-filled m k is.width last is.typed is.blank)
      (ap (begun (A m)) (sym last), is.blank) in cc is.burst;
}

-- and it may be performed
pub ready-last : {w : ℕ} {config : Config} {c k : ℕ} {m : MessageA w} {e : End w} → IsComing config c k m e
    → beats_of (A m) ≡ suc k → IsReady config (block_at m.address) (service_for c m e.trace) (with_beat c m k e.trace)
ready-last {config} {c} {k} {m} {e} is last =
    let served = served-last is last in
    let found = made (link_of c) (a_beat_of m k) e.trace served.last (le-leb m.size 6 m.small) in
    subst (λ v. IsReady config (block_at m.address) v (with_beat c m k e.trace)) (some_is (service_made
    (link_of c) (a_beat_of m k) e.trace found.0) (service_for c m e.trace) (sym found.1.made ∙ served.made))
    (request-ready config (link_of c) (a_beat_of m k) e found.0 (taken-coming is) found.1)

-- ---- the values of a trace with one more beat of a request

pub recorded-beat : {w : ℕ} (c k : ℕ) (m : MessageA w) (t : Trace w) (d i : ℕ)
    → recorded d i (with_beat c m k t) ≡ recorded d i t
recorded-beat c k m t d i = beat-keeps (held i) d (link_of c) (Beat.A (a_beat_of m k)) t
    (λ h. held_unsaid i (Beat.A (a_beat_of m k)) h refl)

pub missing-beat : {w : ℕ} (c k : ℕ) (m : MessageA w) (t : Trace w) (d i : ℕ)
    → pending (ProbeOf i) (on_link d (with_beat c m k t)) ≡ pending (ProbeOf i) (on_link d t)
missing-beat c k m t d i = beat-keeps (pending (ProbeOf i)) d (link_of c) (Beat.A (a_beat_of m k)) t
    (λ h. pending-quiet (ProbeOf i) (Beat.A (a_beat_of m k)) h refl refl)

-- a request that has another source, or is another client's, is the last one with it still
pub request-beat : {w : ℕ} (c k : ℕ) (m : MessageA w) (t : Trace w) (d src : ℕ) → (d ≡ c → m.source ≡ src → ⊥)
    → request_of src (on_link d (with_beat c m k t)) ≡ request_of src (on_link d t)
request-beat c k m t d src other = elim (cases_eq c d) [
  | inl same ↦ ap (request_of src) (own_beat d (link_of c) (Beat.A (a_beat_of m k)) t (rw same (same_number d)))
      ∙ request-else _ (on_link d t) src (other (sym same))
  | inr ne ↦ ap (request_of src) (other_beat d (link_of c) (Beat.A (a_beat_of m k)) t (ne_eqb c d ne))
]

-- and this is the last one with its own
pub request-own : {w : ℕ} {config : Config} {c k : ℕ} {m : MessageA w} {e : End w} → IsComing config c k m e
    → request_of m.source (on_link c (with_beat c m k e.trace)) ≡ Some (a_beat_of m 0)
request-own {c} {k} {m} {e} is = ap (request_of m.source) (own_beat c (link_of c) (Beat.A (a_beat_of m k)) e.trace
    (same_number c)) ∙ request-taken m k _ is.burst

-- ---- which source a request in service has

-- none of the requests in service that wait has this source of the client
abbrev pub IsUnwaited : {X : Type 0} → ℕ → ℕ → State X → Type 0
IsUnwaited c source s = (i src : ℕ) (own : Bool) (k : Cap) → (s.block i).service ≡ Waits c own src k → source ≡ src → ⊥

-- ---- a beat that isn't the last

services-more : {w : ℕ} {config : Config} {c k : ℕ} {m : MessageA w} {e : End w} → IsComing config c k m e
    → k + 1 < beats_of (A m) → services (with_beat c m k e.trace) ≡ services e.trace
services-more {c} {k} {m} {e} is more = services-part _ e.trace (ends-coming is ∙ not_last k (beats_of (A m)) more)

pub traced-more : {w : ℕ} {X : Type 0} {config : Config} {request : ℕ → MessageA w} {s : State X} {c k : ℕ}
    {m : MessageA w} {e : End w} → IsComing config c k m e → k + 1 < beats_of (A m) → IsUnwaited c m.source s
    → IsTraced request s e.trace → IsTraced request s (with_beat c m k e.trace)
traced-more {s} {c} {k} {m} {e} is more unwaited known = record {
  recorded_is = λ d i. recorded-beat c k m e.trace d i ∙ known.recorded_is d i;
  probes = λ d i. missing-beat c k m e.trace d i ∙ known.probes d i;
  serving_is = λ i. ap (service_of_block i) (services-more is more) ∙ known.serving_is i;
  requests = known.requests;
  asked = λ i r src own j f. request-beat c k m e.trace r src (λ same g. unwaited i src own j
      (ap (λ z. (s.block i).service) same ∙ f ∙ ap (λ z. Waits z own src j) same) g) ∙ known.asked i r src own j f;
}

-- ---- the last beat

-- one service more
services-last : {w : ℕ} {config : Config} {c k : ℕ} {m : MessageA w} {e : End w} → IsComing config c k m e
    → beats_of (A m) ≡ suc k → services (with_beat c m k e.trace) ≡ service_for c m e.trace ∷ services e.trace
services-last is last = services-request _ _ _ _ (served-last is last)

pub serving-last : {w : ℕ} {config : Config} {c k : ℕ} (n : ℕ) {m : MessageA w} {e : End w} → IsComing config c k m e
    → beats_of (A m) ≡ suc k
    → block_at m.address ≡ n → service_of_block n (services (with_beat c m k e.trace)) ≡ Some (service_for c m e.trace)
serving-last {config} {c} {k} n {m} {e} is last block = cc (services-last is last, same_number n)

pub serving-others : {w : ℕ} {config : Config} {c k : ℕ} (n i : ℕ) {m : MessageA w} {e : End w}
    → IsComing config c k m e → beats_of (A m) ≡ suc k → block_at m.address ≡ n → (i ≡ n → ⊥)
    → service_of_block i (services (with_beat c m k e.trace)) ≡ service_of_block i (services e.trace)
serving-others {config} {c} {k} n i {m} {e} is last block other = grind (arith, services-last)

-- the trace after the last beat of a request, and the Probes
abbrev pub with_probes : {w : ℕ} → Config → ℕ → ℕ → MessageA w → ℕ → Cap → Trace w → Trace w
with_probes config c k m n j t = with_handed (probes n j (probed config (service_for c m t) j (with_beat c m k t)))
    (with_beat c m k t)

-- The last beat of this request comes, which probes with this cap.
pub record IsProbing {w : ℕ} {X : Type 0} (config : Config) (c k n : ℕ) (own : Bool) (source : ℕ) (j : Cap)
    (m : MessageA w) (s : State X) (e : End w) : Type 0 where
  pub comes : IsComing config c k m e
  pub last : beats_of (A m) ≡ suc k
  pub for : IsFor (Waits c own source j) n m
  pub free : (s.block n).service ≡ Free
  pub quiet : (d : ℕ) → is_unprobed ((s.block n).pair d).probing ≡ true
  pub beyond : (d : ℕ) → length config.clients.items ≤ d → ((s.block n).pair d).recorded ≡ Perm.None
  pub unwaited : IsUnwaited c source s

pub traced-probing : {w : ℕ} {X : Type 0} {config : Config} {request : ℕ → MessageA w} {c k n : ℕ} {own : Bool}
    {source : ℕ} {j : Cap} {m : MessageA w} {s : State X} (u : State X) {e : End w}
    → ((i : ℕ) → u.block i ≡ set n (served_block c own source (least_untaken (trackers_of (services e.trace))) j
    (s.block n)) s.block i) → IsProbing config c k n own source j m s e → IsTraced request s e.trace
    → IsTraced (set n m request) u (with_probes config c k m n j e.trace)
traced-probing {w} {X} {config} {request} {c} {k} {n} {own} {source} {j} {m} {s} u {e} blocks is known =
    let spared : (b : Bool) (p : ClientBlock) → (if b then p else after_served j p).recorded ≡ p.recorded =
    elim [ true ↦ λ p. refl | false ↦ λ p. refl ] in
    let missing_before : (d : ℕ) → pending (ProbeOf n) (on_link d t) ≡ false = λ d. missing-beat c k m e.trace d n
    ∙ known.probes d n ∙ ap not (is.quiet d) in
    let whole_b : (d : ℕ) → unfinished Channel.B (on_link d t) ≡ [] =
    λ d. (whole-taken d (link_of c) (Beat.A (a_beat_of m k)) e.trace refl (is.comes.kept.whole d)).0 in
    let probed_or : (d : ℕ) (b : Bool) → pending (ProbeOf n) (if b then sent (probe_of_block n j) (on_link d t) else
    on_link d t) ≡ b = λ d. elim [ true ↦ missing-own_b n j _ (whole_b d) | false ↦ missing_before d ] in
    let tracker : ℕ = least_untaken (trackers_of (services e.trace)) in
    let new : Block X = served_block c own source tracker j (s.block n) in
    let service_now : Block X → Option (Service w) =
    λ b. service_with (client_in b.service) b.tracker (set n m request n) in
    let here : u.block n ≡ new = blocks n ∙ set-same n new s.block in
    let recorded_same : (d i : ℕ) → recorded d i after ≡ recorded d i e.trace = λ d i. probes-keep (held i) d n j
    asked_clients t (λ h. held_unsaid i (Beat.B (probe_beat n j)) h refl) ∙ recorded-beat c k m e.trace d i in
    -- who is probed
    let test : ℕ → Bool = λ d. holders.is_above j (recorded d (block_at m.address) t) && not
    (is_spared (service_for c m e.trace) d) in
    let test_is : (d : ℕ) → test d ≡ (is_above j ((s.block n).pair d).recorded && not (own && (d == c))) = λ d. rw (
      is.for.2,
      recorded-beat c k m e.trace d n,
      known.recorded_is d n,
      is.for.0,
      same_above j ((s.block n).pair d).recorded,
      swapped c d,
    ) refl in
    let missing_now : (d : ℕ) → pending (ProbeOf n) (on_link d after) ≡ not (is_unprobed
    (served_pair c own j (s.block n).pair d).probing) = λ d. elim (cases_lt d (length config.clients.items)) [
      | inl lt ↦ ap (pending (ProbeOf n)) (probes-within d n j 0 (length config.clients.items) test t (omega arith)
          (omega (arith, lt))) ∙ probed_or d (test d) ∙ test_is d ∙ quiet_now d (own && (d == c))
      | inr le ↦ ap (pending (ProbeOf n)) (probes-beyond d n j 0 (length config.clients.items) test t
          (omega (arith, le))) ∙ missing_before d ∙ sym (rw (is.beyond d le, nothing-above j) refl) ∙ quiet_now d
          (own && (d == c))
    ] in
    traced-at (record {
      other_blocks = λ i ne. blocks i ∙ set-other n i new s.block ne;
      other_requests = λ i ne. set-other n i m request ne;
      recorded_here = λ d. recorded_same d n ∙ known.recorded_is d n ∙ sym
          (ap (λ b. (b.pair d).recorded) here ∙ spared (own && (d == c)) ((s.block n).pair d));
      recorded_else = λ d i ne. recorded_same d i;
      probes_here = λ d. missing_now d ∙ sym (ap (λ b. not (is_unprobed (b.pair d).probing)) here);
      probes_else = λ d i ne.
          let differ : n ≡ i → ⊥ = λ f. ne (sym f) in
          probes-keep (pending (ProbeOf i)) d n j asked_clients t (λ h. missing-else_b i n j h (ne_eqb n i differ))
          ∙ missing-beat c k m e.trace d i;
      serving_here =
          cc (services-probes n j asked_clients t, serving-last n is.comes is.last is.for.2, set-same n m request);
      serving_else = λ i ne. cc (services-probes n j asked_clients t, serving-others n i is.comes is.last is.for.2 ne);
      request_here = rw (here, set-same n m request) is.for;
      asked_here = λ r src o l f. asked_now r src o l (ap (λ b. b.service) (sym here) ∙ f);
      asked_else = λ i r src o l ne f. asked_same r src ∙ request-beat c k m e.trace r src
          (λ same g. is.unwaited i src o l (f ∙ ap (λ z. Waits z o src l) same) (sym is.for.1 ∙ g));
    }) known
  where
    t : Trace w
    t = with_beat c m k e.trace

    asked_clients : List ℕ
    asked_clients = probed config (service_for c m e.trace) j t

    after : Trace w
    after = with_probes config c k m n j e.trace

    asked_same : (r src : ℕ) → request_of src (on_link r after) ≡ request_of src (on_link r t)
    asked_same r src = probes-keep (request_of src) r n j asked_clients t (request_of-b src n j)

    asked_now : (r src : ℕ) (o : Bool) (l : Cap) → Waits c own source j ≡ Waits r o src l
        → request_of src (on_link r after) ≡ Some (a_beat_of (set n m request n) 0)
    asked_now r src o l f =
        let number_is : (r src : ℕ) (o : Bool) (l : Cap) → Waits c own source j ≡ Waits r o src l → src ≡ source =
        λ r src o l f. cc in
        let client : r ≡ c = cc in
        let number : src ≡ m.source = number_is r src o l f ∙ sym is.for.1 in
        rw (client, number) (asked_same c m.source ∙ request-own is.comes) ∙ ap
        (λ i. Some (a_beat_of i 0)) (sym (set-same n m request))

    quiet_now : (d : ℕ) (b : Bool) → (is_above j ((s.block n).pair d).recorded && not b) ≡ not
        (is_unprobed (if b then (s.block n).pair d else after_served j ((s.block n).pair d)).probing)
    quiet_now d true = and-false (is_above j ((s.block n).pair d).recorded) ∙ sym (ap not (is.quiet d))
    quiet_now d false = sent_or (is_above j ((s.block n).pair d).recorded)
      where
        sent_or : (b : Bool) → (b && true) ≡ not (is_unprobed (if b then ProbeSent j else ((s.block n).pair d).probing))
        sent_or true = refl
        sent_or false = sym (ap not (is.quiet d))
