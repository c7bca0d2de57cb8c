-- All that is pending after a beat of a request was taken: its last makes one more service.
use Rattle.tl_manager.proofs.Imports.{Beat, BeatA, Link, MessageA, History, unfinished, RequestSource, AcquireOf}
use Rattle.tl_manager.proofs.Imports.{GrantSink, GrantAckOf, ProbeOf, Trace, on_link, comes_in_request, ends, block_at}
use Rattle.tl_manager.proofs.Imports.{is_acquire, pending, request_of, is_one_of, pending-quiet, never, is_granting}
use Rattle.tl_manager.proofs.Imports.{one_if, count_where, is_granted, is_asking, is_acquiring, is_granted_to}
use Rattle.tl_manager.proofs.Imports.{HasFields, IsBegun, IsReporting, IsNamed, IsHandled, IsAccounted, request_if}
use Rattle.tl_manager.proofs.Imports.{request_carried, Service, services, service_of_block, is_in_service}
use Rattle.tl_manager.proofs.Imports.{least_untaken, trackers_of, IsServed}
use Rattle.std.proofs.Common.{◌≡◌, ℕ, ◌+◌, ◌==◌, Bool, true, false, not, ◌&&◌, ◌||◌, List, [], ◌∷◌, Option, Some, None}
use Rattle.std.proofs.Common.{refl, sym, ap, subst, ◌∙◌, arith, inl, inr}
use Rattle.std.specs.Prelude.{nat_le, option_map, is_some}
use Rattle.std.proofs.lemmas.Bool.{eqb-true, eq-eqb, or_cases, and_parts}
use Rattle.tl_beat.specs.declared.channel.Channel.{Channel}
use Rattle.tl_manager.{proofs.pending.Accepted.granted_a, proofs.pending.Accepted.same-else}
use Rattle.tl_manager.{proofs.words_of_clients.Counts.counted-kept, proofs.services.Ended.services-part}
use Rattle.tl_manager.{proofs.calls.Events.services-request, proofs.words_of_clients.Free.least_free-is_free}
use Rattle.tl_manager.{proofs.messages.Requests.made_of, proofs.pending.Sinks.AreTracked}
use Rattle.tl_manager.{proofs.pending.Sinks.grants_by, proofs.blocks.Unmoved.handled-same}
use Rattle.tl_manager.{proofs.blocks.Unmoved.reports-kept}
use Rattle.tl_manager.proofs.pending.Asked.{Place, fields-now, acquire_whole, begun-now, source-now, comes-now}
use Rattle.tl_manager.proofs.pending.LinkHistories.{own_beat, other_beat, beat-keeps, pending-opened}

-- ---- sources and bursts

-- the burst of each link
begun-all : {w : ℕ} (link : Link) (x : BeatA w) (t : Trace w) (c : ℕ) → Place x (on_link link.0 t) → IsAccounted t
    → IsBegun (on_link c ((link, Beat.A x) ∷ t)) (unfinished Channel.A (on_link c ((link, Beat.A x) ∷ t)))
begun-all {w} link x t c place ok = go (link.0 == c) refl
  where
    IsOk : History w → Type 0
    IsOk h = IsBegun h (unfinished Channel.A h)

    go : (b : Bool) → (link.0 == c) ≡ b → IsOk (on_link c ((link, Beat.A x) ∷ t))
    go true e = subst IsOk (sym (own_beat c link (Beat.A x) t e))
        (begun-now x (on_link c t) (subst (λ (i : ℕ). Place x (on_link i t)) (eqb-true link.0 c e) place))
    go false e = subst IsOk (sym (other_beat c link (Beat.A x) t e)) (ok.begun c)

burst_c : {w : ℕ} (x : BeatA w) (h : History w) → unfinished Channel.C (Beat.A x ∷ h) ≡ unfinished Channel.C h
unfolding unfinished
burst_c x h = refl

reports-all : {w : ℕ} (link : Link) (x : BeatA w) (t : Trace w) (c : ℕ) → IsAccounted t
    → IsReporting (on_link c ((link, Beat.A x) ∷ t)) (unfinished Channel.C (on_link c ((link, Beat.A x) ∷ t)))
reports-all link x t c ok =
    reports-kept t ((link, Beat.A x) ∷ t) c (beat-keeps (unfinished Channel.C) c link (Beat.A x) t (burst_c x))
    (λ k e. beat-keeps (pending (ProbeOf k)) c link (Beat.A x) t (λ h. pending-quiet (ProbeOf k) (Beat.A x) h refl refl)
    ∙ e) ok

-- how many services ask with a source afterwards, where the new one does
abbrev Counts : {w : ℕ} → Link → BeatA w → Trace w → ℕ → ℕ → Type 0
Counts link x t c q =
    count_where (is_asking c q ((link, Beat.A x) ∷ t)) (services ((link, Beat.A x) ∷ t))
    ≡ one_if ((link.0 == c) && (ends (Beat.A x) (on_link link.0 t) && (x.source == q))) + count_where (is_asking c q t)
    (services t)

sources-all : {w : ℕ} (link : Link) (x : BeatA w) (t : Trace w) (c q : ℕ) → Place x (on_link link.0 t) → IsAccounted t
    → Counts link x t c q
    → one_if (comes_in_request q (unfinished Channel.A (on_link c ((link, Beat.A x) ∷ t)))) + count_where
    (is_asking c q ((link, Beat.A x) ∷ t))
    (services ((link, Beat.A x) ∷ t)) ≡ one_if (pending (RequestSource q) (on_link c ((link, Beat.A x) ∷ t)))
sources-all {w} link x t c q place ok counts = go (link.0 == c) refl counts
  where
    before : ℕ
    before = count_where (is_asking c q t) (services t)

    after : ℕ
    after = count_where (is_asking c q ((link, Beat.A x) ∷ t)) (services ((link, Beat.A x) ∷ t))

    Holds : History w → ℕ → Type 0
    Holds h n = one_if (comes_in_request q (unfinished Channel.A h)) + n ≡ one_if (pending (RequestSource q) h)

    split : (last mine : Bool) → one_if (not last && mine) + (one_if (last && mine) + before) ≡ one_if mine + before
    split true mine = omega arith
    split false mine = omega arith

    at_own : link.0 ≡ c → after ≡ one_if (ends (Beat.A x) (on_link link.0 t) && (x.source == q)) + before
        → Holds (Beat.A x ∷ on_link c t) after
    at_own same n =
        let here : Place x (on_link c t) = subst (λ (i : ℕ). Place x (on_link i t)) same place in
        let many : after ≡ one_if (ends (Beat.A x) (on_link c t) && (x.source == q)) + before =
        n ∙ ap (λ i. one_if (ends (Beat.A x) (on_link i t) && (x.source == q)) + before) same in
        rw (comes-now x (on_link c t) q, many) (split (ends (Beat.A x) (on_link c t)) (x.source == q) ∙ source-now x
        (on_link c t) q before here (ok.sources c q))

    go : (b : Bool) → (link.0 == c) ≡ b → after ≡ one_if (b && (ends (Beat.A x) (on_link link.0 t) && (x.source == q)))
        + before → Holds (on_link c ((link, Beat.A x) ∷ t)) after
    go true e n = subst (λ (h : History w). Holds h after) (sym (own_beat c link (Beat.A x) t e))
        (at_own (eqb-true link.0 c e) n)
    go false e n =
        let same : after ≡ before = omega (arith, n) in
        subst (λ (h : History w). Holds h after) (sym (other_beat c link (Beat.A x) t e)) (rw same (ok.sources c q))

-- ---- a beat that isn't the last

no_acquire : {w : ℕ} (x : BeatA w) (h : History w) (k : ℕ) → Place x h → ends (Beat.A x) h ≡ false
    → pending (AcquireOf k) (Beat.A x ∷ h) ≡ pending (AcquireOf k) h
no_acquire {w} x h k place part = go (is_acquire x.opcode) refl
  where
    go : (b : Bool) → is_acquire x.opcode ≡ b → pending (AcquireOf k) (Beat.A x ∷ h) ≡ pending (AcquireOf k) h
    go true e = absurd (let last = (acquire_whole x h place e).1 in cc)
    go false e = pending-quiet (AcquireOf k) (Beat.A x) h (rw e refl) refl

pub accounted-part : {w : ℕ} (link : Link) (x : BeatA w) (t : Trace w) → Place x (on_link link.0 t)
    → ends (Beat.A x) (on_link link.0 t) ≡ false → IsAccounted t → IsAccounted ((link, Beat.A x) ∷ t)
accounted-part {w} link x t place part ok = record {
  sources = λ c q. sources-all link x t c q place ok (counted c q);
  begun = λ c. begun-all link x t c place ok;
  reports = λ c. reports-all link x t c ok;
  blocks = λ k. handled-same k t ((link, Beat.A x) ∷ t) (same-else link x t k place ok (ap (service_of_block k) still)
      (no_acquire x (on_link link.0 t) k place part)) (ok.blocks k);
}
  where
    still : services ((link, Beat.A x) ∷ t) ≡ services t
    still = services-part (link, Beat.A x) t part

    none : (b c : Bool) (n : ℕ) → n ≡ one_if (b && (false && c)) + n
    none true c n = omega arith
    none false c n = omega arith

    counted : (c q : ℕ) → Counts link x t c q
    counted c q =
        ap (count_where (is_asking c q ((link, Beat.A x) ∷ t))) still ∙ counted-kept t ((link, Beat.A x) ∷ t) c q
        (services t) (λ s. granted_a link x t s)
        ∙ rw part (none (link.0 == c) (x.source == q) (count_where (is_asking c q t) (services t)))

-- ---- the last beat

-- the service of the request that the beat completes
abbrev pub service_made : {w : ℕ} (link : Link) (x : BeatA w) (t : Trace w) → nat_le x.size 6 ≡ true → Service w
service_made link x t fits = record {
  tracker = least_untaken (trackers_of (services t));
  link = link;
  request =
      made_of x (Beat.A x ∷ unfinished Channel.A (on_link link.0 t)) fits;
}

pub made : {w : ℕ} (link : Link) (x : BeatA w) (t : Trace w) → ends (Beat.A x) (on_link link.0 t) ≡ true
    → nat_le x.size 6 ≡ true
    → (fits : nat_le x.size 6 ≡ true) × IsServed link x (service_made link x t fits) t
unfolding request_carried
made {w} link x t last small = let found = go (nat_le x.size 6) refl small in
    (found.0, record { last = last; made = found.1 })
  where
    beats : List (Beat w)
    beats = Beat.A x ∷ unfinished Channel.A (on_link link.0 t)

    with_tracker : MessageA w → Service w
    with_tracker m = record { tracker = least_untaken (trackers_of (services t)); link = link; request = m }

    go : (b : Bool) (e : nat_le x.size 6 ≡ b) → b ≡ true → (fits : nat_le x.size 6 ≡ true)
        × (option_map with_tracker (request_if x beats b e) ≡ Some (with_tracker (made_of x beats fits)))
    go true e f = (e, refl)
    go false e f = absurd cc

-- the tracker of an Acquire whose GrantAck is missing is taken
pub granting_taken : {w : ℕ} (c n : ℕ) (ss : List (Service w)) → is_granting c n ss ≡ true
    → is_one_of n (trackers_of ss) ≡ true
granting_taken c n [] e = absurd cc
granting_taken {w} c n (s ∷ ss) e = elim (or_cases (grants_by c n s) (is_granting c n ss) e) [
  | inl here ↦
      let mine = (and_parts (s.link.0 == c) (s.tracker == n) (and_parts (is_acquire s.request.opcode) _ here).1).1 in
      let swapped : (n == s.tracker) ≡ true = eq-eqb n s.tracker (sym (eqb-true s.tracker n mine)) in
      rw swapped refl
  | inr later ↦ either (n == s.tracker) (granting_taken c n ss later)
]
  where
    either : (b : Bool) {d : Bool} → d ≡ true → (b || d) ≡ true
    either true e = refl
    either false e = e

-- so the new service isn't granted
free_tracker : {w : ℕ} (c n : ℕ) (t : Trace w) → AreTracked t → is_one_of n (trackers_of (services t)) ≡ false
    → pending (GrantSink n) (on_link c t) ≡ false
free_tracker {w} c n t tracked free = go (pending (GrantSink n) (on_link c t)) refl
  where
    go : (b : Bool) → pending (GrantSink n) (on_link c t) ≡ b → b ≡ false
    go true e = absurd (let taken : is_one_of n (trackers_of (services t)) ≡ true =
        granting_taken c n (services t) (tracked c n e) in cc)
    go false e = refl

pub new_ungranted : {w : ℕ} (link : Link) (x : BeatA w) (t : Trace w) (fits : nat_le x.size 6 ≡ true) → AreTracked t
    → is_granted ((link, Beat.A x) ∷ t) (service_made link x t fits) ≡ false
new_ungranted link x t fits tracked =
    granted_a link x t (service_made link x t fits)
    ∙ rw (free_tracker link.0 (least_untaken (trackers_of (services t))) t tracked
    (least_free-is_free (trackers_of (services t)))) (never (is_acquire x.opcode))

pub unserved : {w : ℕ} (o : Option (Service w)) → is_some o ≡ false → o ≡ None
unserved None e = refl
unserved (Some s) e = absurd cc

-- what is said of its block
new_handled : {w : ℕ} (link : Link) (x : BeatA w) (t : Trace w) (s : Service w) → Place x (on_link link.0 t)
    → IsHandled (block_at x.address) t
    → service_of_block (block_at x.address) (services t) ≡ None
    → services ((link, Beat.A x) ∷ t) ≡ s ∷ services t → s.link.0 ≡ link.0 → s.request.opcode ≡ x.opcode
    → block_at s.request.address ≡ block_at x.address
    → HasFields s.request.opcode s.request.param s.request.size s.request.source s.request.address
    (request_of s.request.source (Beat.A x ∷ on_link link.0 t))
    → is_granted ((link, Beat.A x) ∷ t) s ≡ false → IsHandled (block_at x.address) ((link, Beat.A x) ∷ t)
new_handled {w} link x t s place ok none more from opcode block fields free = record {
  acquires = λ c. acquires_at c (link.0 == c) refl ∙ ap (is_acquiring c u) (sym served);
  grants = λ c. beat-keeps (pending (GrantAckOf k)) c link (Beat.A x) t
      (λ h. pending-quiet (GrantAckOf k) (Beat.A x) h refl refl) ∙ ok.grants c
      ∙ ap (is_granted_to c t) none ∙ sym (ap (λ b. (s.link.0 == c) && b) free ∙ never (s.link.0 == c)) ∙ ap
      (is_granted_to c u) (sym served);
  named = subst (IsNamed k u) (sym served) (
    λ e. named_here,
    λ e. absurd (let no : is_granted u s ≡ false = free in
        cc),
  );
  probes = λ c e.
      let before = ok.probes c
      (sym (beat-keeps (pending (ProbeOf k)) c link (Beat.A x) t
      (λ h. pending-quiet (ProbeOf k) (Beat.A x) h refl refl)) ∙ e) in
      absurd (let found : Some before.service ≡ None = sym before.serves ∙ none in cc);
}
  where
    k : ℕ
    k = block_at x.address

    u : Trace w
    u = (link, Beat.A x) ∷ t

    served : service_of_block k (services u) ≡ Some s
    served = ap (service_of_block k) more ∙ rw (eq-eqb (block_at s.request.address) (block_at x.address) block) refl

    named_here : HasFields s.request.opcode s.request.param s.request.size s.request.source s.request.address
        (request_of s.request.source (on_link s.link.0 u))
    named_here =
        subst (λ (h : History w). HasFields s.request.opcode s.request.param s.request.size s.request.source
        s.request.address (request_of s.request.source h))
        (sym (own_beat s.link.0 link (Beat.A x) t (eq-eqb link.0 s.link.0 (sym from)) ∙ ap (λ i. Beat.A x ∷ on_link i t)
        from)) fields

    opened : (b : Bool) (h : History w) → Place x h → is_acquire x.opcode ≡ b → pending (AcquireOf k) h ≡ false
        → pending (AcquireOf k) (Beat.A x ∷ h) ≡ b
    opened true h here e before = pending-opened (AcquireOf k) (Beat.A x) h refl ∙ rw
        ((acquire_whole x h here e).0, e, eq-eqb k k refl) refl
    opened false h here e before = pending-quiet (AcquireOf k) (Beat.A x) h (rw e refl) refl ∙ before

    acquires_at : (c : ℕ) (b : Bool) → (link.0 == c) ≡ b → pending (AcquireOf k) (on_link c u) ≡ is_acquiring c u
        (Some s)
    acquires_at c true e =
        ap (pending (AcquireOf k)) (own_beat c link (Beat.A x) t e)
        ∙ opened (is_acquire x.opcode) (on_link c t) (subst (λ (i : ℕ). Place x (on_link i t)) (eqb-true link.0 c e)
        place) refl (ok.acquires c ∙ ap (is_acquiring c t) none)
        ∙ sym (ap (λ b. is_acquire s.request.opcode && ((s.link.0 == c) && not b)) free ∙ rw (opcode, from, e)
        (only (is_acquire x.opcode)))
      where
        only : (b : Bool) → (b && true) ≡ b
        only true = refl
        only false = refl
    acquires_at c false e =
        ap (pending (AcquireOf k)) (other_beat c link (Beat.A x) t e) ∙ ok.acquires c ∙ ap (is_acquiring c t) none ∙ sym
        (rw (from, e) (never (is_acquire s.request.opcode)))

opens_else : {w : ℕ} (x : BeatA w) (h : History w) (k : ℕ) → (block_at x.address == k) ≡ false
    → pending (AcquireOf k) (Beat.A x ∷ h) ≡ pending (AcquireOf k) h
opens_else x h k other = pending-quiet (AcquireOf k) (Beat.A x) h (rw other (never (is_acquire x.opcode))) refl

pub accounted-last : {w : ℕ} (link : Link) (x : BeatA w) (t : Trace w) (fits : nat_le x.size 6 ≡ true)
    → Place x (on_link link.0 t) → AreTracked t
    → is_in_service (block_at x.address) (services t) ≡ false → IsServed link x (service_made link x t fits) t
    → IsAccounted t
    → IsAccounted ((link, Beat.A x) ∷ t)
accounted-last {w} link x t fits place tracked unused is ok = record {
  sources = λ c q. sources-all link x t c q place ok (counted c q);
  begun = λ c. begun-all link x t c place ok;
  reports = λ c. reports-all link x t c ok;
  blocks = λ k. handled k (block_at x.address == k) refl;
}
  where
    s : Service w
    s = service_made link x t fits

    u : Trace w
    u = (link, Beat.A x) ∷ t

    more : services u ≡ s ∷ services t
    more = services-request link x s t is

    free : is_granted u s ≡ false
    free = new_ungranted link x t fits tracked

    asked : (b c : Bool) → (b && (c && not (is_granted u s))) ≡ (b && (true && c))
    asked true true = ap not free
    asked v u = refl

    counted : (c q : ℕ) → Counts link x t c q
    counted c q =
        ap (count_where (is_asking c q u)) more
        ∙ ap (λ n. one_if (is_asking c q u s) + n) (counted-kept t u c q (services t) (λ r. granted_a link x t r))
        ∙ ap (λ b. one_if b + count_where (is_asking c q t) (services t))
        (asked (link.0 == c) (x.source == q) ∙ ap (λ b. (link.0 == c) && (b && (x.source == q))) (sym is.last))

    handled : (k : ℕ) (b : Bool) → (block_at x.address == k) ≡ b → IsHandled k u
    handled k true e =
        subst (λ (i : ℕ). IsHandled i u) (eqb-true (block_at x.address) k e)
        (new_handled link x t s place (ok.blocks (block_at x.address))
        (unserved (service_of_block (block_at x.address) (services t)) unused) more refl refl refl
        (fields-now x (on_link link.0 t) place) free)
    handled k false e =
        handled-same k t u (same-else link x t k place ok (ap (service_of_block k) more ∙ rw e refl)
        (opens_else x (on_link link.0 t) k e)) (ok.blocks k)
