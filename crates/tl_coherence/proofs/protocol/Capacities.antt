-- Which source, block or tracker each token is of.
-- How many messages a channel holds: as many at most as there are sources, trackers, or both.
use Rattle.std.proofs.Common.{◌≡◌, ℕ, ◌+◌, ◌<◌, ◌≤◌, Bool, true, false, not, ◌||◌, Option, Some, None, refl, sym, ◌∙◌}
use Rattle.std.proofs.Common.{ap, subst, arith, length}
use Rattle.tl_coherence.proofs
use proofs.Imports.{and_parts, Channel, part_bit, one_if, IsInvariant, is_asked, is_busy, is_replied, Acquire, Answer}
use proofs.Imports.{Grant, GrantAck, Kind, Packet, Probe, ProbeAck, Release, ReleaseAck, Request, is, same_kind, count}
use proofs.Imports.{Acknowledging, ClientBlock, View, is_idle, is_unprobed, is_unreleased, ok, Acquires, Asked, Replied}
use proofs.Imports.{Service, SourceFree, SourceState, State, is_on, on, packet, packets_on, view, is_acknowledging}
use proofs.Imports.{is_granting, is_wanting, shown}
use proofs.queues.{Tokens.same_number, Phases.each_phase, Phases.of_phase, Moves.on_same, Moves.kind_is}
use proofs.queues.FirstToken.{IsThere, passing, pass-or-not, all-pass, few}
use proofs.protocol.BothParts.{is_of-is, acquires_of-is, not-answered, not-sent, acked-open, releasing-open}
use proofs.protocol.BothParts.{is_replied-is, is_asked-is}

-- what is used is below these bounds
pub record AreBounded {X : Type 0} (c sources trackers : ℕ) (s : State X) : Type 0 where
  pub requests : (source : ℕ) → (s.uses c source ≡ SourceFree → ⊥) → source < sources
  pub releases : (source n : ℕ) → s.lets c source ≡ Some n → source < sources
  pub tracked : (i n : ℕ) → s.tracked i ≡ Some n → i < trackers

-- ---- a token that is there is shown by its block or its source

there_shown : (n : ℕ) (b : Bool) → 0 < n → n ≡ one_if b → b ≡ true
there_shown n b e f = grind arith

at_most_one : (n : ℕ) (b : Bool) → n ≡ one_if b → n ≤ 1
at_most_one n b e = grind arith

not_there : (n : ℕ) → n ≡ 0 → 0 < n → ⊥
not_there n e lt = absurd (omega (arith, e, lt))

-- how often a token of the kind stands on the channel
once_of : {X : Type 0} {caching : ℕ → Bool} {s : State X} (c : ℕ) (ch : Channel) (k : Kind) (n : ℕ)
    → IsInvariant caching s → is_on ch k ≡ true
    → packets_on ch (s.link c) ≡ on k (s.link c) → count k n (packets_on ch (s.link c)) ≤ 1
once_of {s} c ch Request n inv on_it is = at_most_one _ (is_asked (s.uses c n)) (rw is (inv.requests c n))
once_of {s} c ch Answer n inv on_it is = at_most_one _ (is_replied (s.uses c n)) (rw is (inv.answers c n))
once_of {s} c ch k n inv on_it is = at_most_one _ (shown k c (s.block n)) (rw is (inv.transfers c k refl n))

-- no token stands twice on a channel
pub once : {X : Type 0} {caching : ℕ → Bool} {s : State X} (c : ℕ) (ch : Channel) → IsInvariant caching s
    → (k : Kind) (n : ℕ) → count k n (packets_on ch (s.link c)) ≤ 1
once {s} c ch inv k n = go (is_on ch k) refl
  where
    go : (b : Bool) → is_on ch k ≡ b → count k n (packets_on ch (s.link c)) ≤ 1
    go true e = once_of c ch k n inv e (sym (on_same ch k (s.link c) e))
    go false e = let none : count k n (packets_on ch (s.link c)) ≡ 0 = inv.own_kinds c ch k n e in omega (arith, none)

-- a token is of a kind of its channel
pub kind_there : {X : Type 0} {caching : ℕ → Bool} {s : State X} (c : ℕ) (ch : Channel) (x : Packet)
    → IsInvariant caching s → IsThere x (packets_on ch (s.link c)) → is_on ch x.kind ≡ true
kind_there c ch x inv there =
    let go : (b : Bool) → is_on ch x.kind ≡ b → b ≡ true =
    elim [ true ↦ λ e. refl | false ↦ λ e. absurd (not_there _ (inv.own_kinds c ch x.kind x.number e) there) ] in
    go (is_on ch x.kind) refl

-- and what it is of shows it
abbrev pub shows_it : {X : Type 0} → State X → ℕ → Kind → ℕ → Bool
shows_it s c Request n = is_asked (s.uses c n)
shows_it s c Answer n = is_replied (s.uses c n)
shows_it s c k n = shown k c (s.block n)

pub shown_there : {X : Type 0} {caching : ℕ → Bool} {s : State X} (c : ℕ) (ch : Channel) (k : Kind) (n : ℕ)
    → IsInvariant caching s → is_on ch k ≡ true → 0 < count k n (packets_on ch (s.link c)) → shows_it s c k n ≡ true
shown_there {s} c ch k n inv on_it there = go k refl
  where
    on_k : 0 < count k n (on k (s.link c))
    on_k = rw (← on_same ch k (s.link c) on_it) at there

    go : (j : Kind) → k ≡ j → shows_it s c j n ≡ true
    go Request e = there_shown _ (is_asked (s.uses c n)) (rw e at on_k) (inv.requests c n)
    go Answer e = there_shown _ (is_replied (s.uses c n)) (rw e at on_k) (inv.answers c n)
    go j e = there_shown _ (shown j c (s.block n)) (rw e at on_k) (inv.transfers c j refl n)

-- ---- which token a source, or a tracker, is of

pub token-is : (x : Packet) (k : Kind) → x.kind ≡ k → packet k x.number ≡ x
token-is x k e = ap (λ j. packet j x.number) (sym e)

-- a request on A, and the response to it on D
abbrev pub asked_by : ℕ → SourceState → Option Packet
asked_by i Asked = Some (packet Request i)
asked_by i (Acquires n) = Some (packet Acquire n)
asked_by i _ = None

abbrev pub answered_by : ℕ → SourceState → Option Packet
answered_by i Replied = Some (packet Answer i)
answered_by i (Acquires n) = Some (packet Grant n)
answered_by i _ = None

abbrev pub of_block : Kind → Option ℕ → Option Packet
of_block k None = None
of_block k (Some n) = Some (packet k n)

-- by which source or tracker a token goes
abbrev pub name : {X : Type 0} → State X → ℕ → Kind → ℕ → ℕ
name s c Request n = n
name s c Answer n = n
name s c Acquire n = (s.block n).source c
name s c Grant n = (s.block n).source c
name s c Release n = (s.block n).release_source c
name s c ReleaseAck n = (s.block n).release_source c
name s c k n = (s.block n).tracker

-- the source of an open Acquire is of its block
pub source_of_acquire : {X : Type 0} {caching : ℕ → Bool} {s : State X} (c n : ℕ) → IsInvariant caching s
    → is_wanting ((s.block n).pair c).acquiring ≡ true → s.uses c ((s.block n).source c) ≡ Acquires n
source_of_acquire {s} c n inv wants = acquires_of-is n _
    (inv.named.acquires c ((s.block n).source c) n ∙ rw (wants, same_number ((s.block n).source c)) refl)

pub source_of_release : {X : Type 0} {caching : ℕ → Bool} {s : State X} (c n : ℕ) → IsInvariant caching s
    → is_unreleased ((s.block n).pair c).letting ≡ false → s.lets c ((s.block n).release_source c) ≡ Some n
source_of_release {s} c n inv lets = is_of-is n _
    (inv.named.releases c ((s.block n).release_source c) n ∙ rw (lets, same_number ((s.block n).release_source c)) refl)

pub tracker_of_service : {X : Type 0} {caching : ℕ → Bool} {s : State X} (n : ℕ) → IsInvariant caching s
    → is_busy (s.block n).service ≡ true → s.tracked (s.block n).tracker ≡ Some n
tracker_of_service {s} n inv busy = is_of-is n _ (inv.named.trackers (s.block n).tracker n
    ∙ rw (busy, same_number (s.block n).tracker) refl)

-- ---- what phases say

pub busy_unless_idle : (service : Service) (c : ℕ) → is_idle (view service c) ≡ false → is_busy service ≡ true
busy_unless_idle service c e = grind arith

asks_for_grant : ClientBlock → View → Bool
asks_for_grant p v = not (is_granting v) || is_wanting p.acquiring

probes_in_service : ClientBlock → View → Bool
probes_in_service p v = is_unprobed p.probing || not (is_idle v)

unless : (a b : Bool) → (a || not b) ≡ true → a ≡ false → b ≡ false
unless a b e f = grind arith

pub grants_ask : (p : ClientBlock) (v : View) → ok p v ≡ true → is_granting v ≡ true → is_wanting p.acquiring ≡ true
unfolding each_phase asks_for_grant
grants_ask p v h = part_bit (is_granting v) (is_wanting p.acquiring) (of_phase asks_for_grant refl p v h)

pub probes_serve : (p : ClientBlock) (v : View) → ok p v ≡ true → is_unprobed p.probing ≡ false → is_idle v ≡ false
unfolding each_phase probes_in_service
probes_serve p v h = unless (is_unprobed p.probing) (is_idle v) (of_phase probes_in_service refl p v h)

-- ---- each token is the one of its source, or of its tracker

module _ {X : Type 0} {caching : ℕ → Bool} {s : State X} (c n : ℕ) (inv : IsInvariant caching s) where
  pub request_named : is_asked (s.uses c n) ≡ true → s.uses c n ≡ Asked
  request_named e = is_asked-is _ e

  pub answer_named : is_replied (s.uses c n) ≡ true → s.uses c n ≡ Replied
  answer_named e = is_replied-is _ e

  pub acquire_named : shown Acquire c (s.block n) ≡ true → s.uses c ((s.block n).source c) ≡ Acquires n
  acquire_named e = source_of_acquire c n inv (and_parts _ _ e).0

  pub grant_named : shown Grant c (s.block n) ≡ true → s.uses c ((s.block n).source c) ≡ Acquires n
  grant_named e = source_of_acquire c n inv (grants_ask ((s.block n).pair c) (view (s.block n).service c)
      ((inv.blocks n).phases c) e)

  pub release_named : shown Release c (s.block n) ≡ true → s.lets c ((s.block n).release_source c) ≡ Some n
  release_named e = source_of_release c n inv (releasing-open ((s.block n).pair c).letting e)

  pub release_ack_named : shown ReleaseAck c (s.block n) ≡ true → s.lets c ((s.block n).release_source c) ≡ Some n
  release_ack_named e = source_of_release c n inv (acked-open ((s.block n).pair c).letting e)

  tracked_probing : is_unprobed ((s.block n).pair c).probing ≡ false → s.tracked (s.block n).tracker ≡ Some n
  tracked_probing e = tracker_of_service n inv (busy_unless_idle (s.block n).service c
      (probes_serve ((s.block n).pair c) (view (s.block n).service c) ((inv.blocks n).phases c) e))

  probe_named : shown Probe c (s.block n) ≡ true → s.tracked (s.block n).tracker ≡ Some n
  probe_named e = tracked_probing (not-sent ((s.block n).pair c).probing e)

  pub report_named : shown ProbeAck c (s.block n) ≡ true → s.tracked (s.block n).tracker ≡ Some n
  report_named e = tracked_probing (not-answered ((s.block n).pair c).probing e)

  pub grant_ack_named : shown GrantAck c (s.block n) ≡ true → s.tracked (s.block n).tracker ≡ Some n
  grant_ack_named e =
      let go : (v : View) → is_acknowledging v ≡ true → is_idle v ≡ false =
      elim [ Acknowledging ↦ λ h. refl | v ↦ λ h. absurd cc ] in
      tracker_of_service n inv (busy_unless_idle (s.block n).service c (go (view (s.block n).service c) e))

-- ---- the channels

-- the token goes by the source of its Release
abbrev is_of_release : Kind → Bool
is_of_release Release = true
is_of_release ReleaseAck = true
is_of_release _ = false

-- the token goes by the tracker of its block
abbrev is_tracked : Kind → Bool
is_tracked Probe = true
is_tracked ProbeAck = true
is_tracked GrantAck = true
is_tracked _ = false

-- a request that isn't free is below the bound, and so on
used_below : {X : Type 0} {c sources trackers : ℕ} {s : State X} → AreBounded c sources trackers s
    → (i : ℕ) (u : SourceState) → s.uses c i ≡ u → (u ≡ SourceFree → ⊥) → i < sources
used_below bounds i u e open_use = bounds.requests i (λ none. open_use (sym e ∙ none))

module _ {X : Type 0} (caching : ℕ → Bool) (s : State X) (c sources trackers : ℕ) (inv : IsInvariant caching s)
    (bounds : AreBounded c sources trackers s) where
  -- what is asked on A
  asked_token : (x : Packet) → IsThere x (s.link c).a
      → (asked_by (name s c x.kind x.number) (s.uses c (name s c x.kind x.number)) ≡ Some x)
      × (name s c x.kind x.number < sources)
  asked_token x there = go x.kind refl (kind_there c Channel.A x inv there)
    where
      go : (k : Kind) → x.kind ≡ k → is_on Channel.A k ≡ true
          → (asked_by (name s c k x.number) (s.uses c (name s c k x.number)) ≡ Some x) × (name s c k x.number < sources)
      go Request e on_it =
          let used = request_named c x.number inv (shown_there c Channel.A Request x.number inv refl
          (rw e at there)) in (
            rw used (ap (λ y. Some y) (token-is x Request e)),
            used_below bounds _ Asked used (λ h. absurd cc),
          )
      go Acquire e on_it =
          let used = acquire_named c x.number inv (shown_there c Channel.A Acquire x.number inv refl (rw e at there)) in
          let fact = used_below bounds _ _ used (λ h. absurd cc) in
          (rw used (ap (λ y. Some y) (token-is x Acquire e)), fact)
      go k e on_it = absurd cc

  pub few_on_a : length (s.link c).a ≤ sources
  few_on_a = rw (all-pass (s.link c).a) at (few (λ x. true) (λ x. name s c x.kind x.number)
      (λ i. asked_by i (s.uses c i)) sources (s.link c).a (once c Channel.A inv) (λ x there pass. asked_token x there))

  -- what is answered on D, the ReleaseAcks aside
  answered_token : (x : Packet) → IsThere x (s.link c).d → not (same_kind x.kind ReleaseAck) ≡ true
      → (answered_by (name s c x.kind x.number) (s.uses c (name s c x.kind x.number)) ≡ Some x)
      × (name s c x.kind x.number < sources)
  answered_token x there = go x.kind refl (kind_there c Channel.D x inv there)
    where
      go : (k : Kind) → x.kind ≡ k → is_on Channel.D k ≡ true → not (same_kind k ReleaseAck) ≡ true
          → (answered_by (name s c k x.number) (s.uses c (name s c k x.number)) ≡ Some x)
          × (name s c k x.number < sources)
      go Answer e on_it pass =
          let used = answer_named c x.number inv (shown_there c Channel.D Answer x.number inv refl (rw e at there)) in (
            rw used (ap (λ y. Some y) (token-is x Answer e)),
            used_below bounds _ _ used (λ h. absurd cc),
          )
      go Grant e on_it pass =
          let used = grant_named c x.number inv (shown_there c Channel.D Grant x.number inv refl (rw e at there)) in
          let fact = used_below bounds _ _ used (λ h. absurd cc) in
          (rw used (ap (λ y. Some y) (token-is x Grant e)), fact)
      go k e on_it pass = absurd cc

  -- a Release by its source, and its ReleaseAck
  released_token : (ch : Channel) (x : Packet) (k : Kind) → x.kind ≡ k → is_on ch k ≡ true
      → IsThere x (packets_on ch (s.link c)) → is_of_release k ≡ true
      → (of_block k (s.lets c (name s c k x.number)) ≡ Some x) × (name s c k x.number < sources)
  released_token ch x Release e on_it there which =
      let let_by = release_named c x.number inv (shown_there c ch Release x.number inv on_it (rw e at there)) in
      (rw let_by (ap (λ y. Some y) (token-is x Release e)), bounds.releases _ _ let_by)
  released_token ch x ReleaseAck e on_it there which =
      let let_by = release_ack_named c x.number inv (shown_there c ch ReleaseAck x.number inv on_it (rw e at there)) in
      (rw let_by (ap (λ y. Some y) (token-is x ReleaseAck e)), bounds.releases _ _ let_by)
  released_token ch x k e on_it there which = absurd cc

  released_there : (ch : Channel) (k : Kind) (x : Packet) → is_on ch k ≡ true → is_of_release k ≡ true
      → IsThere x (packets_on ch (s.link c)) → x.kind ≡ k
      → (of_block k (s.lets c (name s c x.kind x.number)) ≡ Some x) × (name s c x.kind x.number < sources)
  released_there ch k x on_it which there e = subst (λ j. (of_block k (s.lets c (name s c j x.number))
      ≡ Some x) × (name s c j x.number < sources)) (sym e) (released_token ch x k e on_it there which)

  -- what goes by its tracker
  tracked_token : (ch : Channel) (x : Packet) (k : Kind) → x.kind ≡ k → is_on ch k ≡ true
      → IsThere x (packets_on ch (s.link c)) → is_tracked k ≡ true
      → (of_block k (s.tracked (name s c k x.number)) ≡ Some x) × (name s c k x.number < trackers)
  tracked_token ch x Probe e on_it there which =
      let by = probe_named c x.number inv (shown_there c ch Probe x.number inv on_it (rw e at there)) in
      (rw by (ap (λ y. Some y) (token-is x Probe e)), bounds.tracked _ _ by)
  tracked_token ch x ProbeAck e on_it there which =
      let by = report_named c x.number inv (shown_there c ch ProbeAck x.number inv on_it (rw e at there)) in
      (rw by (ap (λ y. Some y) (token-is x ProbeAck e)), bounds.tracked _ _ by)
  tracked_token ch x GrantAck e on_it there which =
      let by = grant_ack_named c x.number inv (shown_there c ch GrantAck x.number inv on_it (rw e at there)) in
      (rw by (ap (λ y. Some y) (token-is x GrantAck e)), bounds.tracked _ _ by)
  tracked_token ch x k e on_it there which = absurd cc

  tracked_there : (ch : Channel) (k : Kind) (x : Packet) → is_on ch k ≡ true → is_tracked k ≡ true
      → IsThere x (packets_on ch (s.link c)) → x.kind ≡ k
      → (of_block k (s.tracked (name s c x.kind x.number)) ≡ Some x) × (name s c x.kind x.number < trackers)
  tracked_there ch k x on_it which there e = subst (λ j. (of_block k (s.tracked (name s c j x.number))
      ≡ Some x) × (name s c j x.number < trackers)) (sym e) (tracked_token ch x k e on_it there which)

  -- a kind of the channel that isn't the one is the other
  only_kind : (ch : Channel) (x : Packet) → IsThere x (packets_on ch (s.link c)) → is_on ch x.kind ≡ true
  only_kind ch x there = kind_there c ch x inv there

  probe_alone : (k : Kind) → is_on Channel.B k ≡ true → k ≡ Probe
  probe_alone k e = grind arith

  ack_alone : (k : Kind) → is_on Channel.E k ≡ true → k ≡ GrantAck
  ack_alone k e = grind arith

  report_or_release : (k : Kind) → is_on Channel.C k ≡ true → not (same_kind k Release) ≡ true → k ≡ ProbeAck
  report_or_release k e f = grind arith

  pub few_on_b : length (s.link c).b ≤ trackers
  few_on_b =
      let all = few (λ x. true) (λ x. name s c x.kind x.number) (λ i. of_block Probe (s.tracked i)) trackers
      _ (once c Channel.B inv) (λ x there pass. tracked_there Channel.B Probe x refl refl there
      (probe_alone x.kind (only_kind Channel.B x there))) in
      rw (all-pass (s.link c).b) at all

  pub few_on_e : length (s.link c).e ≤ trackers
  few_on_e =
      let all = few (λ x. true) (λ x. name s c x.kind x.number) (λ i. of_block GrantAck (s.tracked i)) trackers
      _ (once c Channel.E inv) (λ x there pass. tracked_there Channel.E _ x refl refl
      there (ack_alone x.kind (only_kind Channel.E x there))) in
      rw (all-pass (s.link c).e) at all

  pub few_on_c : length (s.link c).c ≤ sources + trackers
  few_on_c =
      let releases = few (λ x. same_kind x.kind Release) (λ x. name s c x.kind x.number)
      (λ i. of_block Release (s.lets c i)) sources _ (once c Channel.C inv)
      (λ x there pass. released_there Channel.C _ x refl refl there (kind_is x.kind Release pass)) in
      let reports = few (λ x. not (same_kind x.kind Release)) (λ x. name s c x.kind x.number)
      (λ i. of_block ProbeAck (s.tracked i)) trackers _ (once c Channel.C inv) (λ x there pass. tracked_there Channel.C
      _ x refl refl there (report_or_release x.kind (only_kind Channel.C x there) pass)) in
      omega (arith, pass-or-not (λ x. same_kind x.kind Release) (s.link c).c, releases, reports)

  pub few_acks_on_d : passing (λ x. same_kind x.kind ReleaseAck) (s.link c).d ≤ sources
  few_acks_on_d = few (λ x. same_kind x.kind ReleaseAck) (λ x. name s c x.kind x.number)
      (λ i. of_block ReleaseAck (s.lets c i)) sources _ (once c Channel.D inv)
      (λ x there pass. released_there Channel.D _ x refl refl there (kind_is x.kind ReleaseAck pass))

  pub few_responses_on_d : passing (λ x. not (same_kind x.kind ReleaseAck)) (s.link c).d ≤ sources
  few_responses_on_d = few (λ x. not (same_kind x.kind ReleaseAck)) (λ x. name s c x.kind x.number) (λ i. answered_by i
      (s.uses c i)) sources _ (once c Channel.D inv) (λ x there pass. answered_token x there pass)
