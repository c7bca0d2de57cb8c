-- What is pending as a client takes a beat of a response.
use Rattle.tl_client.proofs.Imports.{IsWidth, Beat, BeatA, BeatC, BeatD, OpA, OpD, E, MessageE, History, unfinished}
use Rattle.tl_client.proofs.Imports.{completes, beats-positive, Key, RequestSource, ReleaseSource, AcquireOf, ReleaseOf}
use Rattle.tl_client.proofs.Imports.{GrantSink, GrantAckOf, ProbeOf, sent, admits, answers, comes_in_grant}
use Rattle.tl_client.proofs.Imports.{pending_with, block_at, is_acquire, is_grant, is_release_ack, asks_for, ends}
use Rattle.tl_client.proofs.Imports.{grants, grant_sink, pending, releases, request_of, release_of, pending-whole}
use Rattle.tl_client.proofs.Imports.{unfinished-whole, release_of-whole, pending-quiet, pending-closed, IsClaimed}
use Rattle.tl_client.proofs.Imports.{IsAcked, comes_granting, acquires, open_beat, open_release}
use Rattle.std.proofs.Common.{◌≡◌, ℕ, Bool, true, false, not, cond, ◌&&◌, List, [], ◌∷◌, Option, Some, None, refl, sym}
use Rattle.std.proofs.Common.{◌∙◌, ap, ap₂, inl, inr}
use Rattle.std.specs.Prelude.{◌==◌}
use Rattle.std.proofs.lemmas.Bool.{and_parts, and_from, eqb-true, eq-eqb, both_ways, cases_Bool}
use Rattle.tl_beat.specs.declared.beat.Beat.TheVariants as beat
use Rattle.tl_beat.specs.declared.channel.Channel.TheVariants as channel
use Rattle.tl_beat.specs.declared.opcode.OpA.TheVariants as a
use Rattle.tl_beat.specs.declared.opcode.OpD.TheVariants as d
use Rattle.tl_rules.specs.statement.History.{is_sink}
use Rattle.tl_client.specs.laws.Accounted.{sink_coming}
use Rattle.tl_client.proofs.pending.AccountedSent.{releases_live}
use Rattle.tl_client.proofs.pending.AccountedTaken.{GoesOn, IsFit, claimed_same}
use Rattle.tl_client.proofs.pending.Opens.{open_beat-d, open_beat-e, request_of-d, unfinished-d, closes_source}
use Rattle.tl_client.proofs.pending.Opens.{acquire_of-d}
use Rattle.tl_client.proofs.pending.Opens.{acquire_of-e}

-- ---- requests and Releases

abbrev pub closes_release : {w : ℕ} → BeatD w → History w → ℕ → Bool
closes_release x t s = ends (beat.D x) t && (is_release_ack x.opcode && (x.source == s))

pub release_of-d : {w : ℕ} (s : ℕ) (x : BeatD w) (t : History w) → release_of s (beat.D x ∷ t) ≡ release_of s t
unfolding release_of
release_of-d s x t = refl

pub open_release-d : {w : ℕ} (s : ℕ) (x : BeatD w) (t : History w)
    → open_release s (beat.D x ∷ t) ≡ cond (closes_release x t s) None (open_release s t)
open_release-d {w} s x t = rw (pending-closed (ReleaseSource s) (beat.D x) t refl, release_of-d s x t)
    (go (closes_release x t s) (pending (ReleaseSource s) t) (release_of s t))
  where
    go : (b p : Bool) (o : Option (BeatC w)) → cond (cond b false p) o None ≡ cond b None (cond p o None)
    go true p o = refl
    go false p o = refl

grant_of_acquire : (answer : OpD) (request : OpA) → is_acquire request ≡ true → answers answer request ≡ true
    → is_grant answer ≡ true
grant_of_acquire d.Grant request e f = refl
grant_of_acquire d.GrantData request e f = refl
grant_of_acquire answer a.PutFullData e f = absurd (let no : false ≡ true = e in cc)
grant_of_acquire answer a.PutPartialData e f = absurd (let no : false ≡ true = e in cc)
grant_of_acquire answer a.ArithmeticData e f = absurd (let no : false ≡ true = e in cc)
grant_of_acquire answer a.LogicalData e f = absurd (let no : false ≡ true = e in cc)
grant_of_acquire answer a.Get e f = absurd (let no : false ≡ true = e in cc)
grant_of_acquire answer a.Intent e f = absurd (let no : false ≡ true = e in cc)
grant_of_acquire d.AccessAck a.AcquireBlock e f = absurd cc
grant_of_acquire d.AccessAckData a.AcquireBlock e f = absurd cc
grant_of_acquire d.HintAck a.AcquireBlock e f = absurd cc
grant_of_acquire d.ReleaseAck a.AcquireBlock e f = absurd cc
grant_of_acquire d.AccessAck a.AcquirePerm e f = absurd cc
grant_of_acquire d.AccessAckData a.AcquirePerm e f = absurd cc
grant_of_acquire d.HintAck a.AcquirePerm e f = absurd cc
grant_of_acquire d.ReleaseAck a.AcquirePerm e f = absurd cc

-- the answer to an Acquire of a block is a Grant of it
granting_now : {w : ℕ} (opcode : OpD) (s k : ℕ) (t : History w) → admits opcode (open_beat s t) ≡ true
    → acquires k (open_beat s t) ≡ true → (is_grant opcode && asks_for k (request_of s t)) ≡ true
granting_now {w} opcode s k t = go (pending (RequestSource s) t) (request_of s t)
  where
    go : (b : Bool) (o : Option (BeatA w)) → admits opcode (cond b o None) ≡ true → acquires k (cond b o None) ≡ true
        → (is_grant opcode && asks_for k o) ≡ true
    go false o e f = absurd cc
    go true None e f = absurd cc
    go true (Some r) e f =
        let parts = and_parts (is_acquire r.opcode) (block_at r.address == k) f in
        and_from (is_grant opcode) (block_at r.address == k) (grant_of_acquire opcode r.opcode parts.0 e) parts.1

releases_named : {w : ℕ} (s k : ℕ) (t : History w) → releases k (open_release s t) ≡ true
    → releases k (release_of s t) ≡ true
releases_named s k t e = let live = releases_live s k t e in rw live at e

still : (b p : Bool) → cond b false p ≡ true → (b ≡ false) × (p ≡ true)
still true p e = absurd cc
still false p e = (refl, e)

still_releases : {w : ℕ} (k : ℕ) (b : Bool) (o : Option (BeatC w)) → releases k (cond b None o) ≡ true
    → (b ≡ false) × (releases k o ≡ true)
still_releases k true o e = absurd cc
still_releases k false o e = (refl, e)

falls : (b p : Bool) → p ≡ false → cond b false p ≡ false
falls true p e = refl
falls false p e = e

pub claimed-d : {w : ℕ} (x : BeatD w) (t : History w) → IsFit x t → IsClaimed t → IsClaimed (beat.D x ∷ t)
claimed-d {w} x t fits old = record {
  acquired = λ k e. let p = still (ends (beat.D x) t && grants k x t) (pending (AcquireOf k) t)
      (sym (acquire_of-d k x t) ∙ e) in open_acquire k p.0 (old.acquired k p.1);
  released = λ k e. let p = still (acks_block k) (pending (ReleaseOf k) t) (sym (release_now k) ∙ e) in
      open_for k p.0 (old.released k p.1);
  releasing = λ s k e. let p = still_releases k (closes_release x t s) (open_release s t)
      (rw (open_release-d s x t) at e) in release_now k ∙ rw (not_acked s k p.0 p.1) (old.releasing s k p.1);
  release_once = λ s r k e f.
      let p = still_releases k (closes_release x t s) (open_release s t) (rw (open_release-d s x t) at e) in
      let q = still_releases k (closes_release x t r) (open_release r t) (rw (open_release-d r x t) at f) in
      old.release_once s r k p.1 q.1;
  apart = λ k e. let p = still (ends (beat.D x) t && grants k x t) (pending (AcquireOf k) t)
      (sym (acquire_of-d k x t) ∙ e) in release_now k
      ∙ falls (acks_block k) (pending (ReleaseOf k) t) (old.apart k p.1);
}
  where
    acks_block : ℕ → Bool
    acks_block k = ends (beat.D x) t && (is_release_ack x.opcode && releases k (release_of x.source t))

    release_now : (k : ℕ) → pending (ReleaseOf k) (beat.D x ∷ t) ≡ cond
        (ends (beat.D x) t && (is_release_ack x.opcode && releases k (release_of x.source t))) false
        (pending (ReleaseOf k) t)
    release_now k = pending-closed (ReleaseOf k) (beat.D x) t refl

    open_acquire : (k : ℕ) → (ends (beat.D x) t && grants k x t) ≡ false → (s : ℕ) × (acquires k (open_beat s t) ≡ true)
        → (s : ℕ) × (acquires k (open_beat s (beat.D x ∷ t)) ≡ true)
    open_acquire k no_grant p = elim (cases_Bool (closes_source x t p.0)) [
      | inr other ↦ (p.0, rw (open_beat-d p.0 x t, other) p.1)
      | inl closes ↦
          let last = and_parts (ends (beat.D x) t) (not (is_release_ack x.opcode) && (x.source == p.0)) closes in
          let kind = and_parts (not (is_release_ack x.opcode)) (x.source == p.0) last.1 in
          let source : x.source ≡ p.0 = eqb-true x.source p.0 kind.1 in
          let mine : acquires k (open_beat x.source t) ≡ true = rw source p.1 in
          let granting = granting_now x.opcode x.source k t
          (fits.answers (not_from_true (is_release_ack x.opcode) kind.0)) mine in
          absurd (both_ways (ends (beat.D x) t && grants k x t) no_grant
          (and_from (ends (beat.D x) t) (grants k x t) last.0 granting))
    ]
      where
        not_from_true : (b : Bool) → not b ≡ true → b ≡ false
        not_from_true true e = absurd cc
        not_from_true false e = refl

    open_for : (k : ℕ) → (ends (beat.D x) t && (is_release_ack x.opcode && releases k (release_of x.source t))) ≡ false
        → (s : ℕ) × (releases k (open_release s t) ≡ true)
        → (s : ℕ) × (releases k (open_release s (beat.D x ∷ t)) ≡ true)
    open_for k no_ack p = elim (cases_Bool (closes_release x t p.0)) [
      | inr other ↦ (p.0, rw (open_release-d p.0 x t, other) p.1)
      | inl closes ↦
          let last = and_parts (ends (beat.D x) t) (is_release_ack x.opcode && (x.source == p.0)) closes in
          let kind = and_parts (is_release_ack x.opcode) (x.source == p.0) last.1 in
          let source : x.source ≡ p.0 = eqb-true x.source p.0 kind.1 in
          let mine : releases k (release_of x.source t) ≡ true = rw source (releases_named p.0 k t p.1) in
          absurd (both_ways (ends (beat.D x) t && (is_release_ack x.opcode && releases k (release_of x.source t)))
          no_ack
          (and_from (ends (beat.D x) t) (is_release_ack x.opcode && releases k (release_of x.source t)) last.0
          (and_from (is_release_ack x.opcode) (releases k (release_of x.source t)) kind.0 mine)))
    ]

    not_acked : (s k : ℕ) → closes_release x t s ≡ false → releases k (open_release s t) ≡ true
        → (ends (beat.D x) t && (is_release_ack x.opcode && releases k (release_of x.source t))) ≡ false
    not_acked s k open_still e =
        elim (cases_Bool (ends (beat.D x) t && (is_release_ack x.opcode && releases k (release_of x.source t)))) [
          | inr none ↦ none
          | inl acked ↦
              let last = and_parts (ends (beat.D x) t) (is_release_ack x.opcode && releases k (release_of x.source t))
              acked
              in
              let kind = and_parts (is_release_ack x.opcode) (releases k (release_of x.source t)) last.1 in
              let live : pending (ReleaseSource x.source) t ≡ true = (fits.acks kind.0).0 in
              let own : releases k (open_release x.source t) ≡ true = rw live kind.1 in
              let source = old.release_once x.source s k own e in
              absurd (both_ways (closes_release x t s) open_still
              (and_from (ends (beat.D x) t) (is_release_ack x.opcode && (x.source == s)) last.0
              (and_from (is_release_ack x.opcode) (x.source == s) kind.0 (eq-eqb x.source s source))))
        ]

-- ---- Grants

turned_first : (opened last before : Bool) → before ≡ false
    → cond opened true (cond (last && false) false before) ≡ opened
turned_first true last before e = refl
turned_first false true before e = e
turned_first false false before e = e

turned_later : (last before : Bool) → cond (last && false) false before ≡ before
turned_later true before = refl
turned_later false before = refl

pub sink_now : {w : ℕ} (s : ℕ) (x : BeatD w) (t : History w) (burst : List (Beat w)) → unfinished channel.D t ≡ burst
    → GoesOn x burst → pending (GrantSink s) t ≡ comes_in_grant s burst
    → pending (GrantSink s) (beat.D x ∷ t) ≡ (is_grant x.opcode && (x.sink == s))
unfolding pending
sink_now s x t [] is on old =
    rw is (turned_first (is_grant x.opcode && (x.sink == s)) (completes (beat.D x) []) (pending (GrantSink s) t) old)
sink_now s x t (beat.D y ∷ burst) is on old =
    rw is (turned_later (completes (beat.D x) (beat.D y ∷ burst)) (pending (GrantSink s) t) ∙ old ∙ ap₂
    (λ (o : OpD) (n : ℕ). is_grant o && (n == s)) (sym on.0) (sym on.2))
sink_now s x t (beat.A y ∷ burst) is on old = absurd on
sink_now s x t (beat.B y ∷ burst) is on old = absurd on
sink_now s x t (beat.C y ∷ burst) is on old = absurd on
sink_now s x t (beat.E y ∷ burst) is on old = absurd on

ack_now : {w : ℕ} (k : ℕ) (x : BeatD w) (t : History w) (burst : List (Beat w)) → unfinished channel.D t ≡ burst
    → GoesOn x burst → pending (GrantAckOf k) t ≡ comes_granting k burst t
    → pending (GrantAckOf k) (beat.D x ∷ t) ≡ grants k x t
unfolding pending
ack_now k x t [] is on old =
    rw is (turned_first (grants k x t) (completes (beat.D x) []) (pending (GrantAckOf k) t) old)
ack_now k x t (beat.D y ∷ burst) is on old =
    rw is (turned_later (completes (beat.D x) (beat.D y ∷ burst)) (pending (GrantAckOf k) t) ∙ old ∙ ap₂
    (λ (o : OpD) (s : ℕ). is_grant o && asks_for k (request_of s t)) (sym on.0) (sym on.1))
ack_now k x t (beat.A y ∷ burst) is on old = absurd on
ack_now k x t (beat.B y ∷ burst) is on old = absurd on
ack_now k x t (beat.C y ∷ burst) is on old = absurd on
ack_now k x t (beat.E y ∷ burst) is on old = absurd on

ack_sink_now : {w : ℕ} (k : ℕ) (x : BeatD w) (t : History w) (burst : List (Beat w)) → unfinished channel.D t ≡ burst
    → GoesOn x burst
    → (comes_granting k burst t ≡ true → grant_sink k t ≡ sink_coming burst) → grants k x t ≡ true
    → grant_sink k (beat.D x ∷ t) ≡ Some x.sink
unfolding grant_sink
ack_sink_now k x t [] is on old g = rw (is, g) refl
ack_sink_now k x t (beat.D y ∷ burst) is on old g =
    rw is (old (ap₂ (λ (o : OpD) (s : ℕ). is_grant o && asks_for k (request_of s t)) (sym on.0) (sym on.1) ∙ g) ∙ ap
    (λ (n : ℕ). Some n) (sym on.2))
ack_sink_now k x t (beat.A y ∷ burst) is on old g = absurd on
ack_sink_now k x t (beat.B y ∷ burst) is on old g = absurd on
ack_sink_now k x t (beat.C y ∷ burst) is on old g = absurd on
ack_sink_now k x t (beat.E y ∷ burst) is on old g = absurd on

same_grants : {w : ℕ} (k : ℕ) (x : BeatD w) (t : History w) → grants k x (beat.D x ∷ t) ≡ grants k x t
same_grants k x t = rw (request_of-d x.source x t) refl

quiet_probe : {w : ℕ} (k : ℕ) (x : BeatD w) (t : History w) → pending (ProbeOf k) (beat.D x ∷ t) ≡ pending (ProbeOf k) t
quiet_probe k x t = pending-quiet (ProbeOf k) (beat.D x) t refl refl

-- a beat that isn't the last one
pub acked-part : {w : ℕ} (x : BeatD w) (t : History w) → IsFit x t → ends (beat.D x) t ≡ false → IsAcked t
    → IsAcked (beat.D x ∷ t)
acked-part {w} x t fits more old = record {
  probes = λ k. quiet_probe k x t ∙ old.probes k;
  sinks = λ s. rw burst_now (sink_now s x t (unfinished channel.D t) refl fits.goes_on (old.sinks s));
  acks = λ k. rw burst_now (ack_now k x t (unfinished channel.D t) refl fits.goes_on (old.acks k) ∙ sym
      (same_grants k x t));
  ack_sinks = λ k e. rw burst_now (ack_sink_now k x t (unfinished channel.D t) refl fits.goes_on (old.ack_sinks k)
      (sym (same_grants k x t) ∙ (rw burst_now at e)));
  answering = rw burst_now answering_now;
}
  where
    burst_now : unfinished channel.D (beat.D x ∷ t) ≡ (beat.D x ∷ unfinished channel.D t)
    burst_now = (unfinished-d x t).4 ∙ rw more refl

    no_ack : is_release_ack x.opcode ≡ false
    no_ack = elim (cases_Bool (is_release_ack x.opcode)) [
      | inr other ↦ other
      | inl acks ↦ absurd (both_ways (ends (beat.D x) t) more (fits.acks acks).1)
    ]

    answering_now : admits x.opcode (open_beat x.source (beat.D x ∷ t)) ≡ true
    answering_now = rw (open_beat-d x.source x t, more) (fits.answers no_ack)

-- the last beat of a response that isn't a Grant
pub acked-last : {w : ℕ} (x : BeatD w) (t : History w) → IsFit x t → ends (beat.D x) t ≡ true
    → is_grant x.opcode ≡ false → IsAcked t → IsAcked (beat.D x ∷ t)
acked-last {w} x t fits last other old = record {
  probes = λ k. quiet_probe k x t ∙ old.probes k;
  sinks = λ s. rw burst_now (sink_now s x t (unfinished channel.D t) refl fits.goes_on (old.sinks s) ∙ rw other refl);
  acks = λ k. rw burst_now (ack_now k x t (unfinished channel.D t) refl fits.goes_on (old.acks k) ∙ rw other refl);
  ack_sinks = λ k e. absurd (let bad : false ≡ true = rw burst_now at e in cc);
  answering = rw burst_now tt;
}
  where
    burst_now : unfinished channel.D (beat.D x ∷ t) ≡ []
    burst_now = (unfinished-d x t).4 ∙ rw last refl

pub is_own_sink : (s : ℕ) (o : Option ℕ) → o ≡ Some s → is_sink s o ≡ true
is_own_sink s o e = rw e (eq-eqb s s refl)

falls_with : (b p q : Bool) → q ≡ (p && b) → cond b false q ≡ false
falls_with true p q e = refl
falls_with false true q e = e
falls_with false false q e = e

falls_where : (b p q : Bool) → q ≡ p → (p ≡ true → b ≡ true) → cond b false q ≡ false
falls_where b true q e f = rw (f refl) refl
falls_where b false q e f = falls b q e

-- the last beat of a Grant, and the GrantAck
pub acked-grant : {w : ℕ} (x : BeatD w) (m : MessageE) (t : History w) → IsWidth w → IsFit x t
    → ends (beat.D x) t ≡ true → m.sink ≡ x.sink → unfinished channel.E t ≡ [] → IsAcked t
    → IsAcked (sent (E m) (beat.D x ∷ t))
acked-grant {w} x m t is fits last sink none old = record {
  probes = λ k. now (ProbeOf k) ∙ quiet_probe k x t ∙ old.probes k;
  sinks = λ s. rw burst_now (now (GrantSink s) ∙ falls_with (m.sink == s) (is_grant x.opcode)
      (pending (GrantSink s) (beat.D x ∷ t)) (sink_there s));
  acks = λ k. rw burst_now (now (GrantAckOf k) ∙ falls_where (is_sink m.sink (grant_sink k (beat.D x ∷ t)))
      (grants k x t) (pending (GrantAckOf k) (beat.D x ∷ t))
      (ack_now k x t (unfinished channel.D t) refl fits.goes_on (old.acks k))
      (λ g. is_own_sink m.sink (grant_sink k (beat.D x ∷ t))
      (ack_sink_now k x t (unfinished channel.D t) refl fits.goes_on (old.ack_sinks k) g ∙ ap (λ (n : ℕ). Some n)
      (sym sink))));
  ack_sinks = λ k e. absurd (let bad : false ≡ true = rw burst_now at e in cc);
  answering = rw burst_now tt;
}
  where
    none_now : unfinished channel.E (beat.D x ∷ t) ≡ []
    none_now = (unfinished-d x t).3 ∙ none

    now : (key : Key) → pending key (sent (E m) (beat.D x ∷ t)) ≡ pending_with key (E m) (beat.D x ∷ t)
    now key = pending-whole key (E m) (beat.D x ∷ t) none_now (beats-positive {w = w} (E m) is)

    sink_there : (s : ℕ) → pending (GrantSink s) (beat.D x ∷ t) ≡ (is_grant x.opcode && (m.sink == s))
    sink_there s = sink_now s x t (unfinished channel.D t) refl fits.goes_on (old.sinks s) ∙ ap
        (λ (n : ℕ). is_grant x.opcode && (n == s)) (sym sink)

    burst_now : unfinished channel.D (sent (E m) (beat.D x ∷ t)) ≡ []
    burst_now = unfinished-whole channel.D (E m) (beat.D x ∷ t) none_now (beats-positive {w = w} (E m) is)
        ∙ (unfinished-d x t).4 ∙ rw last refl

-- a GrantAck
pub claimed-e : {w : ℕ} (m : MessageE) (t : History w) → IsWidth w → unfinished channel.E t ≡ [] → IsClaimed t
    → IsClaimed (sent (E m) t)
claimed-e {w} m t is none old =
    claimed_same t (sent (E m) t)
    (record {
      same_acquires = λ k. acquire_of-e k m t is none;
      same_releases = λ k. now (ReleaseOf k);
      same_open = λ s. open_beat-e s m t is none;
      same_open_release = λ s. rw (
        now (ReleaseSource s),
        release_of-whole s (E m) t none
            (beats-positive {w = w} (E m) is),
      ) refl;
    }) old
  where
    now : (key : Key) → pending key (sent (E m) t) ≡ pending_with key (E m) t
    now key = pending-whole key (E m) t none (beats-positive {w = w} (E m) is)
