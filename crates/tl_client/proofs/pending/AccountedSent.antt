-- What is pending as a client hands a message out.
use Rattle.tl_client.proofs.Imports.{IsWidth, Beat, BeatA, BeatC, OpD, A, C, MessageA, MessageC, History, unfinished}
use Rattle.tl_client.proofs.Imports.{beats-positive, Key, RequestSource, ReleaseSource, AcquireOf, ReleaseOf, GrantSink}
use Rattle.tl_client.proofs.Imports.{GrantAckOf, ProbeOf, sent, admits, pending_with, block_at, is_acquire}
use Rattle.tl_client.proofs.Imports.{is_probe_ack, is_release, grant_sink, pending, releases, request_of, release_of}
use Rattle.tl_client.proofs.Imports.{pending-whole, unfinished-whole, request_of-whole, release_of-whole, IsClaimed}
use Rattle.tl_client.proofs.Imports.{IsAcked, comes_granting, acquires, open_beat, open_release}
use Rattle.std.proofs.Common.{◌≡◌, ℕ, Bool, true, false, cond, ◌&&◌, ◌⊎◌, List, [], ◌∷◌, Option, Some, None, refl, sym}
use Rattle.std.proofs.Common.{◌∙◌, inl, inr}
use Rattle.std.specs.Prelude.{◌==◌, ⊤}
use Rattle.std.proofs.lemmas.Bool.{and_parts, eqb-true, eq-eqb, both_ways, cases_Bool}
use Rattle.tl_beat.specs.declared.beat.Beat.TheVariants as beat
use Rattle.tl_beat.specs.declared.channel.Channel.TheVariants as channel
use Rattle.tl_burst.specs.statement.Burst.{c_beat_of}
use Rattle.tl_rules.proofs.Handed.{grant_sink-whole}
use Rattle.tl_client.specs.laws.Accounted.{IsAnswering}
use Rattle.tl_client.proofs.pending.Opens.{open_beat-a, open_beat-c}

-- ---- what is open is pending

pub acquires_live : {w : ℕ} (s k : ℕ) (t : History w) → acquires k (open_beat s t) ≡ true
    → pending (RequestSource s) t ≡ true
acquires_live {w} s k t e = go (pending (RequestSource s) t) (request_of s t) e
  where
    go : (b : Bool) (o : Option (BeatA w)) → acquires k (cond b o None) ≡ true → b ≡ true
    go true o f = refl
    go false o f = absurd cc

pub releases_live : {w : ℕ} (s k : ℕ) (t : History w) → releases k (open_release s t) ≡ true
    → pending (ReleaseSource s) t ≡ true
releases_live {w} s k t e = go (pending (ReleaseSource s) t) (release_of s t) e
  where
    go : (b : Bool) (o : Option (BeatC w)) → releases k (cond b o None) ≡ true → b ≡ true
    go true o f = refl
    go false o f = absurd cc

pub admitted_live : {w : ℕ} (opcode : OpD) (s : ℕ) (t : History w) → admits opcode (open_beat s t) ≡ true
    → pending (RequestSource s) t ≡ true
admitted_live {w} opcode s t e = go (pending (RequestSource s) t) (request_of s t) e
  where
    go : (b : Bool) (o : Option (BeatA w)) → admits opcode (cond b o None) ≡ true → b ≡ true
    go true o f = refl
    go false o f = absurd cc

-- a source that is free isn't one that is pending
apart_sources : {w : ℕ} (k : ℕ → Key) (s r : ℕ) (t : History w) → pending (k s) t ≡ false → pending (k r) t ≡ true
    → (s == r) ≡ false
apart_sources k s r t free live = elim (cases_Bool (s == r)) [
  | inr other ↦ other
  | inl same ↦ absurd (both_ways (pending (k r) t) (rw (eqb-true s r same) at free) live)
]

-- ---- a request

-- its source is free, and of the block of an Acquire nothing is pending
pub record MayAsk {w : ℕ} (m : MessageA w) (t : History w) : Type 0 where
  pub free : pending (RequestSource m.source) t ≡ false
  pub unacquired : is_acquire m.opcode ≡ true → pending (AcquireOf (block_at m.address)) t ≡ false
  pub unreleased : is_acquire m.opcode ≡ true → pending (ReleaseOf (block_at m.address)) t ≡ false

pub open_release-a : {w : ℕ} (s : ℕ) (m : MessageA w) (t : History w) → IsWidth w → unfinished channel.A t ≡ []
    → open_release s (sent (A m) t) ≡ open_release s t
open_release-a s m t is none =
    rw (
      pending-whole (ReleaseSource s) (A m) t none (beats-positive (A m) is),
      release_of-whole s (A m) t none
          (beats-positive (A m) is),
    ) refl

still_acquired : {w : ℕ} (s k : ℕ) (m : MessageA w) (t : History w) → IsWidth w → unfinished channel.A t ≡ []
    → pending (RequestSource m.source) t ≡ false → acquires k (open_beat s t) ≡ true
    → acquires k (open_beat s (sent (A m) t)) ≡ true
still_acquired s k m t is none free e =
    let other = apart_sources (λ r. RequestSource r) m.source s t free (acquires_live s k t e) in
    rw (open_beat-a s m t is none, other) e

pub claimed-a : {w : ℕ} (m : MessageA w) (t : History w) → IsWidth w → unfinished channel.A t ≡ [] → MayAsk m t
    → IsClaimed t → IsClaimed (sent (A m) t)
claimed-a {w} m t is none may old = record {
  acquired = λ k e. new_acquire k (cases_Bool (is_acquire m.opcode && (block_at m.address == k)))
      (sym (now (AcquireOf k)) ∙ e);
  released = λ k e. let p = old.released k (sym (now (ReleaseOf k)) ∙ e) in
      (p.0, rw (open_release-a p.0 m t is none) p.1);
  releasing = λ s k e. now (ReleaseOf k) ∙ old.releasing s k (rw (open_release-a s m t is none) at e);
  release_once = λ s r k e f. old.release_once s r k (rw (open_release-a s m t is none) at e)
      (rw (open_release-a r m t is none) at f);
  apart = λ k e. now (ReleaseOf k) ∙ none_released k (cases_Bool (is_acquire m.opcode && (block_at m.address == k)))
      (sym (now (AcquireOf k)) ∙ e);
}
  where
    now : (key : Key) → pending key (sent (A m) t) ≡ pending_with key (A m) t
    now key = pending-whole key (A m) t none (beats-positive (A m) is)

    new_acquire : (k : ℕ) → ((is_acquire m.opcode && (block_at m.address == k)) ≡ true)
        ⊎ ((is_acquire m.opcode && (block_at m.address == k)) ≡ false)
        → pending_with (AcquireOf k) (A m) t ≡ true → (s : ℕ) × (acquires k (open_beat s (sent (A m) t)) ≡ true)
    new_acquire k (inl new) e = (m.source, rw (open_beat-a m.source m t is none, eq-eqb m.source m.source refl) new)
    new_acquire k (inr other) e = let p = old.acquired k (rw other at e) in
        (p.0, still_acquired p.0 k m t is none may.free p.1)

    none_released : (k : ℕ) → ((is_acquire m.opcode && (block_at m.address == k)) ≡ true)
        ⊎ ((is_acquire m.opcode && (block_at m.address == k)) ≡ false)
        → pending_with (AcquireOf k) (A m) t ≡ true → pending (ReleaseOf k) t ≡ false
    none_released k (inl new) e =
        let parts = and_parts (is_acquire m.opcode) (block_at m.address == k) new in
        rw (eqb-true (block_at m.address) k parts.1) at (may.unreleased parts.0)
    none_released k (inr other) e = old.apart k (rw other at e)

-- the request that an unfinished response answers is the same
abbrev pub HasSame : {w : ℕ} → List (Beat w) → History w → History w → Type 0
HasSame (beat.D x ∷ burst) t u = (request_of x.source u ≡ request_of x.source t)
    × (open_beat x.source u ≡ open_beat x.source t)
HasSame _ t u = ⊤

coming_same : {w : ℕ} (k : ℕ) (burst : List (Beat w)) (t u : History w) → HasSame burst t u
    → comes_granting k burst u ≡ comes_granting k burst t
coming_same k [] t u same = refl
coming_same k (beat.A x ∷ burst) t u same = refl
coming_same k (beat.B x ∷ burst) t u same = refl
coming_same k (beat.C x ∷ burst) t u same = refl
coming_same k (beat.D x ∷ burst) t u same = rw same.0 refl
coming_same k (beat.E x ∷ burst) t u same = refl

answering_same : {w : ℕ} (burst : List (Beat w)) (t u : History w) → HasSame burst t u → IsAnswering burst t
    → IsAnswering burst u
answering_same [] t u same a = tt
answering_same (beat.A x ∷ burst) t u same a = tt
answering_same (beat.B x ∷ burst) t u same a = tt
answering_same (beat.C x ∷ burst) t u same a = tt
answering_same (beat.D x ∷ burst) t u same a = rw same.1 a
answering_same (beat.E x ∷ burst) t u same a = tt

-- a history in which responses and what they answer are as before
pub record SameAcks {w : ℕ} (t u : History w) : Type 0 where
  pub same_burst : unfinished channel.D u ≡ unfinished channel.D t
  pub same_requests : HasSame (unfinished channel.D t) t u
  pub same_sinks : (s : ℕ) → pending (GrantSink s) u ≡ pending (GrantSink s) t
  pub same_acks : (k : ℕ) → pending (GrantAckOf k) u ≡ pending (GrantAckOf k) t
  pub same_ack_sinks : (k : ℕ) → grant_sink k u ≡ grant_sink k t

pub acked_same : {w : ℕ} (t u : History w) → SameAcks t u → ((k : ℕ) → pending (ProbeOf k) u ≡ false) → IsAcked t
    → IsAcked u
acked_same t u same probes old =
    let coming = λ (k : ℕ). coming_same k (unfinished channel.D t) t u same.same_requests in
    record {
      probes = probes;
      sinks = λ s. rw same.same_burst (same.same_sinks s ∙ old.sinks s);
      acks = λ k. rw same.same_burst (same.same_acks k ∙ old.acks k ∙ sym (coming k));
      ack_sinks = λ k e. rw same.same_burst
          (same.same_ack_sinks k ∙ old.ack_sinks k (sym (coming k) ∙ (rw same.same_burst at e)));
      answering = rw same.same_burst (answering_same (unfinished channel.D t) t u same.same_requests old.answering);
    }

answered_apart : {w : ℕ} (burst : List (Beat w)) (m : MessageA w) (t : History w) → IsWidth w
    → unfinished channel.A t ≡ [] → pending (RequestSource m.source) t ≡ false → IsAnswering burst t
    → HasSame burst t (sent (A m) t)
answered_apart [] m t is none free a = tt
answered_apart (beat.A x ∷ burst) m t is none free a = tt
answered_apart (beat.B x ∷ burst) m t is none free a = tt
answered_apart (beat.C x ∷ burst) m t is none free a = tt
answered_apart (beat.E x ∷ burst) m t is none free a = tt
answered_apart (beat.D x ∷ burst) m t is none free a =
    let other = apart_sources (λ r. RequestSource r) m.source x.source t free (admitted_live x.opcode x.source t a) in (
      request_of-whole x.source (A m) t none (beats-positive (A m) is) ∙ rw other refl,
      open_beat-a x.source m t is
          none ∙ rw other refl,
    )

pub acked-a : {w : ℕ} (m : MessageA w) (t : History w) → IsWidth w → unfinished channel.A t ≡ [] → MayAsk m t
    → IsAcked t → IsAcked (sent (A m) t)
acked-a m t is none may old =
    let now = λ (key : Key). pending-whole key (A m) t none (beats-positive (A m) is) in
    acked_same t (sent (A m) t)
    (record {
      same_burst = unfinished-whole channel.D (A m) t none (beats-positive (A m) is);
      same_requests = answered_apart (unfinished channel.D t) m t is none may.free old.answering;
      same_sinks = λ s. now (GrantSink s);
      same_acks = λ k. now (GrantAckOf k);
      same_ack_sinks = λ k. grant_sink-whole k (A m) t none (beats-positive (A m) is);
    })
    (λ k. now (ProbeOf k) ∙ old.probes k) old

-- ---- a message of channel C

pub all_same : {w : ℕ} (burst : List (Beat w)) (t u : History w) → ((s : ℕ) → request_of s u ≡ request_of s t)
    → ((s : ℕ) → open_beat s u ≡ open_beat s t) → HasSame burst t u
all_same [] t u requests opens = tt
all_same (beat.A x ∷ burst) t u requests opens = tt
all_same (beat.B x ∷ burst) t u requests opens = tt
all_same (beat.C x ∷ burst) t u requests opens = tt
all_same (beat.E x ∷ burst) t u requests opens = tt
all_same (beat.D x ∷ burst) t u requests opens = (requests x.source, opens x.source)

pub same_acks-c : {w : ℕ} (m : MessageC w) (t : History w) → IsWidth w → unfinished channel.C t ≡ []
    → SameAcks t (sent (C m) t)
same_acks-c m t is none =
    let now = λ (key : Key). pending-whole key (C m) t none (beats-positive (C m) is) in
    record {
      same_burst = unfinished-whole channel.D (C m) t none (beats-positive (C m) is);
      same_requests = all_same (unfinished channel.D t) t (sent (C m) t)
          (λ s. request_of-whole s (C m) t none (beats-positive (C m) is)) (λ s. open_beat-c s m t is none);
      same_sinks = λ s. now (GrantSink s);
      same_acks = λ k. now (GrantAckOf k);
      same_ack_sinks = λ k. grant_sink-whole k (C m) t none (beats-positive (C m) is);
    }

falls : (b p : Bool) → p ≡ false → cond b false p ≡ false
falls true p e = refl
falls false p e = e

pub acked-c : {w : ℕ} (m : MessageC w) (t : History w) → IsWidth w → unfinished channel.C t ≡ [] → IsAcked t
    → IsAcked (sent (C m) t)
acked-c m t is none old =
    acked_same t (sent (C m) t) (same_acks-c m t is none)
    (λ k. pending-whole (ProbeOf k) (C m) t none (beats-positive (C m) is) ∙ falls
    (is_probe_ack m.opcode && (block_at m.address == k)) (pending (ProbeOf k) t) (old.probes k)) old

-- a Release: its source is free, and of its block nothing is pending
pub record MayRelease {w : ℕ} (m : MessageC w) (t : History w) : Type 0 where
  pub releases : is_release m.opcode ≡ true
  pub free : pending (ReleaseSource m.source) t ≡ false
  pub unacquired : pending (AcquireOf (block_at m.address)) t ≡ false
  pub unreleased : pending (ReleaseOf (block_at m.address)) t ≡ false

pub open_release-c : {w : ℕ} (s : ℕ) (m : MessageC w) (t : History w) → IsWidth w → unfinished channel.C t ≡ []
    → is_release m.opcode ≡ true
    → open_release s (sent (C m) t) ≡ cond (m.source == s) (Some (c_beat_of m 0)) (open_release s t)
open_release-c {w} s m t is none kind =
    rw (
      pending-whole (ReleaseSource s) (C m) t none (beats-positive (C m) is),
      release_of-whole s (C m) t none
          (beats-positive (C m) is),
      kind,
    )
    (go (m.source == s) (pending (ReleaseSource s) t) (release_of s t))
  where
    go : (b p : Bool) (o : Option (BeatC w)) → cond (cond b true p) (cond b (Some (c_beat_of m 0)) o) None ≡ cond b
        (Some (c_beat_of m 0)) (cond p o None)
    go true p o = refl
    go false p o = refl

pub claimed-c : {w : ℕ} (m : MessageC w) (t : History w) → IsWidth w → unfinished channel.C t ≡ [] → MayRelease m t
    → IsClaimed t → IsClaimed (sent (C m) t)
claimed-c {w} m t is none may old = record {
  acquired = λ k e. let p = old.acquired k (sym (now (AcquireOf k)) ∙ e) in (p.0, rw (open_beat-c p.0 m t is none) p.1);
  released = λ k e. new_release k (cases_Bool (block_at m.address == k)) (sym (release_now k) ∙ e);
  releasing = λ s k e. release_now k ∙ opened s k (m.source == s) (rw (open_release-c s m t is none may.releases) at e);
  release_once = λ s r k e f. once s r k (m.source == s) (m.source == r) refl refl
      (rw (open_release-c s m t is none may.releases) at e) (rw (open_release-c r m t is none may.releases) at f);
  apart = λ k e. release_now k ∙ none_acquired k (cases_Bool (block_at m.address == k)) (sym (now (AcquireOf k)) ∙ e);
}
  where
    now : (key : Key) → pending key (sent (C m) t) ≡ pending_with key (C m) t
    now key = pending-whole key (C m) t none (beats-positive (C m) is)

    release_now : (k : ℕ) → pending (ReleaseOf k) (sent (C m) t) ≡ cond (block_at m.address == k) true
        (pending (ReleaseOf k) t)
    release_now k = now (ReleaseOf k) ∙ rw may.releases refl

    new_release : (k : ℕ) → ((block_at m.address == k) ≡ true) ⊎ ((block_at m.address == k) ≡ false)
        → cond (block_at m.address == k) true (pending (ReleaseOf k) t) ≡ true
        → (s : ℕ) × (releases k (open_release s (sent (C m) t)) ≡ true)
    new_release k (inl new) e =
        (m.source, rw (open_release-c m.source m t is none may.releases, eq-eqb m.source m.source refl) new)
    new_release k (inr other) e =
        let p = old.released k (rw other at e) in
        let apart = apart_sources (λ r. ReleaseSource r) m.source p.0 t may.free (releases_live p.0 k t p.1) in
        (p.0, rw (open_release-c p.0 m t is none may.releases, apart) p.1)

    opened : (s k : ℕ) (b : Bool) → releases k (cond b (Some (c_beat_of m 0)) (open_release s t)) ≡ true
        → cond (block_at m.address == k) true (pending (ReleaseOf k) t) ≡ true
    opened s k true e = rw e refl
    opened s k false e = rw (old.releasing s k e) (both (block_at m.address == k))
      where
        both : (b : Bool) → cond b true true ≡ true
        both true = refl
        both false = refl

    no_other : (s k : ℕ) → (block_at m.address == k) ≡ true → releases k (open_release s t) ≡ true → ⊥
    no_other s k new e = both_ways (pending (ReleaseOf k) t)
        (rw (eqb-true (block_at m.address) k new) at may.unreleased) (old.releasing s k e)

    once : (s r k : ℕ) (a b : Bool) → (m.source == s) ≡ a → (m.source == r) ≡ b
        → releases k (cond a (Some (c_beat_of m 0)) (open_release s t)) ≡ true
        → releases k (cond b (Some (c_beat_of m 0)) (open_release r t)) ≡ true → s ≡ r
    once s r k true true p q e f = sym (eqb-true m.source s p) ∙ eqb-true m.source r q
    once s r k true false p q e f = absurd (no_other r k e f)
    once s r k false true p q e f = absurd (no_other s k f e)
    once s r k false false p q e f = old.release_once s r k e f

    none_acquired : (k : ℕ) → ((block_at m.address == k) ≡ true) ⊎ ((block_at m.address == k) ≡ false)
        → pending (AcquireOf k) t ≡ true
        → cond (block_at m.address == k) true (pending (ReleaseOf k) t) ≡ false
    none_acquired k (inl new) e =
        absurd (both_ways (pending (AcquireOf k) t) (rw (eqb-true (block_at m.address) k new) at may.unacquired) e)
    none_acquired k (inr other) e = rw other (old.apart k e)
