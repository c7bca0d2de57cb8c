-- What is pending as a client takes a beat.
use Rattle.tl_client.proofs.Imports.{IsWidth, Beat, BeatA, BeatB, BeatD, OpA, OpD, d_carries_data, C, MessageC, History}
use Rattle.tl_client.proofs.Imports.{unfinished, same_control, breaks_burst, beats-positive, Key, RequestSource}
use Rattle.tl_client.proofs.Imports.{ReleaseSource, AcquireOf, ReleaseOf, GrantSink, GrantAckOf, ProbeOf, Profile, S1}
use Rattle.tl_client.proofs.Imports.{H2, sent, admits, answers, broken_order, broken_in_order, pending_with}
use Rattle.tl_client.proofs.Imports.{release_with, block_at, is_probe, is_probe_ack, is_release, is_release_ack, ends}
use Rattle.tl_client.proofs.Imports.{grant_sink, pending, request_of, release_of, next_rule, pending-whole}
use Rattle.tl_client.proofs.Imports.{unfinished-whole, request_of-whole, release_of-whole, pending-quiet, IsClaimed}
use Rattle.tl_client.proofs.Imports.{IsAcked, open_beat, open_release}
use Rattle.std.proofs.Common.{◌≡◌, ℕ, true, false, not, ◌⊎◌, List, [], ◌∷◌, Option, Some, None, refl, sym, ◌∙◌, ap, inl}
use Rattle.std.proofs.Common.{inr}
use Rattle.std.specs.Prelude.{◌==◌, ⊤}
use Rattle.std.proofs.lemmas.Bool.{and_parts, not-false, both_ways, cases_Bool}
use Rattle.tl_beat.specs.declared.beat.Beat.TheVariants as beat
use Rattle.tl_beat.specs.declared.channel.Channel.TheVariants as channel
use Rattle.tl_beat.specs.declared.opcode.OpA.TheVariants as a
use Rattle.tl_beat.specs.declared.opcode.OpD.TheVariants as d
use Rattle.tl_burst.proofs.ControlFields.{control_d}
use Rattle.tl_rules.specs.statement.Conformance.{has_request}
use Rattle.tl_rules.proofs.Handed.{grant_sink-whole}
use Rattle.tl_rules.proofs.Open.{never}
use Rattle.tl_client.specs.laws.Accounted.{IsAnswering}
use Rattle.tl_client.proofs.pending.AccountedSent.{acked_same, all_same}
use Rattle.tl_client.proofs.pending.Opens.{open_beat-b, open_beat-c, request_of-b}

-- ---- the same requests and Releases

pub record SameClaims {w : ℕ} (t u : History w) : Type 0 where
  pub same_acquires : (k : ℕ) → pending (AcquireOf k) u ≡ pending (AcquireOf k) t
  pub same_releases : (k : ℕ) → pending (ReleaseOf k) u ≡ pending (ReleaseOf k) t
  pub same_open : (s : ℕ) → open_beat s u ≡ open_beat s t
  pub same_open_release : (s : ℕ) → open_release s u ≡ open_release s t

pub claimed_same : {w : ℕ} (t u : History w) → SameClaims t u → IsClaimed t → IsClaimed u
claimed_same t u same old = record {
  acquired = λ k e. let p = old.acquired k (sym (same.same_acquires k) ∙ e) in (p.0, rw (same.same_open p.0) p.1);
  released = λ k e. let p = old.released k (sym (same.same_releases k) ∙ e) in
      (p.0, rw (same.same_open_release p.0) p.1);
  releasing = λ s k e. same.same_releases k ∙ old.releasing s k (rw (same.same_open_release s) at e);
  release_once = λ s r k e f. old.release_once s r k (rw (same.same_open_release s) at e)
      (rw (same.same_open_release r) at f);
  apart = λ k e. same.same_releases k ∙ old.apart k (sym (same.same_acquires k) ∙ e);
}

-- ---- a Probe and its ProbeAck

burst_b : {w : ℕ} (x : BeatB w) (t : History w) → (unfinished channel.C (beat.B x ∷ t) ≡ unfinished channel.C t)
    × (unfinished channel.D (beat.B x ∷ t) ≡ unfinished channel.D t)
unfolding unfinished
burst_b x t = (refl, refl)

pub names_b : {w : ℕ} (s : ℕ) (x : BeatB w) (t : History w) → (release_of s (beat.B x ∷ t) ≡ release_of s t)
    × (grant_sink s (beat.B x ∷ t) ≡ grant_sink s t)
unfolding release_of grant_sink
names_b s x t = (refl, refl)

pub acked-probe : {w : ℕ} (m : MessageC w) (x : BeatB w) (t : History w) → IsWidth w → unfinished channel.C t ≡ []
    → is_probe_ack m.opcode ≡ true → block_at m.address ≡ block_at x.address
    → IsAcked t → IsAcked (sent (C m) (beat.B x ∷ t))
acked-probe {w} m x t is none kind block old =
    acked_same t (sent (C m) (beat.B x ∷ t))
    (record {
      same_burst = unfinished-whole channel.D (C m) (beat.B x ∷ t) none_now (beats-positive (C m) is) ∙ (burst_b x t).1;
      same_requests = all_same (unfinished channel.D t) t (sent (C m) (beat.B x ∷ t))
          (λ s. request_of-whole s (C m) (beat.B x ∷ t) none_now (beats-positive (C m) is) ∙ request_of-b s x t)
          (λ s. open_beat-c s m (beat.B x ∷ t) is none_now ∙ open_beat-b s x t);
      same_sinks = λ s. now (GrantSink s) ∙ pending-quiet (GrantSink s) (beat.B x) t refl refl;
      same_acks = λ k. now (GrantAckOf k) ∙ pending-quiet (GrantAckOf k) (beat.B x) t refl refl;
      same_ack_sinks = λ k. grant_sink-whole k (C m) (beat.B x ∷ t) none_now (beats-positive (C m) is)
          ∙ (names_b k x t).1;
    })
    (λ k. now (ProbeOf k) ∙ answered k (cases_Bool (block_at m.address == k))) old
  where
    none_now : unfinished channel.C (beat.B x ∷ t) ≡ []
    none_now = (burst_b x t).0 ∙ none

    now : (key : Key) → pending key (sent (C m) (beat.B x ∷ t)) ≡ pending_with key (C m) (beat.B x ∷ t)
    now key = pending-whole key (C m) (beat.B x ∷ t) none_now (beats-positive (C m) is)

    answered : (k : ℕ) → ((block_at m.address == k) ≡ true) ⊎ ((block_at m.address == k) ≡ false)
        → pending_with (ProbeOf k) (C m) (beat.B x ∷ t) ≡ false
    answered k (inl here) = rw (kind, here) refl
    answered k (inr other) =
        let elsewhere : (block_at x.address == k) ≡ false = ap (λ j. j == k) (sym block) ∙ other in
        rw (kind, other) (pending-quiet (ProbeOf k) (beat.B x) t (rw elsewhere (never (is_probe x.opcode)))
        refl ∙ old.probes k)

pub claimed-probe : {w : ℕ} (m : MessageC w) (x : BeatB w) (t : History w) → IsWidth w → unfinished channel.C t ≡ []
    → is_release m.opcode ≡ false → IsClaimed t → IsClaimed (sent (C m) (beat.B x ∷ t))
claimed-probe {w} m x t is none kind old =
    claimed_same t (sent (C m) (beat.B x ∷ t))
    (record {
      same_acquires = λ k. now (AcquireOf k) ∙ pending-quiet (AcquireOf k) (beat.B x) t refl refl;
      same_releases = λ k. now (ReleaseOf k) ∙ rw kind (pending-quiet (ReleaseOf k) (beat.B x) t refl refl);
      same_open = λ s. open_beat-c s m (beat.B x ∷ t) is none_now ∙ open_beat-b s x t;
      same_open_release = λ s. rw (source_now s, release_now s) refl;
    }) old
  where
    none_now : unfinished channel.C (beat.B x ∷ t) ≡ []
    none_now = (burst_b x t).0 ∙ none

    now : (key : Key) → pending key (sent (C m) (beat.B x ∷ t)) ≡ pending_with key (C m) (beat.B x ∷ t)
    now key = pending-whole key (C m) (beat.B x ∷ t) none_now (beats-positive (C m) is)

    opened_with : (s : ℕ) → pending_with (ReleaseSource s) (C m) (beat.B x ∷ t) ≡ pending (ReleaseSource s)
        (beat.B x ∷ t)
    opened_with s = rw kind refl

    source_now : (s : ℕ) → pending (ReleaseSource s) (sent (C m) (beat.B x ∷ t)) ≡ pending (ReleaseSource s) t
    source_now s = now (ReleaseSource s) ∙ opened_with s ∙ pending-quiet (ReleaseSource s) (beat.B x) t refl refl

    named_with : (s : ℕ) → release_with s (C m) (release_of s (beat.B x ∷ t)) ≡ release_of s (beat.B x ∷ t)
    named_with s = rw kind refl

    release_now : (s : ℕ) → release_of s (sent (C m) (beat.B x ∷ t)) ≡ release_of s t
    release_now s = release_of-whole s (C m) (beat.B x ∷ t) none_now (beats-positive (C m) is) ∙ named_with
        s ∙ (names_b s x t).0

-- ---- what is known of a response that breaks no rule of order

-- it goes on with the unfinished burst
abbrev pub GoesOn : {w : ℕ} → BeatD w → List (Beat w) → Type 0
GoesOn x [] = ⊤
GoesOn x (beat.D y ∷ burst) = (x.opcode ≡ y.opcode) × (x.source ≡ y.source) × (x.sink ≡ y.sink)
GoesOn x (_ ∷ burst) = ⊥

pub record IsFit {w : ℕ} (x : BeatD w) (t : History w) : Type 0 where
  pub answers : is_release_ack x.opcode ≡ false → admits x.opcode (open_beat x.source t) ≡ true
  pub acks : is_release_ack x.opcode ≡ true → (pending (ReleaseSource x.source) t ≡ true) × (ends (beat.D x) t ≡ true)
  pub goes_on : GoesOn x (unfinished channel.D t)

admits_open : {w : ℕ} (opcode : OpD) (s : ℕ) (t : History w) → pending (RequestSource s) t ≡ true
    → admits opcode (request_of s t) ≡ true → admits opcode (open_beat s t) ≡ true
admits_open opcode s t live e = rw live e

single_ack : (opcode : OpD) → is_release_ack opcode ≡ true → d_carries_data opcode ≡ false
single_ack d.ReleaseAck e = refl
single_ack d.AccessAck e = refl
single_ack d.HintAck e = refl
single_ack d.Grant e = refl
single_ack d.AccessAckData e = absurd (let no : false ≡ true = e in cc)
single_ack d.GrantData e = absurd (let no : false ≡ true = e in cc)

first_fit : {w : ℕ} (p : Profile) (x : BeatD w) (t : History w) → unfinished channel.D t ≡ []
    → broken_order p (beat.D x) t ≡ None → IsFit x t
unfolding broken_order
first_fit {w} p x t none e =
    let asked : has_request x t ≡ true = not-false (has_request x t) (next_rule (not (has_request x t)) H2 _ e).0 in
    record {
      answers = λ kind.
          let parts = and_parts (pending (RequestSource x.source) t) _ (rw kind at asked) in
          let admitted = and_parts _ (admits x.opcode (request_of x.source t)) parts.1 in
          admits_open x.opcode x.source t parts.0 admitted.1;
      acks = λ kind. (
        (and_parts (pending (ReleaseSource x.source) t) _ (rw kind at asked)).0,
        rw
            (none, single_ack x.opcode kind) refl,
      );
      goes_on = rw none tt;
    }

no_release_ack : (opcode : OpD) (request : OpA) → answers opcode request ≡ true → is_release_ack opcode ≡ false
no_release_ack d.AccessAck request e = refl
no_release_ack d.AccessAckData request e = refl
no_release_ack d.HintAck request e = refl
no_release_ack d.Grant request e = refl
no_release_ack d.GrantData request e = refl
no_release_ack d.ReleaseAck a.PutFullData e = absurd cc
no_release_ack d.ReleaseAck a.PutPartialData e = absurd cc
no_release_ack d.ReleaseAck a.ArithmeticData e = absurd cc
no_release_ack d.ReleaseAck a.LogicalData e = absurd cc
no_release_ack d.ReleaseAck a.Get e = absurd cc
no_release_ack d.ReleaseAck a.Intent e = absurd cc
no_release_ack d.ReleaseAck a.AcquireBlock e = absurd cc
no_release_ack d.ReleaseAck a.AcquirePerm e = absurd cc

admits_no_ack : {w : ℕ} (opcode : OpD) (o : Option (BeatA w)) → admits opcode o ≡ true → is_release_ack opcode ≡ false
admits_no_ack opcode None e = absurd cc
admits_no_ack opcode (Some r) e = no_release_ack opcode r.opcode e

later_fit : {w : ℕ} (x y : BeatD w) (burst : List (Beat w)) (t : History w)
    → unfinished channel.D t ≡ (beat.D y ∷ burst) → same_control (beat.D x) (beat.D y) ≡ true
    → admits y.opcode (open_beat y.source t) ≡ true → IsFit x t
later_fit {w} x y burst t is same old =
    let k = control_d x y same in
    let admitted : admits x.opcode (open_beat x.source t) ≡ true =
    ap (λ (o : OpD). admits o (open_beat x.source t)) k.0 ∙ ap (λ (s : ℕ). admits y.opcode (open_beat s t))
    k.3 ∙ old in
    let other = admits_no_ack x.opcode (open_beat x.source t) admitted in
    record {
      answers = λ kind. admitted;
      acks = λ kind. absurd (both_ways (is_release_ack x.opcode) other kind);
      goes_on = rw is (k.0, k.3, k.4);
    }

fit_from : {w : ℕ} (p : Profile) (x : BeatD w) (t : History w) (burst : List (Beat w)) → unfinished channel.D t ≡ burst
    → IsAnswering burst t → broken_in_order p (beat.D x) t ≡ None → IsFit x t
fit_from p x t [] is old e = first_fit p x t is (rw is at e)
fit_from p x t (beat.D y ∷ burst) is old e =
    let goes = next_rule (breaks_burst (beat.D x) (beat.D y ∷ burst)) S1 None (rw is at e) in
    later_fit x y burst t is (not-false (same_control (beat.D x) (beat.D y)) goes.0) old
fit_from p x t (beat.A y ∷ burst) is old e =
    absurd (let bad = (next_rule (breaks_burst (beat.D x) (beat.A y ∷ burst)) S1 None (rw is at e)).0 in cc)
fit_from p x t (beat.B y ∷ burst) is old e =
    absurd (let bad = (next_rule (breaks_burst (beat.D x) (beat.B y ∷ burst)) S1 None (rw is at e)).0 in cc)
fit_from p x t (beat.C y ∷ burst) is old e =
    absurd (let bad = (next_rule (breaks_burst (beat.D x) (beat.C y ∷ burst)) S1 None (rw is at e)).0 in cc)
fit_from p x t (beat.E y ∷ burst) is old e =
    absurd (let bad = (next_rule (breaks_burst (beat.D x) (beat.E y ∷ burst)) S1 None (rw is at e)).0 in cc)

pub fit : {w : ℕ} (p : Profile) (x : BeatD w) (t : History w) → IsAcked t → broken_in_order p (beat.D x) t ≡ None
    → IsFit x t
fit p x t old e = fit_from p x t (unfinished channel.D t) refl old.answering e
