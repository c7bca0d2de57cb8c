-- What a history says after a message was handed out.
use Rattle.std.proofs.Common.{◌≡◌, ℕ, zero, suc, ◌<◌, Bool, true, false, ◌&&◌, ◌++◌, refl, sym, ◌∙◌, arith, inl, inr}
use Rattle.std.specs.Prelude.{if◌then◌else◌, [], ◌∷◌, Some, ◌==◌}
use Rattle.std.proofs.lemmas.Bool.{cases_Bool}
use Rattle.tl_beat.specs.declared.beat.Beat.{Beat}
use Rattle.tl_beat.specs.declared.beat.Beat.TheVariants as beat
use Rattle.tl_beat.specs.declared.channel.Channel.{Channel}
use Rattle.tl_beat.specs.declared.channel.Channel.TheVariants as channel
use Rattle.tl_burst.specs.declared.message.Message.{Message}
use Rattle.tl_burst.specs.declared.message.Message.TheVariants.{A, B, C, D, E}
use Rattle.tl_burst.specs.declared.message.MessageB.{MessageB}
use Rattle.tl_burst.specs.declared.message.MessageC.{MessageC}
use Rattle.tl_burst.specs.declared.message.MessageD.{MessageD}
use Rattle.tl_burst.specs.declared.message.MessageE.{MessageE}
use Rattle.tl_burst.specs.statement.Burst.{beats_of, beat_of, begun, b_beat_of, c_beat_of}
use Rattle.tl_burst.specs.statement.Messages.{History, channel_in, on, unfinished}
use Rattle.tl_params.specs.declared.key.Key.{Key}
use Rattle.tl_params.specs.declared.key.Key.TheVariants as key
use Rattle.tl_rules.specs.statement.History.{begins, ends, opens, closes, pending, request_of, release_of, probe_of}
use Rattle.tl_rules.specs.statement.History.{grant_sink, is_release, is_probe, block_at, held}
use Rattle.tl_rules.specs.statement.Admission.{sent}
use Rattle.tl_rules.specs.laws.Handed.{pending_with, held_with, request_with, release_with, probe_with, sink_with}
use Rattle.tl_rules.proofs.Sent.{begins-first, begins-later, ends-at, not_last, is_last, off_other, unfinished-sent}
use Rattle.tl_rules.proofs.Sent.{unfinished-sent_other, request_of-sent}
use Rattle.tl_rules.proofs.Sent.{request_of-other, release_of-other, held-sent_c, held-sent_d, held-sent_unsaid}
use Rattle.tl_rules.proofs.Open.{never}

-- ---- what is pending

-- what is pending once a beat opens and closes it, where that beat is the first, the last
abbrev turned : Bool → Bool → Bool → Bool → Bool → Bool
turned first opened last closed before = if first && opened then true else if last && closed then false else before

-- what is pending after a whole message, none of which may both open and close it
abbrev pub after_whole : Bool → Bool → Bool → Bool
after_whole opened closed before = if opened then true else if closed then false else before

at_last : (opened closed before : Bool) → (opened && closed) ≡ false
    → turned false opened true closed (if opened then true else before) ≡ after_whole opened closed before
at_last true true before e = absurd cc
at_last true false before e = refl
at_last false closed before e = refl

-- what the message closes doesn't change with its own beats, and it opens nothing else than it closes
record IsSteady {w : ℕ} (k : Key) (m : Message w) (t : History w) : Type 0 where
  closes_same : (i : ℕ) → closes k (beat_of m i) (begun m i ++ t) ≡ closes k (beat_of m 0) t
  apart : (opens k (beat_of m 0) t && closes k (beat_of m 0) t) ≡ false

begun_pending : {w : ℕ} (k : Key) (m : Message w) (t : History w) (n : ℕ) → unfinished (channel_in m) t ≡ []
    → suc n < beats_of m
    → pending k (begun m (suc n) ++ t) ≡ (if opens k (beat_of m 0) t then true else pending k t)
unfolding pending
begun_pending k m t zero none lt =
    let first = begins-first m t none in
    let last : ends (beat_of m 0) t ≡ false = ends-at m t 0 none (omega arith) ∙ not_last 0 (beats_of m) (omega arith)
    in
    rw (first, last) refl
begun_pending k m t (suc n) none lt =
    let later = begins-later m t n none (omega arith) in
    let last : ends (beat_of m (suc n)) (begun m (suc n) ++ t) ≡ false =
    ends-at m t (suc n) none (omega arith) ∙ not_last (suc n) (beats_of m) (omega arith) in
    rw (later, last) (begun_pending k m t n none (omega arith))

whole_pending : {w : ℕ} (k : Key) (m : Message w) (t : History w) (n : ℕ) → IsSteady k m t
    → unfinished (channel_in m) t ≡ [] → suc n ≡ beats_of m
    → pending k (begun m (suc n) ++ t) ≡ after_whole (opens k (beat_of m 0) t) (closes k (beat_of m 0) t) (pending k t)
unfolding pending
whole_pending k m t zero steady none e =
    let first = begins-first m t none in
    let last : ends (beat_of m 0) t ≡ true = ends-at m t 0 none (omega arith) ∙ is_last 0 (beats_of m) (omega arith) in
    rw (first, last) refl
whole_pending k m t (suc n) steady none e =
    let later = begins-later m t n none (omega arith) in
    let last : ends (beat_of m (suc n)) (begun m (suc n) ++ t) ≡ true =
    ends-at m t (suc n) none (omega arith) ∙ is_last (suc n) (beats_of m) (omega arith) in
    rw (later, last, steady.closes_same (suc n), begun_pending k m t n none (omega arith))
    (at_last (opens k (beat_of m 0) t) (closes k (beat_of m 0) t) (pending k t) steady.apart)

never_both : {w : ℕ} (k : Key) (m : Message w) (t : History w) → closes k (beat_of m 0) t ≡ false
    → (opens k (beat_of m 0) t && closes k (beat_of m 0) t) ≡ false
never_both k m t e = rw e (never (opens k (beat_of m 0) t))

grant_sink_of-e : {w : ℕ} (n : ℕ) (m : MessageE) (t : History w) (i : ℕ)
    → grant_sink n (begun (E m) i ++ t) ≡ grant_sink n t
unfolding grant_sink
grant_sink_of-e n m t zero = refl
grant_sink_of-e n m t (suc i) = grant_sink_of-e n m t i

steady : {w : ℕ} (k : Key) (m : Message w) (t : History w) → IsSteady k m t
steady (key.RequestSource s) (A m) t =
    record { closes_same = λ i. refl; apart = never_both (key.RequestSource s) (A m) t refl }
steady (key.ReleaseSource s) (A m) t = record { closes_same = λ i. refl; apart = refl }
steady (key.AcquireOf n) (A m) t = record { closes_same = λ i. refl; apart = never_both (key.AcquireOf n) (A m) t refl }
steady (key.ReleaseOf n) (A m) t = record { closes_same = λ i. refl; apart = refl }
steady (key.GrantSink s) (A m) t = record { closes_same = λ i. refl; apart = refl }
steady (key.GrantAckOf n) (A m) t = record { closes_same = λ i. refl; apart = refl }
steady (key.ProbeOf n) (A m) t = record { closes_same = λ i. refl; apart = refl }
steady (key.RequestSource s) (B m) t = record { closes_same = λ i. refl; apart = refl }
steady (key.ReleaseSource s) (B m) t = record { closes_same = λ i. refl; apart = refl }
steady (key.AcquireOf n) (B m) t = record { closes_same = λ i. refl; apart = refl }
steady (key.ReleaseOf n) (B m) t = record { closes_same = λ i. refl; apart = refl }
steady (key.GrantSink s) (B m) t = record { closes_same = λ i. refl; apart = refl }
steady (key.GrantAckOf n) (B m) t = record { closes_same = λ i. refl; apart = refl }
steady (key.ProbeOf n) (B m) t = record { closes_same = λ i. refl; apart = never_both (key.ProbeOf n) (B m) t refl }
steady (key.RequestSource s) (C m) t = record { closes_same = λ i. refl; apart = refl }
steady (key.ReleaseSource s) (C m) t =
    record { closes_same = λ i. refl; apart = never_both (key.ReleaseSource s) (C m) t refl }
steady (key.AcquireOf n) (C m) t = record { closes_same = λ i. refl; apart = refl }
steady (key.ReleaseOf n) (C m) t = record { closes_same = λ i. refl; apart = never_both (key.ReleaseOf n) (C m) t refl }
steady (key.GrantSink s) (C m) t = record { closes_same = λ i. refl; apart = refl }
steady (key.GrantAckOf n) (C m) t = record { closes_same = λ i. refl; apart = refl }
steady (key.ProbeOf n) (C m) t = record { closes_same = λ i. refl; apart = refl }
steady (key.RequestSource s) (D m) t = record { closes_same = λ i. refl; apart = refl }
steady (key.ReleaseSource s) (D m) t = record { closes_same = λ i. refl; apart = refl }
steady (key.AcquireOf n) (D m) t =
    record { closes_same = λ i. rw (request_of-other m.source (D m) t i refl) refl; apart = refl }
steady (key.ReleaseOf n) (D m) t =
    record { closes_same = λ i. rw (release_of-other m.source (D m) t i refl) refl; apart = refl }
steady (key.GrantSink s) (D m) t = record { closes_same = λ i. refl; apart = never_both (key.GrantSink s) (D m) t refl }
steady (key.GrantAckOf n) (D m) t =
    record { closes_same = λ i. refl; apart = never_both (key.GrantAckOf n) (D m) t refl }
steady (key.ProbeOf n) (D m) t = record { closes_same = λ i. refl; apart = refl }
steady (key.RequestSource s) (E m) t = record { closes_same = λ i. refl; apart = refl }
steady (key.ReleaseSource s) (E m) t = record { closes_same = λ i. refl; apart = refl }
steady (key.AcquireOf n) (E m) t = record { closes_same = λ i. refl; apart = refl }
steady (key.ReleaseOf n) (E m) t = record { closes_same = λ i. refl; apart = refl }
steady (key.GrantSink s) (E m) t = record { closes_same = λ i. refl; apart = refl }
steady (key.GrantAckOf n) (E m) t = record { closes_same = λ i. rw (grant_sink_of-e n m t i) refl; apart = refl }
steady (key.ProbeOf n) (E m) t = record { closes_same = λ i. refl; apart = refl }

pending_begun : {w : ℕ} (k : Key) (m : Message w) (t : History w) (n : ℕ) → unfinished (channel_in m) t ≡ [] → 0 < n
    → n ≡ beats_of m → pending k (begun m n ++ t) ≡ pending_with k m t
pending_begun k m t zero none pos e = absurd (omega arith)
pending_begun k m t (suc n) none pos e = whole_pending k m t n (steady k m t) none e

-- what is pending after a whole message
pub pending-whole : {w : ℕ} (k : Key) (m : Message w) (t : History w) → unfinished (channel_in m) t ≡ []
    → 0 < beats_of m → pending k (sent m t) ≡ pending_with k m t
pending-whole k m t none pos = pending_begun k m t (beats_of m) none pos refl

-- a Probe closes nothing
probe_closes_nothing : {w : ℕ} (k : Key) (m : MessageB w) (t : History w) → closes k (beat_of (B m) 0) t ≡ false
probe_closes_nothing (key.RequestSource s) m t = refl
probe_closes_nothing (key.ReleaseSource s) m t = refl
probe_closes_nothing (key.AcquireOf n) m t = refl
probe_closes_nothing (key.ReleaseOf n) m t = refl
probe_closes_nothing (key.GrantSink s) m t = refl
probe_closes_nothing (key.GrantAckOf n) m t = refl
probe_closes_nothing (key.ProbeOf n) m t = refl

-- after a Probe, and after an answer or a Grant
pub pending-sent_b : {w : ℕ} (k : Key) (m : MessageB w) (t : History w) → unfinished channel.B t ≡ []
    → 0 < beats_of (B m)
    → pending k (sent (B m) t) ≡ (if opens k (beat_of (B m) 0) t then true else pending k t)
pending-sent_b k m t none pos = pending-whole k (B m) t none pos ∙ rw (probe_closes_nothing k m t) refl

pub pending-sent_d : {w : ℕ} (k : Key) (m : MessageD w) (t : History w) → unfinished channel.D t ≡ []
    → 0 < beats_of (D m) → pending k (sent (D m) t) ≡ pending_with k (D m) t
pending-sent_d k m t none pos = pending-whole k (D m) t none pos

-- ---- what is unfinished, and what is held

own_channel : {w : ℕ} (ch : Channel) (m : Message w) → on ch (beat_of m 0) ≡ true → ch ≡ channel_in m
own_channel channel.A (A m) e = refl
own_channel channel.B (B m) e = refl
own_channel channel.C (C m) e = refl
own_channel channel.D (D m) e = refl
own_channel channel.E (E m) e = refl
own_channel channel.A (B m) e = absurd cc
own_channel channel.A (C m) e = absurd cc
own_channel channel.A (D m) e = absurd cc
own_channel channel.A (E m) e = absurd cc
own_channel channel.B (A m) e = absurd cc
own_channel channel.B (C m) e = absurd cc
own_channel channel.B (D m) e = absurd cc
own_channel channel.B (E m) e = absurd cc
own_channel channel.C (A m) e = absurd cc
own_channel channel.C (B m) e = absurd cc
own_channel channel.C (D m) e = absurd cc
own_channel channel.C (E m) e = absurd cc
own_channel channel.D (A m) e = absurd cc
own_channel channel.D (B m) e = absurd cc
own_channel channel.D (C m) e = absurd cc
own_channel channel.D (E m) e = absurd cc
own_channel channel.E (A m) e = absurd cc
own_channel channel.E (B m) e = absurd cc
own_channel channel.E (C m) e = absurd cc
own_channel channel.E (D m) e = absurd cc

-- each channel is as before, and nothing is unfinished on the message's own
pub unfinished-whole : {w : ℕ} (ch : Channel) (m : Message w) (t : History w) → unfinished (channel_in m) t ≡ []
    → 0 < beats_of m → unfinished ch (sent m t) ≡ unfinished ch t
unfinished-whole ch m t none pos = elim (cases_Bool (on ch (beat_of m 0))) [
  | inl own ↦ let same : ch ≡ channel_in m = own_channel ch m own in rw same (unfinished-sent m t none pos ∙ sym none)
  | inr off ↦ unfinished-sent_other ch m t off
]

pub held-whole : {w : ℕ} (k : ℕ) (m : Message w) (t : History w) → unfinished (channel_in m) t ≡ [] → 0 < beats_of m
    → held k (sent m t) ≡ held_with k m t
held-whole k (A m) t none pos = held-sent_unsaid k (A m) t (λ i u. refl)
held-whole k (B m) t none pos = held-sent_unsaid k (B m) t (λ i u. refl)
held-whole k (C m) t none pos = held-sent_c k m t none pos
held-whole k (D m) t none pos = held-sent_d k m t none pos
held-whole k (E m) t none pos = held-sent_unsaid k (E m) t (λ i u. refl)

-- ---- the message that another one names

release_opened : {w : ℕ} (s : ℕ) (m : MessageC w) (t : History w) (i : ℕ) → unfinished channel.C t ≡ []
    → i < beats_of (C m)
    → release_of s (begun (C m) (suc i) ++ t) ≡ (if is_release m.opcode && (m.source == s) then Some (c_beat_of m 0)
    else release_of s t)
unfolding release_of
release_opened s m t zero none lt = rw none refl
release_opened s m t (suc i) none lt =
    let later : begins (beat_of (C m) (suc i)) (begun (C m) (suc i) ++ t) ≡ false = begins-later (C m) t i none lt in
    rw later (release_opened s m t i none (omega arith))

release_by : {w : ℕ} (s : ℕ) (m : MessageC w) (t : History w) (n : ℕ) → unfinished channel.C t ≡ [] → 0 < n
    → n ≡ beats_of (C m)
    → release_of s (begun (C m) n ++ t) ≡ (if is_release m.opcode && (m.source == s) then Some (c_beat_of m 0) else
    release_of s t)
release_by s m t zero none pos e = absurd (omega arith)
release_by s m t (suc i) none pos e = release_opened s m t i none (omega arith)

-- the Release with a source is the one that was handed out with it last
release_of-sent : {w : ℕ} (s : ℕ) (m : MessageC w) (t : History w) → unfinished channel.C t ≡ [] → 0 < beats_of (C m)
    → release_of s (sent (C m) t) ≡ (if is_release m.opcode && (m.source == s) then Some (c_beat_of m 0) else release_of
    s t)
release_of-sent s m t none pos = release_by s m t (beats_of (C m)) none pos refl

probe_opened : {w : ℕ} (n : ℕ) (m : MessageB w) (t : History w) (i : ℕ) → unfinished channel.B t ≡ []
    → i < beats_of (B m)
    → probe_of n (begun (B m) (suc i) ++ t) ≡ (if is_probe m.opcode && (block_at m.address == n) then Some
    (b_beat_of m 0) else probe_of n t)
unfolding probe_of
probe_opened n m t zero none lt = rw none refl
probe_opened n m t (suc i) none lt =
    let later : begins (beat_of (B m) (suc i)) (begun (B m) (suc i) ++ t) ≡ false = begins-later (B m) t i none lt in
    rw later (probe_opened n m t i none (omega arith))

probe_by : {w : ℕ} (n : ℕ) (m : MessageB w) (t : History w) (i : ℕ) → unfinished channel.B t ≡ [] → 0 < i
    → i ≡ beats_of (B m)
    → probe_of n (begun (B m) i ++ t) ≡ (if is_probe m.opcode && (block_at m.address == n) then Some (b_beat_of m 0)
    else probe_of n t)
probe_by n m t zero none pos e = absurd (omega arith)
probe_by n m t (suc i) none pos e = probe_opened n m t i none (omega arith)

-- the Probe of a block is the one that was handed out of it last
probe_of-sent : {w : ℕ} (n : ℕ) (m : MessageB w) (t : History w) → unfinished channel.B t ≡ [] → 0 < beats_of (B m)
    → probe_of n (sent (B m) t) ≡ (if is_probe m.opcode && (block_at m.address == n) then Some (b_beat_of m 0) else
    probe_of n t)
probe_of-sent n m t none pos = probe_by n m t (beats_of (B m)) none pos refl

unprobed : {w : ℕ} (k : ℕ) (x : Beat w) (t : History w) → on channel.B x ≡ false → probe_of k (x ∷ t) ≡ probe_of k t
unfolding probe_of
unprobed k (beat.A x) t off = refl
unprobed k (beat.B x) t off = absurd cc
unprobed k (beat.C x) t off = refl
unprobed k (beat.D x) t off = refl
unprobed k (beat.E x) t off = refl

-- the first beats of a message of another channel than B are no Probe
pub probe_of-other : {w : ℕ} (k : ℕ) (m : Message w) (t : History w) (n : ℕ) → on channel.B (beat_of m 0) ≡ false
    → probe_of k (begun m n ++ t) ≡ probe_of k t
probe_of-other k m t zero off = refl
probe_of-other k m t (suc i) off = unprobed k (beat_of m i) (begun m i ++ t) (off_other channel.B m i off)
    ∙ probe_of-other k m t i off

ungranted : {w : ℕ} (k : ℕ) (x : Beat w) (t : History w) → on channel.D x ≡ false
    → grant_sink k (x ∷ t) ≡ grant_sink k t
unfolding grant_sink
ungranted k (beat.A x) t off = refl
ungranted k (beat.B x) t off = refl
ungranted k (beat.C x) t off = refl
ungranted k (beat.D x) t off = absurd cc
ungranted k (beat.E x) t off = refl

-- and those of another channel than D no Grant
pub grant_sink-other : {w : ℕ} (k : ℕ) (m : Message w) (t : History w) (n : ℕ) → on channel.D (beat_of m 0) ≡ false
    → grant_sink k (begun m n ++ t) ≡ grant_sink k t
grant_sink-other k m t zero off = refl
grant_sink-other k m t (suc i) off = ungranted k (beat_of m i) (begun m i ++ t) (off_other channel.D m i off)
    ∙ grant_sink-other k m t i off

sink_opened : {w : ℕ} (k : ℕ) (m : MessageD w) (t : History w) (i : ℕ) → unfinished channel.D t ≡ []
    → i < beats_of (D m) → grant_sink k (begun (D m) (suc i) ++ t) ≡ sink_with k (D m) t
unfolding grant_sink
sink_opened k m t zero none lt = rw none refl
sink_opened k m t (suc i) none lt =
    let later : begins (beat_of (D m) (suc i)) (begun (D m) (suc i) ++ t) ≡ false = begins-later (D m) t i none lt in
    rw later (sink_opened k m t i none (omega arith))

sink_by : {w : ℕ} (k : ℕ) (m : MessageD w) (t : History w) (n : ℕ) → unfinished channel.D t ≡ [] → 0 < n
    → n ≡ beats_of (D m) → grant_sink k (begun (D m) n ++ t) ≡ sink_with k (D m) t
sink_by k m t zero none pos e = absurd (omega arith)
sink_by k m t (suc i) none pos e = sink_opened k m t i none (omega arith)

pub request_of-whole : {w : ℕ} (s : ℕ) (m : Message w) (t : History w) → unfinished (channel_in m) t ≡ []
    → 0 < beats_of m → request_of s (sent m t) ≡ request_with s m (request_of s t)
request_of-whole s (A m) t none pos = request_of-sent s m t none pos
request_of-whole s (B m) t none pos = request_of-other s (B m) t (beats_of (B m)) refl
request_of-whole s (C m) t none pos = request_of-other s (C m) t (beats_of (C m)) refl
request_of-whole s (D m) t none pos = request_of-other s (D m) t (beats_of (D m)) refl
request_of-whole s (E m) t none pos = request_of-other s (E m) t 1 refl

pub release_of-whole : {w : ℕ} (s : ℕ) (m : Message w) (t : History w) → unfinished (channel_in m) t ≡ []
    → 0 < beats_of m → release_of s (sent m t) ≡ release_with s m (release_of s t)
release_of-whole s (A m) t none pos = release_of-other s (A m) t (beats_of (A m)) refl
release_of-whole s (B m) t none pos = release_of-other s (B m) t (beats_of (B m)) refl
release_of-whole s (C m) t none pos = release_of-sent s m t none pos
release_of-whole s (D m) t none pos = release_of-other s (D m) t (beats_of (D m)) refl
release_of-whole s (E m) t none pos = release_of-other s (E m) t 1 refl

pub probe_of-whole : {w : ℕ} (k : ℕ) (m : Message w) (t : History w) → unfinished (channel_in m) t ≡ [] → 0 < beats_of m
    → probe_of k (sent m t) ≡ probe_with k m (probe_of k t)
probe_of-whole k (A m) t none pos = probe_of-other k (A m) t (beats_of (A m)) refl
probe_of-whole k (B m) t none pos = probe_of-sent k m t none pos
probe_of-whole k (C m) t none pos = probe_of-other k (C m) t (beats_of (C m)) refl
probe_of-whole k (D m) t none pos = probe_of-other k (D m) t (beats_of (D m)) refl
probe_of-whole k (E m) t none pos = probe_of-other k (E m) t 1 refl

pub grant_sink-whole : {w : ℕ} (k : ℕ) (m : Message w) (t : History w) → unfinished (channel_in m) t ≡ []
    → 0 < beats_of m → grant_sink k (sent m t) ≡ sink_with k m t
grant_sink-whole k (A m) t none pos = grant_sink-other k (A m) t (beats_of (A m)) refl
grant_sink-whole k (B m) t none pos = grant_sink-other k (B m) t (beats_of (B m)) refl
grant_sink-whole k (C m) t none pos = grant_sink-other k (C m) t (beats_of (C m)) refl
grant_sink-whole k (D m) t none pos = sink_by k m t (beats_of (D m)) none pos refl
grant_sink-whole k (E m) t none pos = grant_sink-other k (E m) t 1 refl
