-- What a history says after a message was handed out on a channel where nothing was unfinished.
use Rattle.std.proofs.Common.{◌≡◌, ℕ, zero, suc, ◌+◌, ◌==◌, ◌<◌, ◌≤◌, Bool, true, false, cond, ◌&&◌, [], ◌∷◌, ◌++◌}
use Rattle.std.proofs.Common.{Some, None, refl, ap₂, ◌∙◌, arith}
use Rattle.std.specs.Prelude.{Option, if◌then◌else◌, unwrap_or}
use Rattle.std.proofs.lemmas.Bool.Decides.{nat_tests}
use Rattle.tl_beat.specs.declared.beat.Beat.{Beat}
use Rattle.tl_beat.specs.declared.beat.Beat.TheVariants as beat
use Rattle.tl_beat.specs.declared.channel.Channel.{Channel}
use Rattle.tl_beat.specs.declared.channel.Channel.TheVariants as channel
use Rattle.tl_burst.specs.declared.message.Message.{Message}
use Rattle.tl_burst.specs.declared.message.Message.TheVariants.{A, B, C, D, E}
use Rattle.tl_burst.specs.declared.message.MessageA.{MessageA}
use Rattle.tl_burst.specs.declared.message.MessageC.{MessageC}
use Rattle.tl_burst.specs.declared.message.MessageD.{MessageD}
use Rattle.tl_burst.specs.statement.Burst.{a_beat_of, beats_of, beat_of, begun}
use Rattle.tl_burst.specs.statement.Messages.{History, channel_of, channel_in, on, grown, unfinished}
use Rattle.tl_burst.proofs.Begun.{length-begun}
use Rattle.tl_burst.proofs.Splitting.{length-of_beat}
use Rattle.tl_params.specs.declared.key.Key.{Key}
use Rattle.tl_params.specs.declared.key.Key.TheVariants as key
use Rattle.tl_params.specs.declared.perm.Perm.{Perm}
use Rattle.tl_rules.specs.statement.History.{begins, ends, opens, closes, pending, request_of, release_of, asks_for}
use Rattle.tl_rules.specs.statement.History.{is_grant, capped, says_held, held}
use Rattle.tl_rules.specs.statement.Admission.{sent}

-- ---- beats of one message

pub same_channel : {w : ℕ} (m : Message w) (i : ℕ) → channel_of (beat_of m i) ≡ channel_in m
same_channel (A m) i = refl
same_channel (B m) i = refl
same_channel (C m) i = refl
same_channel (D m) i = refl
same_channel (E m) i = refl

on_own : {w : ℕ} (m : Message w) (i : ℕ) → on (channel_in m) (beat_of m i) ≡ true
on_own (A m) i = refl
on_own (B m) i = refl
on_own (C m) i = refl
on_own (D m) i = refl
on_own (E m) i = refl

-- ---- what is unfinished

pub not_last : (i n : ℕ) → i + 1 < n → (i + 1 == n) ≡ false
not_last i n lt = grind (arith, nat_tests)

pub is_last : (i n : ℕ) → i + 1 ≡ n → (i + 1 == n) ≡ true
is_last i n e = grind (arith, nat_tests)

grown_more : {w : ℕ} (m : Message w) (i : ℕ) → i + 1 < beats_of m → grown (beat_of m i) (begun m i) ≡ begun m (suc i)
grown_more m i lt = rw (length-begun m i, length-of_beat m i, not_last i (beats_of m) lt) refl

grown_last : {w : ℕ} (m : Message w) (i : ℕ) → i + 1 ≡ beats_of m → grown (beat_of m i) (begun m i) ≡ []
grown_last m i e = rw (length-begun m i, length-of_beat m i, is_last i (beats_of m) e) refl

-- the beats of a message that isn't complete are unfinished
pub unfinished-begun : {w : ℕ} (m : Message w) (t : History w) (i : ℕ) → unfinished (channel_in m) t ≡ []
    → i < beats_of m → unfinished (channel_in m) (begun m i ++ t) ≡ begun m i
unfolding unfinished
unfinished-begun m t zero none lt = none
unfinished-begun m t (suc i) none lt =
    let before : unfinished (channel_in m) (begun m i ++ t) ≡ begun m i = unfinished-begun m t i none (omega arith) in
    rw (on_own m i, before) (grown_more m i (omega arith))

grown_at_last : {w : ℕ} (m : Message w) (t : History w) (i : ℕ) → unfinished (channel_in m) t ≡ [] → i + 1 ≡ beats_of m
    → unfinished (channel_in m) (beat_of m i ∷ (begun m i ++ t)) ≡ []
unfolding unfinished
grown_at_last m t i none e =
    let before : unfinished (channel_in m) (begun m i ++ t) ≡ begun m i = unfinished-begun m t i none (omega arith) in
    rw (on_own m i, before) (grown_last m i e)

none_at : {w : ℕ} (m : Message w) (t : History w) (n : ℕ) → unfinished (channel_in m) t ≡ [] → 0 < n → n ≡ beats_of m
    → unfinished (channel_in m) (begun m n ++ t) ≡ []
none_at m t zero none pos e = absurd (omega arith)
none_at m t (suc i) none pos e = grown_at_last m t i none (omega arith)

-- and none once it is complete
pub unfinished-sent : {w : ℕ} (m : Message w) (t : History w) → unfinished (channel_in m) t ≡ [] → 0 < beats_of m
    → unfinished (channel_in m) (sent m t) ≡ []
unfinished-sent m t none pos = none_at m t (beats_of m) none pos refl

pub off_other : {w : ℕ} (ch : Channel) (m : Message w) (i : ℕ) → on ch (beat_of m 0) ≡ false
    → on ch (beat_of m i) ≡ false
off_other channel.A (A m) i e = e
off_other channel.B (A m) i e = e
off_other channel.C (A m) i e = e
off_other channel.D (A m) i e = e
off_other channel.E (A m) i e = e
off_other channel.A (B m) i e = e
off_other channel.B (B m) i e = e
off_other channel.C (B m) i e = e
off_other channel.D (B m) i e = e
off_other channel.E (B m) i e = e
off_other channel.A (C m) i e = e
off_other channel.B (C m) i e = e
off_other channel.C (C m) i e = e
off_other channel.D (C m) i e = e
off_other channel.E (C m) i e = e
off_other channel.A (D m) i e = e
off_other channel.B (D m) i e = e
off_other channel.C (D m) i e = e
off_other channel.D (D m) i e = e
off_other channel.E (D m) i e = e
off_other channel.A (E m) i e = e
off_other channel.B (E m) i e = e
off_other channel.C (E m) i e = e
off_other channel.D (E m) i e = e
off_other channel.E (E m) i e = e

other_at : {w : ℕ} (ch : Channel) (m : Message w) (t : History w) (n : ℕ) → on ch (beat_of m 0) ≡ false
    → unfinished ch (begun m n ++ t) ≡ unfinished ch t
unfolding unfinished
other_at ch m t zero off = refl
other_at ch m t (suc i) off = rw (off_other ch m i off) (other_at ch m t i off)

-- other channels are as before
pub unfinished-sent_other : {w : ℕ} (ch : Channel) (m : Message w) (t : History w) → on ch (beat_of m 0) ≡ false
    → unfinished ch (sent m t) ≡ unfinished ch t
unfinished-sent_other ch m t off = other_at ch m t (beats_of m) off

-- ---- where the message begins and ends

pub begins-first : {w : ℕ} (m : Message w) (t : History w) → unfinished (channel_in m) t ≡ []
    → begins (beat_of m 0) t ≡ true
begins-first m t none = rw none refl

pub begins-later : {w : ℕ} (m : Message w) (t : History w) (i : ℕ) → unfinished (channel_in m) t ≡ []
    → suc i < beats_of m → begins (beat_of m (suc i)) (begun m (suc i) ++ t) ≡ false
begins-later m t i none lt = rw (same_channel m (suc i), unfinished-begun m t (suc i) none lt) refl

pub ends-at : {w : ℕ} (m : Message w) (t : History w) (i : ℕ) → unfinished (channel_in m) t ≡ [] → i < beats_of m
    → ends (beat_of m i) (begun m i ++ t) ≡ (i + 1 == beats_of m)
ends-at m t i none lt = rw (same_channel m i, unfinished-begun m t i none lt, length-begun m i, length-of_beat m i) refl

-- ---- what is pending

-- the beats of the message close nothing of this key
abbrev pub ClosesNothing : {w : ℕ} → Key → Message w → Type 0
ClosesNothing {w} k m = (i : ℕ) (t : History w) → closes k (beat_of m i) t ≡ false

-- a beat that neither opens nor closes the key
pub pending-quiet : {w : ℕ} (k : Key) (x : Beat w) (t : History w) → opens k x t ≡ false → closes k x t ≡ false
    → pending k (x ∷ t) ≡ pending k t
unfolding pending
pending-quiet k x t o c = rw (o, c) (go (begins x t) (ends x t))
  where
    go : (a b : Bool) → cond (a && false) true (cond (b && false) false (pending k t)) ≡ pending k t
    go true true = refl
    go true false = refl
    go false true = refl
    go false false = refl

-- a beat that only closes it
pub pending-closed : {w : ℕ} (k : Key) (x : Beat w) (t : History w) → opens k x t ≡ false
    → pending k (x ∷ t) ≡ cond (ends x t && closes k x t) false (pending k t)
unfolding pending
pending-closed k x t o = rw o (go (begins x t))
  where
    go : (a : Bool) → cond (a && false) true (cond (ends x t && closes k x t) false (pending k t)) ≡ cond
        (ends x t && closes k x t) false (pending k t)
    go true = refl
    go false = refl

opening : {w : ℕ} (k : Key) (x : Beat w) (t : History w) → begins x t ≡ true → closes k x t ≡ false
    → pending k (x ∷ t) ≡ cond (opens k x t) true (pending k t)
unfolding pending
opening k x t first none = go (ends x t)
  where
    go : (b : Bool) → cond (begins x t && opens k x t) true (cond (b && closes k x t) false (pending k t)) ≡ cond
        (opens k x t) true (pending k t)
    go true = rw (first, none) refl
    go false = rw first refl

continuing : {w : ℕ} (k : Key) (x : Beat w) (t : History w) → begins x t ≡ false → closes k x t ≡ false
    → pending k (x ∷ t) ≡ pending k t
unfolding pending
continuing k x t later none = go (ends x t)
  where
    go : (b : Bool) → cond (begins x t && opens k x t) true (cond (b && closes k x t) false (pending k t)) ≡ pending k t
    go true = rw (later, none) refl
    go false = rw later refl

opened_at : {w : ℕ} (k : Key) (m : Message w) (t : History w) (i : ℕ) → unfinished (channel_in m) t ≡ []
    → ClosesNothing k m → i < beats_of m
    → pending k (begun m (suc i) ++ t) ≡ cond (opens k (beat_of m 0) t) true (pending k t)
opened_at k m t zero none closes_none lt = opening k (beat_of m 0) t (begins-first m t none) (closes_none 0 t)
opened_at k m t (suc i) none closes_none lt =
    continuing k (beat_of m (suc i)) (begun m (suc i) ++ t) (begins-later m t i none lt) (closes_none (suc i) _)
    ∙ opened_at k m t i none closes_none (omega arith)

opened_by : {w : ℕ} (k : Key) (m : Message w) (t : History w) (n : ℕ) → unfinished (channel_in m) t ≡ []
    → ClosesNothing k m → 0 < n → n ≤ beats_of m
    → pending k (begun m n ++ t) ≡ cond (opens k (beat_of m 0) t) true (pending k t)
opened_by k m t zero none closes_none pos le = absurd (omega arith)
opened_by k m t (suc i) none closes_none pos le = opened_at k m t i none closes_none (omega arith)

-- what a message opens is pending
pub pending-sent : {w : ℕ} (k : Key) (m : Message w) (t : History w) → unfinished (channel_in m) t ≡ []
    → ClosesNothing k m → 0 < beats_of m
    → pending k (sent m t) ≡ cond (opens k (beat_of m 0) t) true (pending k t)
pending-sent k m t none closes_none pos = opened_by k m t (beats_of m) none closes_none pos (omega arith)

-- ---- requests

request_opened : {w : ℕ} (s : ℕ) (m : MessageA w) (t : History w) (i : ℕ) → unfinished channel.A t ≡ []
    → i < beats_of (A m)
    → request_of s (begun (A m) (suc i) ++ t) ≡ cond (m.source == s) (Some (a_beat_of m 0)) (request_of s t)
unfolding request_of
request_opened s m t zero none lt = rw none refl
request_opened s m t (suc i) none lt =
    let later : begins (beat_of (A m) (suc i)) (begun (A m) (suc i) ++ t) ≡ false = begins-later (A m) t i none lt in
    rw later (request_opened s m t i none (omega arith))

request_by : {w : ℕ} (s : ℕ) (m : MessageA w) (t : History w) (n : ℕ) → unfinished channel.A t ≡ [] → 0 < n
    → n ≤ beats_of (A m)
    → request_of s (begun (A m) n ++ t) ≡ cond (m.source == s) (Some (a_beat_of m 0)) (request_of s t)
request_by s m t zero none pos le = absurd (omega arith)
request_by s m t (suc i) none pos le = request_opened s m t i none (omega arith)

-- the request with a source is the one that was handed out with it last
pub request_of-sent : {w : ℕ} (s : ℕ) (m : MessageA w) (t : History w) → unfinished channel.A t ≡ []
    → 0 < beats_of (A m)
    → request_of s (sent (A m) t) ≡ cond (m.source == s) (Some (a_beat_of m 0)) (request_of s t)
request_of-sent s m t none pos = request_by s m t (beats_of (A m)) none pos (omega arith)

-- a request closes nothing
pub request_closes_nothing : {w : ℕ} (k : Key) (m : MessageA w) → ClosesNothing k (A m)
request_closes_nothing (key.RequestSource s) m i t = refl
request_closes_nothing (key.ReleaseSource s) m i t = refl
request_closes_nothing (key.AcquireOf b) m i t = refl
request_closes_nothing (key.ReleaseOf b) m i t = refl
request_closes_nothing (key.GrantSink s) m i t = refl
request_closes_nothing (key.GrantAckOf b) m i t = refl
request_closes_nothing (key.ProbeOf b) m i t = refl

unasked : {w : ℕ} (s : ℕ) (x : Beat w) (t : History w) → on channel.A x ≡ false → request_of s (x ∷ t) ≡ request_of s t
unfolding request_of
unasked s (beat.A x) t off = absurd cc
unasked s (beat.B x) t off = refl
unasked s (beat.C x) t off = refl
unasked s (beat.D x) t off = refl
unasked s (beat.E x) t off = refl

-- the first beats of a message of another channel are no request
pub request_of-other : {w : ℕ} (s : ℕ) (m : Message w) (t : History w) (n : ℕ) → on channel.A (beat_of m 0) ≡ false
    → request_of s (begun m n ++ t) ≡ request_of s t
request_of-other s m t zero off = refl
request_of-other s m t (suc i) off = unasked s (beat_of m i) (begun m i ++ t) (off_other channel.A m i off)
    ∙ request_of-other s m t i off

unreleased : {w : ℕ} (s : ℕ) (x : Beat w) (t : History w) → on channel.C x ≡ false
    → release_of s (x ∷ t) ≡ release_of s t
unfolding release_of
unreleased s (beat.A x) t off = refl
unreleased s (beat.B x) t off = refl
unreleased s (beat.C x) t off = absurd cc
unreleased s (beat.D x) t off = refl
unreleased s (beat.E x) t off = refl

-- and those of another channel than C no Release
pub release_of-other : {w : ℕ} (s : ℕ) (m : Message w) (t : History w) (n : ℕ) → on channel.C (beat_of m 0) ≡ false
    → release_of s (begun m n ++ t) ≡ release_of s t
release_of-other s m t zero off = refl
release_of-other s m t (suc i) off = unreleased s (beat_of m i) (begun m i ++ t) (off_other channel.C m i off)
    ∙ release_of-other s m t i off

-- ---- what is held

-- a beat that says nothing of a block leaves what is held of it
pub held_unsaid : {w : ℕ} (k : ℕ) (x : Beat w) (t : History w) → says_held k x t ≡ None → held k (x ∷ t) ≡ held k t
unfolding held
held_unsaid k x t none = go (ends x t)
  where
    go : (b : Bool) → cond b (unwrap_or (says_held k x t) (held k t)) (held k t) ≡ held k t
    go true = rw none refl
    go false = refl

-- the beats of the message say nothing of the block
abbrev pub SaysNothing : {w : ℕ} → ℕ → Message w → Type 0
SaysNothing {w} k m = (i : ℕ) (t : History w) → says_held k (beat_of m i) t ≡ None

held_begun : {w : ℕ} (k : ℕ) (m : Message w) (t : History w) (n : ℕ) → SaysNothing k m
    → held k (begun m n ++ t) ≡ held k t
held_begun k m t zero nothing = refl
held_begun k m t (suc i) nothing = held_unsaid k (beat_of m i) (begun m i ++ t) (nothing i _) ∙ held_begun k m t i
    nothing

-- a message that says nothing of a block leaves what is held of it
pub held-sent_unsaid : {w : ℕ} (k : ℕ) (m : Message w) (t : History w) → SaysNothing k m → held k (sent m t) ≡ held k t
held-sent_unsaid k m t nothing = held_begun k m t (beats_of m) nothing

unended : {w : ℕ} (k : ℕ) (x : Beat w) (t : History w) → ends x t ≡ false → held k (x ∷ t) ≡ held k t
unfolding held
unended k x t e = rw e refl

ended : {w : ℕ} (k : ℕ) (x : Beat w) (t : History w) → ends x t ≡ true
    → held k (x ∷ t) ≡ unwrap_or (says_held k x t) (held k t)
unfolding held
ended k x t e = rw e refl

held_before_last : {w : ℕ} (k : ℕ) (m : Message w) (t : History w) (i : ℕ) → unfinished (channel_in m) t ≡ []
    → i < beats_of m → held k (begun m i ++ t) ≡ held k t
held_before_last k m t zero none lt = refl
held_before_last k m t (suc i) none lt =
    unended k (beat_of m i) (begun m i ++ t) (ends-at m t i none (omega arith) ∙ not_last i (beats_of m) (omega arith))
    ∙ held_before_last k m t i none (omega arith)

held_at_last : {w : ℕ} (k : ℕ) (m : Message w) (t : History w) (n : ℕ) (said : Option Perm)
    → unfinished (channel_in m) t ≡ [] → 0 < n → n ≡ beats_of m
    → ((i : ℕ) → says_held k (beat_of m i) (begun m i ++ t) ≡ said)
    → held k (begun m n ++ t) ≡ unwrap_or said (held k t)
held_at_last k m t zero said none pos e says = absurd (omega arith)
held_at_last k m t (suc i) said none pos e says =
    ended k (beat_of m i) (begun m i ++ t) (ends-at m t i none (omega arith) ∙ is_last i (beats_of m) (omega arith))
    ∙ ap₂ unwrap_or (says i) (held_before_last k m t i none (omega arith))

-- a message of channel C says what is held
pub held-sent_c : {w : ℕ} (k : ℕ) (m : MessageC w) (t : History w) → unfinished channel.C t ≡ [] → 0 < beats_of (C m)
    → held k (sent (C m) t) ≡ unwrap_or (says_held k (beat_of (C m) 0) t) (held k t)
held-sent_c k m t none pos = held_at_last k (C m) t (beats_of (C m)) (says_held k (beat_of (C m) 0) t) none pos refl
    (λ i. refl)

-- what a message of channel D says of a block, where it answers a request of this history
abbrev pub says : {w : ℕ} → ℕ → MessageD w → History w → Option Perm
says k m t = if is_grant m.opcode && asks_for k (request_of m.source t) then Some (capped m.param) else None

says-at : {w : ℕ} (k : ℕ) (m : MessageD w) (t : History w) (i : ℕ)
    → says_held k (beat_of (D m) i) (begun (D m) i ++ t) ≡ says k m t
says-at k m t i = rw (request_of-other m.source (D m) t i refl) refl

-- a Grant makes what is held what its cap names
pub held-sent_d : {w : ℕ} (k : ℕ) (m : MessageD w) (t : History w) → unfinished channel.D t ≡ [] → 0 < beats_of (D m)
    → held k (sent (D m) t) ≡ unwrap_or (says k m t) (held k t)
held-sent_d k m t none pos = held_at_last k (D m) t (beats_of (D m)) (says k m t) none pos refl (says-at k m t)
