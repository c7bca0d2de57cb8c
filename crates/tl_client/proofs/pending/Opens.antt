-- Which requests are open after a beat or a message.
use Rattle.tl_client.proofs.Imports.{IsWidth, BeatA, BeatB, BeatD, Message, A, C, E, MessageA, MessageC, MessageE}
use Rattle.tl_client.proofs.Imports.{a_beat_of, beat_of, beats_of, History, unfinished, grown, beats-positive, Key}
use Rattle.tl_client.proofs.Imports.{RequestSource, AcquireOf, sent, ends, opens, grants, is_acquire, is_release_ack}
use Rattle.tl_client.proofs.Imports.{block_at, pending, request_of, open_beat, pending-quiet, pending-closed}
use Rattle.std.proofs.Common.{◌≡◌, ℕ, zero, suc, Bool, true, false, not, cond, ◌&&◌, [], ◌∷◌, ◌++◌, Option, Some, None}
use Rattle.std.proofs.Common.{refl, ◌∙◌}
use Rattle.std.specs.Prelude.{◌==◌}
use Rattle.tl_beat.specs.declared.beat.Beat.TheVariants as beat
use Rattle.tl_beat.specs.declared.channel.Channel.TheVariants as channel
use Rattle.tl_burst.specs.statement.Burst.{begun}
use Rattle.tl_burst.specs.statement.Messages.{channel_in}
use Rattle.tl_rules.proofs.Sent.{pending-sent, request_of-sent, request_closes_nothing, ClosesNothing}

-- a message that neither opens nor closes it
pub pending-sent_quiet : {w : ℕ} (k : Key) (m : Message w) (t : History w) → IsWidth w
    → unfinished (channel_in m) t ≡ [] → ClosesNothing k m → opens k (beat_of m 0) t ≡ false
    → pending k (sent m t) ≡ pending k t
pending-sent_quiet k m t is none closes_none o = pending-sent k m t none closes_none (beats-positive m is) ∙ rw o refl

request_of-c : {w : ℕ} (s : ℕ) (m : MessageC w) (t : History w) (n : ℕ)
    → request_of s (begun (C m) n ++ t) ≡ request_of s t
unfolding request_of
request_of-c s m t zero = refl
request_of-c s m t (suc n) = request_of-c s m t n

request_of-e : {w : ℕ} (s : ℕ) (m : MessageE) (t : History w) → request_of s (sent (E m) t) ≡ request_of s t
unfolding request_of
request_of-e s m t = refl

pub request_of-b : {w : ℕ} (s : ℕ) (x : BeatB w) (t : History w) → request_of s (beat.B x ∷ t) ≡ request_of s t
unfolding request_of
request_of-b s x t = refl

pub request_of-d : {w : ℕ} (s : ℕ) (x : BeatD w) (t : History w) → request_of s (beat.D x ∷ t) ≡ request_of s t
unfolding request_of
request_of-d s x t = refl

-- ---- the open request with a source

pub open_beat-a : {w : ℕ} (s : ℕ) (m : MessageA w) (t : History w) → IsWidth w → unfinished channel.A t ≡ []
    → open_beat s (sent (A m) t) ≡ cond (m.source == s) (Some (a_beat_of m 0)) (open_beat s t)
open_beat-a {w} s m t is none =
    rw (
      pending-sent (RequestSource s) (A m) t none (request_closes_nothing (RequestSource s) m)
          (beats-positive (A m) is),
      request_of-sent s m t none (beats-positive (A m) is),
    )
    (go (m.source == s) (pending (RequestSource s) t) (request_of s t))
  where
    go : (b p : Bool) (o : Option (BeatA w)) → cond (cond b true p) (cond b (Some (a_beat_of m 0)) o) None ≡ cond b
        (Some (a_beat_of m 0)) (cond p o None)
    go true p o = refl
    go false p o = refl

pub open_beat-c : {w : ℕ} (s : ℕ) (m : MessageC w) (t : History w) → IsWidth w → unfinished channel.C t ≡ []
    → open_beat s (sent (C m) t) ≡ open_beat s t
open_beat-c s m t is none =
    rw (pending-sent_quiet (RequestSource s) (C m) t is none (λ i u. refl) refl, request_of-c s m t (beats_of (C m)))
    refl

pub open_beat-e : {w : ℕ} (s : ℕ) (m : MessageE) (t : History w) → IsWidth w → unfinished channel.E t ≡ []
    → open_beat s (sent (E m) t) ≡ open_beat s t
open_beat-e s m t is none =
    rw (pending-sent_quiet (RequestSource s) (E m) t is none (λ i u. refl) refl, request_of-e s m t) refl

pub open_beat-b : {w : ℕ} (s : ℕ) (x : BeatB w) (t : History w) → open_beat s (beat.B x ∷ t) ≡ open_beat s t
open_beat-b s x t = rw (pending-quiet (RequestSource s) (beat.B x) t refl refl, request_of-b s x t) refl

-- a response closes its request at its last beat
abbrev pub closes_source : {w : ℕ} → BeatD w → History w → ℕ → Bool
closes_source x t s = ends (beat.D x) t && (not (is_release_ack x.opcode) && (x.source == s))

pub open_beat-d : {w : ℕ} (s : ℕ) (x : BeatD w) (t : History w)
    → open_beat s (beat.D x ∷ t) ≡ cond (closes_source x t s) None (open_beat s t)
open_beat-d {w} s x t = rw (pending-closed (RequestSource s) (beat.D x) t refl, request_of-d s x t)
    (go (closes_source x t s) (pending (RequestSource s) t) (request_of s t))
  where
    go : (b p : Bool) (o : Option (BeatA w)) → cond (cond b false p) o None ≡ cond b None (cond p o None)
    go true p o = refl
    go false p o = refl

-- ---- the Acquire of a block

pub acquire_of-a : {w : ℕ} (k : ℕ) (m : MessageA w) (t : History w) → IsWidth w → unfinished channel.A t ≡ []
    → pending (AcquireOf k) (sent (A m) t) ≡ cond (is_acquire m.opcode && (block_at m.address == k)) true
    (pending (AcquireOf k) t)
acquire_of-a k m t is none = pending-sent (AcquireOf k) (A m) t none (request_closes_nothing (AcquireOf k) m)
    (beats-positive (A m) is)

pub acquire_of-c : {w : ℕ} (k : ℕ) (m : MessageC w) (t : History w) → IsWidth w → unfinished channel.C t ≡ []
    → pending (AcquireOf k) (sent (C m) t) ≡ pending (AcquireOf k) t
acquire_of-c k m t is none = pending-sent_quiet (AcquireOf k) (C m) t is none (λ i u. refl) refl

pub acquire_of-e : {w : ℕ} (k : ℕ) (m : MessageE) (t : History w) → IsWidth w → unfinished channel.E t ≡ []
    → pending (AcquireOf k) (sent (E m) t) ≡ pending (AcquireOf k) t
acquire_of-e k m t is none = pending-sent_quiet (AcquireOf k) (E m) t is none (λ i u. refl) refl

pub acquire_of-b : {w : ℕ} (k : ℕ) (x : BeatB w) (t : History w)
    → pending (AcquireOf k) (beat.B x ∷ t) ≡ pending (AcquireOf k) t
acquire_of-b k x t = pending-quiet (AcquireOf k) (beat.B x) t refl refl

pub acquire_of-d : {w : ℕ} (k : ℕ) (x : BeatD w) (t : History w)
    → pending (AcquireOf k) (beat.D x ∷ t) ≡ cond (ends (beat.D x) t && grants k x t) false (pending (AcquireOf k) t)
acquire_of-d k x t = pending-closed (AcquireOf k) (beat.D x) t refl

-- ---- what is unfinished after a response

pub unfinished-d : {w : ℕ} (x : BeatD w) (t : History w)
    → (unfinished channel.A (beat.D x ∷ t) ≡ unfinished channel.A t)
    × (unfinished channel.B (beat.D x ∷ t) ≡ unfinished channel.B t)
    × (unfinished channel.C (beat.D x ∷ t) ≡ unfinished channel.C t)
    × (unfinished channel.E (beat.D x ∷ t) ≡ unfinished channel.E t)
    × (unfinished channel.D (beat.D x ∷ t) ≡ grown (beat.D x) (unfinished channel.D t))
unfolding unfinished
unfinished-d x t = (refl, refl, refl, refl, refl)
