-- What a message of channel D leaves of what is pending, on all links.
use Rattle.tl_manager.proofs.Imports.{IsWidth, BeatA, Link, OpA, D, MessageD, begun, beat_of, beats_of, History}
use Rattle.tl_manager.proofs.Imports.{unfinished, beats-positive, ProbeOf, sent, Trace, on_link, opens, closes}
use Rattle.tl_manager.proofs.Imports.{block_at, is_grant, pending, asks_for, request_of, probe_of, grant_sink}
use Rattle.tl_manager.proofs.Imports.{pending-sent_d, unfinished-sent_other, HasFields, IsReporting, IsAccounted}
use Rattle.std.proofs.Common.{◌≡◌, ℕ, zero, suc, ◌<◌, ◌≤◌, ◌==◌, Bool, true, false, ◌&&◌, [], ◌++◌, Option, Some, None}
use Rattle.std.proofs.Common.{refl, ap, subst, ◌∙◌, arith}
use Rattle.std.{specs.Prelude.if◌then◌else◌, proofs.lemmas.Bool.eqb-true}
use Rattle.tl_beat.specs.declared.channel.Channel.{Channel}
use Rattle.tl_params.specs.declared.key.Key.{Key}
use Rattle.tl_rules.proofs.Handed.{after_whole}
use Rattle.tl_rules.proofs.Sent.{begins-first, begins-later, request_of-other}
use Rattle.tl_manager.proofs.pending.Handed.{after_sent, own_link, other_link}
use Rattle.tl_manager.{proofs.pending.LinkHistories.sent-keeps, proofs.blocks.Unmoved.reports-kept}

-- ---- keys

-- what is pending on a link after it
pub pending-reply : {w : ℕ} (j : Key) (link : Link) (m : MessageD w) (t : Trace w) (c : ℕ) → IsWidth w
    → unfinished Channel.D (on_link link.0 t) ≡ []
    → pending j (on_link c (after_sent link (D m) t))
    ≡ (if link.0 == c then after_whole (opens j (beat_of (D m) 0) (on_link c t))
    (closes j (beat_of (D m) 0) (on_link c t)) (pending j (on_link c t)) else pending j (on_link c t))
pending-reply {w} j link m t c width none = go (link.0 == c) refl
  where
    go : (b : Bool) → (link.0 == c) ≡ b
        → pending j (on_link c (after_sent link (D m) t))
        ≡ (if b then after_whole (opens j (beat_of (D m) 0) (on_link c t))
        (closes j (beat_of (D m) 0) (on_link c t)) (pending j (on_link c t)) else pending j (on_link c t))
    go true e =
        ap (pending j) (own_link c link (D m) t e)
        ∙ pending-sent_d j m (on_link c t) (subst (λ (i : ℕ). unfinished Channel.D (on_link i t) ≡ [])
        (eqb-true link.0 c e) none) (beats-positive (D m) width)
    go false e = ap (pending j) (other_link c link (D m) t e)

-- what it neither opens nor closes
pub reply-quiet : {w : ℕ} (j : Key) (link : Link) (m : MessageD w) (t : Trace w) (c : ℕ) → IsWidth w
    → unfinished Channel.D (on_link link.0 t) ≡ []
    → ((link.0 == c) ≡ true → (opens j (beat_of (D m) 0) (on_link c t) ≡ false)
    × (closes j (beat_of (D m) 0) (on_link c t) ≡ false))
    → pending j (on_link c (after_sent link (D m) t)) ≡ pending j (on_link c t)
reply-quiet {w} j link m t c width none quiet = pending-reply j link m t c width none ∙ go (link.0 == c) quiet
  where
    go : (b : Bool) → (b ≡ true → (opens j (beat_of (D m) 0) (on_link c t) ≡ false)
        × (closes j (beat_of (D m) 0) (on_link c t) ≡ false))
        → (if b then after_whole (opens j (beat_of (D m) 0) (on_link c t)) (closes j (beat_of (D m) 0) (on_link c t))
        (pending j (on_link c t)) else pending j (on_link c t)) ≡ pending j (on_link c t)
    go true still = let q = still refl in rw (q.0, q.1) refl
    go false still = refl

-- ---- the rest

pub burst-reply : {w : ℕ} (link : Link) (m : MessageD w) (t : Trace w) (c : ℕ)
    → unfinished Channel.A (on_link c (after_sent link (D m) t)) ≡ unfinished Channel.A (on_link c t)
burst-reply link m t c =
    sent-keeps (unfinished Channel.A) c link (D m) t (λ h e. unfinished-sent_other Channel.A (D m) h refl)

-- reports that are unfinished, and ProbeAcks that are missing
pub reports-reply : {w : ℕ} (link : Link) (m : MessageD w) (t : Trace w) (c : ℕ) → IsWidth w
    → unfinished Channel.D (on_link link.0 t) ≡ [] → IsAccounted t
    → IsReporting (on_link c (after_sent link (D m) t)) (unfinished Channel.C (on_link c (after_sent link (D m) t)))
reports-reply link m t c width none ok =
    reports-kept t (after_sent link (D m) t) c
    (sent-keeps (unfinished Channel.C) c link (D m) t (λ h e. unfinished-sent_other Channel.C (D m) h refl))
    (λ k e. reply-quiet (ProbeOf k) link m t c width none (λ f. (refl, refl)) ∙ e) ok

pub request-reply : {w : ℕ} (link : Link) (m : MessageD w) (t : Trace w) (c q : ℕ)
    → request_of q (on_link c (after_sent link (D m) t)) ≡ request_of q (on_link c t)
request-reply link m t c q =
    sent-keeps (request_of q) c link (D m) t (λ h e. request_of-other q (D m) h (beats_of (D m)) refl)

probe_begun : {w : ℕ} (k : ℕ) (m : MessageD w) (t : History w) (n : ℕ) → probe_of k (begun (D m) n ++ t) ≡ probe_of k t
unfolding probe_of
probe_begun k m t zero = refl
probe_begun k m t (suc n) = probe_begun k m t n

pub probe-reply : {w : ℕ} (link : Link) (m : MessageD w) (t : Trace w) (c k : ℕ)
    → probe_of k (on_link c (after_sent link (D m) t)) ≡ probe_of k (on_link c t)
probe-reply link m t c k = sent-keeps (probe_of k) c link (D m) t (λ h e. probe_begun k m h (beats_of (D m)))

-- ---- the sink of the last Grant (to stand in tl_rules)

sink_opened : {w : ℕ} (k : ℕ) (m : MessageD w) (t : History w) (i : ℕ) → unfinished Channel.D t ≡ []
    → suc i ≤ beats_of (D m)
    → grant_sink k (begun (D m) (suc i) ++ t) ≡ (if is_grant m.opcode && asks_for k (request_of m.source t) then Some
    m.sink else grant_sink k t)
unfolding grant_sink
sink_opened k m t zero none le = rw (begins-first (D m) t none) refl
sink_opened k m t (suc i) none le = rw (begins-later (D m) t i none (omega (arith, le)))
    (sink_opened k m t i none (omega (arith, le)))

sink_by : {w : ℕ} (k : ℕ) (m : MessageD w) (t : History w) (n : ℕ) → unfinished Channel.D t ≡ [] → 0 < n
    → n ≤ beats_of (D m)
    → grant_sink k (begun (D m) n ++ t) ≡ (if is_grant m.opcode && asks_for k (request_of m.source t) then Some m.sink
    else grant_sink k t)
sink_by k m t zero none pos le = absurd (omega (arith, pos))
sink_by k m t (suc i) none pos le = sink_opened k m t i none le

pub grant_sink-sent : {w : ℕ} (k : ℕ) (m : MessageD w) (t : History w) → unfinished Channel.D t ≡ []
    → 0 < beats_of (D m)
    → grant_sink k (sent (D m) t) ≡ (if is_grant m.opcode && asks_for k (request_of m.source t) then Some m.sink else
    grant_sink k t)
grant_sink-sent k m t none pos = sink_by k m t (beats_of (D m)) none pos (omega arith)

-- where it grants nothing of the block
pub sink-reply : {w : ℕ} (link : Link) (m : MessageD w) (t : Trace w) (c k : ℕ) → IsWidth w
    → unfinished Channel.D (on_link link.0 t) ≡ []
    → ((link.0 == c) ≡ true → (is_grant m.opcode && asks_for k (request_of m.source (on_link c t))) ≡ false)
    → grant_sink k (on_link c (after_sent link (D m) t)) ≡ grant_sink k (on_link c t)
sink-reply {w} link m t c k width none other = go (link.0 == c) refl
  where
    go : (b : Bool) → (link.0 == c) ≡ b → grant_sink k (on_link c (after_sent link (D m) t)) ≡ grant_sink k
        (on_link c t)
    go true e =
        ap (grant_sink k) (own_link c link (D m) t e) ∙ grant_sink-sent k m (on_link c t)
        (subst (λ (i : ℕ). unfinished Channel.D (on_link i t) ≡ []) (eqb-true link.0 c e) none)
        (beats-positive (D m) width)
        ∙ ap (λ b. if b then Some m.sink else grant_sink k (on_link c t)) (other e)
    go false e = ap (grant_sink k) (other_link c link (D m) t e)

-- a request of these fields asks for the block of its address
pub asks_for-fields : {w : ℕ} (opcode : OpA) (param size source address k : ℕ) (o : Option (BeatA w))
    → HasFields opcode param size source address o → asks_for k o ≡ (block_at address == k)
asks_for-fields opcode param size source address k None ok = absurd ok
asks_for-fields opcode param size source address k (Some x) ok = ap (λ i. block_at i == k) ok.4
