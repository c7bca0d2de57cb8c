-- What is kept as a message is handed out or a beat is taken.
use Rattle.tl_client.proofs.Imports.{IsWidth, Beat, A, C, E, MessageA, MessageC, MessageE, a_beat_of, History}
use Rattle.tl_client.proofs.Imports.{unfinished, beats-positive, RequestSource, AcquireOf, sent, block_at, is_acquire}
use Rattle.tl_client.proofs.Imports.{pending, held, Endpoint, IsEndpointInvariant, IsGranting, holds, acquires}
use Rattle.tl_client.proofs.Imports.{is_acquire_perm, is_acquire_beat, open_beat, held-sent_unsaid}
use Rattle.std.proofs.Common.{◌≡◌, ℕ, Bool, true, false, cond, ◌&&◌, ◌⊎◌, List, [], ◌∷◌, Some, None, refl, sym, ◌∙◌}
use Rattle.std.proofs.Common.{inl, inr}
use Rattle.std.specs.Prelude.{◌==◌, is_some}
use Rattle.std.proofs.lemmas.Bool.{and_parts, eqb-true, both_ways, cases_Bool}
use Rattle.tl_beat.specs.declared.beat.Beat.TheVariants as beat
use Rattle.tl_beat.specs.declared.channel.Channel.TheVariants as channel
use Rattle.tl_client.specs.statement.EndpointInvariant.{stores_whole}
use Rattle.tl_client.proofs.pending.Opens.{open_beat-a, open_beat-c, open_beat-e, acquire_of-a, acquire_of-c}
use Rattle.tl_client.proofs.pending.Opens.{acquire_of-e}
use Rattle.tl_rules.proofs.Sent.{unfinished-sent, unfinished-sent_other}

-- ---- a request is handed out

-- the request may be sent: its source is free, and where it is an Acquire none of its block is pending
pub record MayStart {w : ℕ} (m : MessageA w) (t : History w) : Type 0 where
  pub free : pending (RequestSource m.source) t ≡ false
  pub alone : is_acquire m.opcode ≡ true → pending (AcquireOf (block_at m.address)) t ≡ false

open_new : {w : ℕ} (s : ℕ) (t : History w) → pending (RequestSource s) t ≡ false → open_beat s t ≡ None
open_new s t free = rw free refl

granting_a : {w : ℕ} (burst : List (Beat w)) (m : MessageA w) (t : History w) → IsWidth w → unfinished channel.A t ≡ []
    → pending (RequestSource m.source) t ≡ false → IsGranting burst t
    → IsGranting burst (sent (A m) t)
granting_a [] m t is none free g = tt
granting_a (beat.A x ∷ burst) m t is none free g = tt
granting_a (beat.B x ∷ burst) m t is none free g = tt
granting_a (beat.C x ∷ burst) m t is none free g = tt
granting_a (beat.E x ∷ burst) m t is none free g = tt
granting_a {w} (beat.D x ∷ burst) m t is none free g =
    λ e. ((g e).0, (g e).1, rw (open_beat-a x.source m t is none) (go (cases_Bool (m.source == x.source)) (g e).2))
  where
    go : ((m.source == x.source) ≡ true) ⊎ ((m.source == x.source) ≡ false)
        → is_acquire_beat (open_beat x.source t) ≡ true
        → is_acquire_beat (cond (m.source == x.source) (Some (a_beat_of m 0)) (open_beat x.source t)) ≡ true
    go (inl same) live =
        let source : m.source ≡ x.source = eqb-true m.source x.source same in
        let none_open : open_beat x.source t ≡ None = rw source at (open_new m.source t free) in
        absurd (let bad : false ≡ true = rw none_open at live in cc)
    go (inr other) live = rw other live

awaited_a : {w : ℕ} (e f : Endpoint w) (m : MessageA w) (s k : ℕ) (b : Bool) → IsEndpointInvariant e
    → (m.source == s) ≡ b → ((j : ℕ) → is_some (e.waiting j) ≡ true → is_some (f.waiting j) ≡ true)
    → (is_acquire_perm m.opcode ≡ true → is_some (f.waiting (block_at m.address)) ≡ true)
    → stores_whole k (cond b (Some (a_beat_of m 0)) (open_beat s e.past)) ≡ true → is_some (f.waiting k) ≡ true
awaited_a e f m s k true kept is more new h =
    let parts = and_parts (is_acquire_perm m.opcode) (block_at m.address == k) h in
    let block : block_at m.address ≡ k = eqb-true (block_at m.address) k parts.1 in
    rw block at (new parts.0)
awaited_a e f m s k false kept is more new h = more k (kept.awaited s k h)

no_other : {w : ℕ} (e : Endpoint w) (m : MessageA w) (r k : ℕ) → IsEndpointInvariant e → MayStart m e.past
    → (is_acquire m.opcode && (block_at m.address == k)) ≡ true → acquires k (open_beat r e.past) ≡ true → ⊥
no_other e m r k kept may new old =
    let parts = and_parts (is_acquire m.opcode) (block_at m.address == k) new in
    let block : block_at m.address ≡ k = eqb-true (block_at m.address) k parts.1 in
    both_ways (pending (AcquireOf k) e.past) (rw block at (may.alone parts.0)) (kept.outstanding r k old)

once_a : {w : ℕ} (e : Endpoint w) (m : MessageA w) (s r k : ℕ) (a b : Bool) → IsEndpointInvariant e → MayStart m e.past
    → (m.source == s) ≡ a → (m.source == r) ≡ b
    → acquires k (cond a (Some (a_beat_of m 0)) (open_beat s e.past)) ≡ true
    → acquires k (cond b (Some (a_beat_of m 0)) (open_beat r e.past)) ≡ true → s ≡ r
once_a e m s r k true true kept may p q h i = sym (eqb-true m.source s p) ∙ eqb-true m.source r q
once_a e m s r k true false kept may p q h i = absurd (no_other e m r k kept may h i)
once_a e m s r k false true kept may p q h i = absurd (no_other e m s k kept may i h)
once_a e m s r k false false kept may p q h i = kept.once s r k h i

outstanding_a : {w : ℕ} (e : Endpoint w) (m : MessageA w) (s k : ℕ) (a : Bool) → IsEndpointInvariant e
    → acquires k (cond a (Some (a_beat_of m 0)) (open_beat s e.past)) ≡ true
    → cond (is_acquire m.opcode && (block_at m.address == k)) true (pending (AcquireOf k) e.past) ≡ true
outstanding_a e m s k true kept h = rw h refl
outstanding_a e m s k false kept h =
    rw (kept.outstanding s k h) (both (is_acquire m.opcode && (block_at m.address == k)))
  where
    both : (b : Bool) → cond b true true ≡ true
    both true = refl
    both false = refl

pub kept-a : {w : ℕ} (e f : Endpoint w) (m : MessageA w) → IsWidth w → IsEndpointInvariant e → MayStart m e.past
    → f.past ≡ sent (A m) e.past → ((k : ℕ) → f.copies k ≡ e.copies k)
    → ((k : ℕ) → is_some (e.waiting k) ≡ true → is_some (f.waiting k) ≡ true)
    → (is_acquire_perm m.opcode ≡ true → is_some (f.waiting (block_at m.address)) ≡ true) → IsEndpointInvariant f
kept-a e f m is kept may past copies more new = record {
  a_whole = rw past (unfinished-sent (A m) e.past kept.a_whole (beats-positive (A m) is));
  b_whole = rw past (unfinished-sent_other channel.B (A m) e.past refl ∙ kept.b_whole);
  c_whole = rw past (unfinished-sent_other channel.C (A m) e.past refl ∙ kept.c_whole);
  e_whole = rw past (unfinished-sent_other channel.E (A m) e.past refl ∙ kept.e_whole);
  copies_held = λ k. rw (past, copies k, held-sent_unsaid k (A m) e.past (λ i t. refl)) (kept.copies_held k);
  awaited = λ s k h. awaited_a e f m s k (m.source == s) kept refl more new
      (rw (past, open_beat-a s m e.past is kept.a_whole) at h);
  once = λ s r k h i. once_a e m s r k (m.source == s) (m.source == r) kept may refl refl
      (rw (past, open_beat-a s m e.past is kept.a_whole) at h)
      (rw (past, open_beat-a r m e.past is kept.a_whole) at i);
  outstanding = λ s k h. rw (past, acquire_of-a k m e.past is kept.a_whole)
      (outstanding_a e m s k (m.source == s) kept (rw (past, open_beat-a s m e.past is kept.a_whole) at h));
  granting = rw (past, unfinished-sent_other channel.D (A m) e.past refl)
      (granting_a (unfinished channel.D e.past) m e.past is kept.a_whole may.free kept.granting);
}

-- ---- a message of channel C or E, and a Probe

-- the histories say the same of requests
pub record SameRequests {w : ℕ} (t u : History w) : Type 0 where
  pub same_open : (s : ℕ) → open_beat s t ≡ open_beat s u
  pub same_acquires : (k : ℕ) → pending (AcquireOf k) t ≡ pending (AcquireOf k) u

granting_same : {w : ℕ} (burst : List (Beat w)) (t u : History w) → SameRequests t u → IsGranting burst u
    → IsGranting burst t
granting_same [] t u same g = tt
granting_same (beat.A x ∷ burst) t u same g = tt
granting_same (beat.B x ∷ burst) t u same g = tt
granting_same (beat.C x ∷ burst) t u same g = tt
granting_same (beat.E x ∷ burst) t u same g = tt
granting_same (beat.D x ∷ burst) t u same g = λ e. ((g e).0, (g e).1, rw (same.same_open x.source) (g e).2)

-- all but the copies
pub kept-same : {w : ℕ} (e f : Endpoint w) → IsEndpointInvariant e → SameRequests f.past e.past
    → unfinished channel.A f.past ≡ [] → unfinished channel.B f.past ≡ [] → unfinished channel.C f.past ≡ []
    → unfinished channel.E f.past ≡ []
    → unfinished channel.D f.past ≡ unfinished channel.D e.past → ((k : ℕ) → f.waiting k ≡ e.waiting k)
    → ((k : ℕ) → is_some (f.copies k) ≡ holds (held k f.past)) → IsEndpointInvariant f
kept-same e f kept same a b c d_none d waiting copies = record {
  a_whole = a;
  b_whole = b;
  c_whole = c;
  e_whole = d_none;
  copies_held = copies;
  awaited = λ s k h. rw (waiting k) (kept.awaited s k (rw (same.same_open s) at h));
  once = λ s r k h i. kept.once s r k (rw (same.same_open s) at h) (rw (same.same_open r) at i);
  outstanding = λ s k h. rw (same.same_acquires k) (kept.outstanding s k (rw (same.same_open s) at h));
  granting = rw d (granting_same (unfinished channel.D e.past) f.past e.past same kept.granting);
}

pub kept-c : {w : ℕ} (e f : Endpoint w) (m : MessageC w) → IsWidth w → IsEndpointInvariant e
    → f.past ≡ sent (C m) e.past → ((k : ℕ) → f.waiting k ≡ e.waiting k)
    → ((k : ℕ) → is_some (f.copies k) ≡ holds (held k f.past)) → IsEndpointInvariant f
kept-c e f m is kept past waiting copies = kept-same e f kept
    (record {
      same_open = λ s. rw past (open_beat-c s m e.past is kept.c_whole);
      same_acquires =
          λ k. rw past (acquire_of-c k m e.past is kept.c_whole);
    })
    (rw past (unfinished-sent_other channel.A (C m) e.past refl ∙ kept.a_whole))
    (rw past (unfinished-sent_other channel.B (C m) e.past refl ∙ kept.b_whole))
    (rw past (unfinished-sent (C m) e.past kept.c_whole (beats-positive (C m) is)))
    (rw past (unfinished-sent_other channel.E (C m) e.past refl ∙ kept.e_whole))
    (rw past (unfinished-sent_other channel.D (C m) e.past refl)) waiting copies

pub kept-e : {w : ℕ} (e f : Endpoint w) (m : MessageE) → IsWidth w → IsEndpointInvariant e → f.past ≡ sent (E m) e.past
    → ((k : ℕ) → f.waiting k ≡ e.waiting k) → ((k : ℕ) → f.copies k ≡ e.copies k) → IsEndpointInvariant f
kept-e e f m is kept past waiting copies = kept-same e f kept
    (record {
      same_open = λ s. rw past (open_beat-e s m e.past is kept.e_whole);
      same_acquires =
          λ k. rw past (acquire_of-e k m e.past is kept.e_whole);
    })
    (rw past (unfinished-sent_other channel.A (E m) e.past refl ∙ kept.a_whole))
    (rw past (unfinished-sent_other channel.B (E m) e.past refl ∙ kept.b_whole))
    (rw past (unfinished-sent_other channel.C (E m) e.past refl ∙ kept.c_whole))
    (rw past (unfinished-sent (E m) e.past kept.e_whole (beats-positive (E m) is)))
    (rw past (unfinished-sent_other channel.D (E m) e.past refl)) waiting
    (λ k. rw (past, copies k, held-sent_unsaid k (E m) e.past (λ i t. refl)) (kept.copies_held k))
