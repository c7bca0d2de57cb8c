-- What is kept as a client takes a beat of channel D.
use Rattle.tl_client.proofs.Imports.{IsWidth, Beat, BeatA, BeatD, OpA, OpD, History, unfinished, grown, completes}
use Rattle.tl_client.proofs.Imports.{RequestSource, block_at, is_acquire, is_grant, ends, grants, asks_for, capped}
use Rattle.tl_client.proofs.Imports.{pending, request_of, held, payload_of, Finish, Verdict, Taken, Done, grant_ack}
use Rattle.tl_client.proofs.Imports.{Endpoint, sending, set_at, with_past, IsEndpointInvariant, IsGranting, holds}
use Rattle.tl_client.proofs.Imports.{acquires, is_acquire_perm, is_acquire_beat, open_beat, silent, taken, ended}
use Rattle.tl_client.proofs.Imports.{granted, granted_perm, responded, not_release_ack}
use Rattle.std.proofs.Common.{◌≡◌, ℕ, Bool, true, false, cond, ◌&&◌, ◌⊎◌, List, [], ◌∷◌, Option, Some, None, refl, sym}
use Rattle.std.proofs.Common.{◌∙◌, ap, inl, inr}
use Rattle.std.specs.Prelude.{◌==◌, is_some}
use Rattle.std.proofs.lemmas.Bool.{and_parts, and_from, eqb-true, eq-eqb, both_ways, cases_Bool}
use Rattle.tl_beat.specs.declared.beat.Beat.TheVariants as beat
use Rattle.tl_beat.specs.declared.channel.Channel.TheVariants as channel
use Rattle.tl_beat.specs.declared.opcode.OpA.TheVariants as a
use Rattle.tl_beat.specs.declared.opcode.OpD.TheVariants as d
use Rattle.tl_rules.specs.statement.Conformance.{is_acquire_block, is_grant_without_data}
use Rattle.tl_client.specs.statement.Endpoint.{with_copy, with_waiting}
use Rattle.tl_client.specs.statement.EndpointInvariant.{stores_whole}
use Rattle.tl_client.specs.statement.Offer.{answered}
use Rattle.tl_client.proofs.messages.Grants.{IsGoodGrant}
use Rattle.tl_client.proofs.endpoint.HeldAfter.{held-beat_d, swapped}
use Rattle.tl_client.proofs.pending.Kept.{kept-e}
use Rattle.tl_client.proofs.pending.Opens.{open_beat-d, unfinished-d, closes_source, acquire_of-d}

-- ---- a beat of channel D, whatever it does to copies and waiting bytes

pub still_acquires : {w : ℕ} (k : ℕ) (b : Bool) (o : Option (BeatA w)) → acquires k (cond b None o) ≡ true
    → (b ≡ false) × (acquires k o ≡ true)
still_acquires k true o h = absurd cc
still_acquires k false o h = (refl, h)

pub still_stores : {w : ℕ} (k : ℕ) (b : Bool) (o : Option (BeatA w)) → stores_whole k (cond b None o) ≡ true
    → (b ≡ false) × (stores_whole k o ≡ true)
still_stores k true o h = absurd cc
still_stores k false o h = (refl, h)

-- the request that a Grant of the block answers is an Acquire of it
pub acquires_granted : {w : ℕ} (x : BeatD w) (t : History w) (k : ℕ) → is_acquire_beat (open_beat x.source t) ≡ true
    → asks_for k (request_of x.source t) ≡ true
    → acquires k (open_beat x.source t) ≡ true
acquires_granted {w} x t k acquire block = go (pending (RequestSource x.source) t) (request_of x.source t) acquire block
  where
    go : (b : Bool) (o : Option (BeatA w)) → is_acquire_beat (cond b o None) ≡ true → asks_for k o ≡ true
        → acquires k (cond b o None) ≡ true
    go false o h i = absurd cc
    go true None h i = absurd cc
    go true (Some r) h i = and_from (is_acquire r.opcode) (block_at r.address == k) h i

-- at its last beat it closes its source and no other
closes_own : {w : ℕ} (x : BeatD w) (t : History w) (s : ℕ) → is_grant x.opcode ≡ true → ends (beat.D x) t ≡ true
    → s ≡ x.source → closes_source x t s ≡ true
closes_own x t s g last is = rw (last, not_release_ack x.opcode g) (eq-eqb x.source s (sym is))

-- no Acquire stays open whose block is granted
none_left : {w : ℕ} (e : Endpoint w) (x : BeatD w) (s k : ℕ) → IsEndpointInvariant e
    → (is_grant x.opcode ≡ true → is_acquire_beat (open_beat x.source e.past) ≡ true) → closes_source x e.past s ≡ false
    → acquires k (open_beat s e.past) ≡ true
    → (ends (beat.D x) e.past && grants k x e.past) ≡ false
none_left e x s k kept acquired closed live = elim (cases_Bool (ends (beat.D x) e.past && grants k x e.past)) [
  | inr no_grant ↦ no_grant
  | inl granting ↦
      let parts = and_parts (ends (beat.D x) e.past) (grants k x e.past) granting in
      let kind = and_parts (is_grant x.opcode) (asks_for k (request_of x.source e.past)) parts.1 in
      let own = acquires_granted x e.past k (acquired kind.0) kind.1 in
      absurd (both_ways (closes_source x e.past s) closed
      (closes_own x e.past s kind.0 parts.0 (kept.once s x.source k live own)))
]

kept-d : {w : ℕ} (e f : Endpoint w) (x : BeatD w) → IsEndpointInvariant e → f.past ≡ (beat.D x ∷ e.past)
    → (is_grant x.opcode ≡ true → is_acquire_beat (open_beat x.source e.past) ≡ true)
    → IsGranting (grown (beat.D x) (unfinished channel.D e.past)) (beat.D x ∷ e.past)
    → ((s k : ℕ) → closes_source x e.past s ≡ false → stores_whole k (open_beat s e.past) ≡ true
    → is_some (f.waiting k) ≡ true)
    → ((k : ℕ) → is_some (f.copies k) ≡ holds (cond (ends (beat.D x) e.past && grants k x e.past) (capped x.param)
    (held k e.past))) → IsEndpointInvariant f
kept-d e f x kept past acquired next waiting copies =
    let others = unfinished-d x e.past in
    record {
      a_whole = rw past (others.0 ∙ kept.a_whole);
      b_whole = rw past (others.1 ∙ kept.b_whole);
      c_whole = rw past (others.2 ∙ kept.c_whole);
      e_whole = rw past (others.3 ∙ kept.e_whole);
      copies_held = λ k. rw past (copies k ∙ ap holds (sym (held-beat_d k x e.past)));
      awaited = λ s k h. let p = still_stores k (closes_source x e.past s) (open_beat s e.past)
          (rw (past, open_beat-d s x e.past) at h) in waiting s k p.0 p.1;
      once = λ s r k h i.
          let p = still_acquires k (closes_source x e.past s) (open_beat s e.past)
          (rw (past, open_beat-d s x e.past) at h) in
          let q = still_acquires k (closes_source x e.past r) (open_beat r e.past)
          (rw (past, open_beat-d r x e.past) at i) in
          kept.once s r k p.1 q.1;
      outstanding = λ s k h.
          let p = still_acquires k (closes_source x e.past s) (open_beat s e.past)
          (rw (past, open_beat-d s x e.past) at h) in
          rw (past, acquire_of-d k x e.past, none_left e x s k kept acquired p.0 p.1) (kept.outstanding s k p.1);
      granting = rw (past, others.4) next;
    }

-- ---- what the burst says after the beat

pub next_burst : {w : ℕ} (x : BeatD w) (t : History w) (burst : List (Beat w)) → unfinished channel.D t ≡ burst
    → (is_grant x.opcode ≡ true → IsGoodGrant x t × (completes (beat.D x) burst ≡ false
    → is_grant_without_data x.opcode ≡ false)) → IsGranting (grown (beat.D x) burst) (beat.D x ∷ t)
next_burst {w} x t burst is good = go (completes (beat.D x) burst) refl
  where
    go : (b : Bool) → completes (beat.D x) burst ≡ b → IsGranting (cond b [] (beat.D x ∷ burst)) (beat.D x ∷ t)
    go true whole = tt
    go false more = λ g.
        let known = good g in
        let open_still : open_beat x.source (beat.D x ∷ t) ≡ open_beat x.source t =
        open_beat-d x.source x t ∙ rw (is, more) refl in
        (known.1 more, known.0.gives, rw open_still known.0.answers_acquire)

-- ---- what the last beat of a response does

-- the beat, with what is known of it where it is a Grant
pub record IsGoodBeat {w : ℕ} (x : BeatD w) (t : History w) : Type 0 where
  pub good : is_grant x.opcode ≡ true → IsGoodGrant x t
  pub next : IsGranting (grown (beat.D x) (unfinished channel.D t)) (beat.D x ∷ t)

-- the end after a beat, but for copies and waiting bytes
abbrev after_d : {w : ℕ} → BeatD w → Endpoint w → Endpoint w
after_d x e = with_past (beat.D x ∷ e.past) e

kept_plain : {w : ℕ} (e : Endpoint w) (x : BeatD w) → IsEndpointInvariant e → IsGoodBeat x e.past
    → ((k : ℕ) → (ends (beat.D x) e.past && grants k x e.past) ≡ false) → IsEndpointInvariant (after_d x e)
kept_plain e x kept good none =
    kept-d e (after_d x e) x kept refl (λ g. (good.good g).answers_acquire) good.next
    (λ s k closed live. kept.awaited s k live) (λ k. rw (none k) (kept.copies_held k))

grants_none : {w : ℕ} (x : BeatD w) (t : History w) (k : ℕ) → is_grant x.opcode ≡ false
    → (ends (beat.D x) t && grants k x t) ≡ false
grants_none x t k none = rw none (go (ends (beat.D x) t))
  where
    go : (b : Bool) → (b && false) ≡ false
    go true = refl
    go false = refl

ends_none : {w : ℕ} (x : BeatD w) (t : History w) (k : ℕ) → ends (beat.D x) t ≡ false
    → (ends (beat.D x) t && grants k x t) ≡ false
ends_none x t k more = rw more refl

-- at the last beat of a Grant of a block, by the request that it answers
grants_block : {w : ℕ} (x : BeatD w) (t : History w) (r : BeatA w) (k : ℕ) → is_grant x.opcode ≡ true
    → ends (beat.D x) t ≡ true → request_of x.source t ≡ Some r
    → (ends (beat.D x) t && grants k x t) ≡ (k == block_at r.address)
grants_block x t r k g last is = rw (g, last, is) (swapped (block_at r.address) k)

granted_copy : {w : ℕ} (e f : Endpoint w) (x : BeatD w) (r : BeatA w) (bytes : Option (List ℕ)) → IsEndpointInvariant e
    → is_some bytes ≡ true → holds (capped x.param) ≡ true → (k : ℕ)
    → is_some (set_at (block_at r.address) bytes e.copies k) ≡ holds
    (cond (k == block_at r.address) (capped x.param) (held k e.past))
granted_copy e f x r bytes kept some gives k = go (k == block_at r.address)
  where
    go : (b : Bool) → is_some (cond b bytes (e.copies k)) ≡ holds (cond b (capped x.param) (held k e.past))
    go true = some ∙ sym gives
    go false = kept.copies_held k

-- GrantData
kept_data : {w : ℕ} (e : Endpoint w) (x : BeatD w) (r : BeatA w) (payload : List ℕ) → IsEndpointInvariant e
    → IsGoodBeat x e.past → is_grant x.opcode ≡ true → ends (beat.D x) e.past ≡ true
    → request_of x.source e.past ≡ Some r
    → IsEndpointInvariant (with_copy (block_at r.address) (Some payload) (after_d x e))
kept_data e x r payload kept good g last is =
    kept-d e (with_copy (block_at r.address) (Some payload) (after_d x e)) x kept refl
    (λ h. (good.good h).answers_acquire) good.next (λ s k closed live. kept.awaited s k live)
    (λ k. rw (grants_block x e.past r k g last is) (granted_copy e e x r (Some payload) kept refl (good.good g).gives
    k))

-- Grant for an AcquireBlock
kept_block : {w : ℕ} (e : Endpoint w) (x : BeatD w) (r : BeatA w) → IsEndpointInvariant e → IsGoodBeat x e.past
    → is_grant x.opcode ≡ true → is_grant_without_data x.opcode ≡ true
    → is_acquire_block r.opcode ≡ true → ends (beat.D x) e.past ≡ true → request_of x.source e.past ≡ Some r
    → IsEndpointInvariant (after_d x e)
kept_block e x r kept good g bare block last is =
    kept-d e (after_d x e) x kept refl (λ h. (good.good h).answers_acquire) good.next
    (λ s k closed live. kept.awaited s k live)
    (λ k. rw (grants_block x e.past r k g last is) (kept.copies_held k ∙ go k (cases_Bool (k == block_at r.address))))
  where
    has : holds (held (block_at r.address) e.past) ≡ true
    has = (rw is at ((good.good g).has_copy bare)) block

    go : (k : ℕ) → ((k == block_at r.address) ≡ true) ⊎ ((k == block_at r.address) ≡ false)
        → holds (held k e.past) ≡ holds (cond (k == block_at r.address) (capped x.param) (held k e.past))
    go k (inl here) = rw (here, eqb-true k (block_at r.address) here) (has ∙ sym (good.good g).gives)
    go k (inr other) = rw other refl

perm_acquires : (opcode : OpA) → is_acquire_perm opcode ≡ true → is_acquire opcode ≡ true
perm_acquires a.AcquirePerm e = refl
perm_acquires a.AcquireBlock e = refl
perm_acquires a.PutFullData e = absurd (let no : false ≡ true = e in cc)
perm_acquires a.PutPartialData e = absurd (let no : false ≡ true = e in cc)
perm_acquires a.ArithmeticData e = absurd (let no : false ≡ true = e in cc)
perm_acquires a.LogicalData e = absurd (let no : false ≡ true = e in cc)
perm_acquires a.Get e = absurd (let no : false ≡ true = e in cc)
perm_acquires a.Intent e = absurd (let no : false ≡ true = e in cc)

stores_acquires : {w : ℕ} (k : ℕ) (o : Option (BeatA w)) → stores_whole k o ≡ true → acquires k o ≡ true
stores_acquires k None h = h
stores_acquires k (Some r) h =
    let parts = and_parts (is_acquire_perm r.opcode) (block_at r.address == k) h in
    and_from (is_acquire r.opcode) (block_at r.address == k) (perm_acquires r.opcode parts.0) parts.1

open_is : {w : ℕ} (s : ℕ) (t : History w) (r : BeatA w) → is_acquire_beat (open_beat s t) ≡ true
    → request_of s t ≡ Some r → open_beat s t ≡ Some r
open_is {w} s t r live is = go (pending (RequestSource s) t) (request_of s t) live is
  where
    go : (b : Bool) (o : Option (BeatA w)) → is_acquire_beat (cond b o None) ≡ true → o ≡ Some r
        → cond b o None ≡ Some r
    go false o h i = absurd cc
    go true o h i = i

-- Grant for an AcquirePerm
kept_perm : {w : ℕ} (e : Endpoint w) (x : BeatD w) (r : BeatA w) → IsEndpointInvariant e → IsGoodBeat x e.past
    → is_grant x.opcode ≡ true → is_acquire_perm r.opcode ≡ true → ends (beat.D x) e.past ≡ true
    → request_of x.source e.past ≡ Some r
    → IsEndpointInvariant (with_waiting (block_at r.address) None
    (with_copy (block_at r.address) (e.waiting (block_at r.address)) (after_d x e)))
kept_perm {w} e x r kept good g perm last is =
    kept-d e (with_waiting (block_at r.address) None (with_copy (block_at r.address) (e.waiting (block_at r.address))
    (after_d x e))) x kept refl (λ h. (good.good h).answers_acquire) good.next
    (λ s k closed live. keeps s k closed live (cases_Bool (k == block_at r.address)))
    (λ k. rw (grants_block x e.past r k g last is) (granted_copy e e x r (e.waiting (block_at r.address)) kept bytes
    (good.good g).gives k))
  where
    own : open_beat x.source e.past ≡ Some r
    own = open_is x.source e.past r (good.good g).answers_acquire is

    whole : stores_whole (block_at r.address) (open_beat x.source e.past) ≡ true
    whole = rw own (and_from (is_acquire_perm r.opcode) (block_at r.address == block_at r.address) perm
        (eq-eqb (block_at r.address) (block_at r.address) refl))

    bytes : is_some (e.waiting (block_at r.address)) ≡ true
    bytes = kept.awaited x.source (block_at r.address) whole

    keeps : (s k : ℕ) → closes_source x e.past s ≡ false → stores_whole k (open_beat s e.past) ≡ true
        → ((k == block_at r.address) ≡ true) ⊎ ((k == block_at r.address) ≡ false)
        → is_some (set_at (block_at r.address) None e.waiting k) ≡ true
    keeps s k closed live (inr other) = rw other (kept.awaited s k live)
    keeps s k closed live (inl here) =
        let same : k ≡ block_at r.address = eqb-true k (block_at r.address) here in
        let mine : acquires k (open_beat x.source e.past) ≡ true =
        rw same (stores_acquires (block_at r.address) (open_beat x.source e.past) whole) in
        absurd (both_ways (closes_source x e.past s) closed
        (closes_own x e.past s g last (kept.once s x.source k (stores_acquires k (open_beat s e.past) live) mine)))

-- ---- the last beat

kept_granted : {w : ℕ} (e : Endpoint w) (x : BeatD w) (r : BeatA w) (opcode : OpA) → IsEndpointInvariant e
    → IsGoodBeat x e.past → r.opcode ≡ opcode → is_acquire opcode ≡ true → is_grant x.opcode ≡ true
    → is_grant_without_data x.opcode ≡ true → ends (beat.D x) e.past ≡ true → request_of x.source e.past ≡ Some r
    → IsEndpointInvariant (granted_perm opcode (block_at r.address) (after_d x e))
kept_granted e x r a.AcquirePerm kept good is acquire g bare last asked =
    kept_perm e x r kept good g (rw is refl) last asked
kept_granted e x r a.AcquireBlock kept good is acquire g bare last asked =
    kept_block e x r kept good g bare (rw is refl) last asked
kept_granted e x r a.PutFullData kept good is acquire g bare last asked = absurd (let no : false ≡ true = acquire in cc)
kept_granted e x r a.PutPartialData kept good is acquire g bare last asked =
    absurd (let no : false ≡ true = acquire in cc)
kept_granted e x r a.ArithmeticData kept good is acquire g bare last asked =
    absurd (let no : false ≡ true = acquire in cc)
kept_granted e x r a.LogicalData kept good is acquire g bare last asked = absurd (let no : false ≡ true = acquire in cc)
kept_granted e x r a.Get kept good is acquire g bare last asked = absurd (let no : false ≡ true = acquire in cc)
kept_granted e x r a.Intent kept good is acquire g bare last asked = absurd (let no : false ≡ true = acquire in cc)

acks_too : {w : ℕ} (sink : ℕ) (v : Verdict) (g : Endpoint w) → IsWidth w → IsEndpointInvariant g
    → IsEndpointInvariant (answered v (grant_ack sink) g).after
acks_too sink v g is kept = kept-e g (sending (grant_ack sink) g) (record { sink = sink }) is kept refl (λ k. refl)
    (λ k. refl)

nothing_asked : {w : ℕ} (x : BeatD w) (t : History w) → is_acquire_beat (open_beat x.source t) ≡ true
    → request_of x.source t ≡ None → ⊥
nothing_asked {w} x t live none = go (pending (RequestSource x.source) t) (request_of x.source t) live none
  where
    go : (b : Bool) (o : Option (BeatA w)) → is_acquire_beat (cond b o None) ≡ true → o ≡ None → ⊥
    go false o h i = absurd cc
    go true None h i = absurd cc
    go true (Some r) h i = absurd cc

kept_ended : {w : ℕ} (e : Endpoint w) (x : BeatD w) (opcode : OpD) (o : Option (BeatA w)) (payload : List ℕ)
    (f : Finish) → IsWidth w → IsEndpointInvariant e → IsGoodBeat x e.past → x.opcode ≡ opcode
    → ends (beat.D x) e.past ≡ true → request_of x.source e.past ≡ o
    → IsEndpointInvariant (ended opcode x f (granted opcode o payload (after_d x e))).after
kept_ended e x d.AccessAck o payload f is kept good code last asked =
    kept_plain e x kept good (λ k. grants_none x e.past k (rw code refl))
kept_ended e x d.AccessAckData o payload f is kept good code last asked =
    kept_plain e x kept good (λ k. grants_none x e.past k (rw code refl))
kept_ended e x d.HintAck o payload f is kept good code last asked =
    kept_plain e x kept good (λ k. grants_none x e.past k (rw code refl))
kept_ended e x d.ReleaseAck o payload f is kept good code last asked =
    kept_plain e x kept good (λ k. grants_none x e.past k (rw code refl))
kept_ended e x d.Grant None payload f is kept good code last asked =
    absurd (nothing_asked x e.past (good.good (rw code refl)).answers_acquire asked)
kept_ended e x d.GrantData None payload f is kept good code last asked =
    absurd (nothing_asked x e.past (good.good (rw code refl)).answers_acquire asked)
kept_ended e x d.Grant (Some r) payload f is kept good code last asked =
    let g : is_grant x.opcode ≡ true = rw code refl in
    let acquire : is_acquire r.opcode ≡ true = rw (open_is x.source e.past r (good.good g).answers_acquire asked) at
    (good.good g).answers_acquire in
    acks_too x.sink (Done x.source f) _ is (kept_granted e x r r.opcode kept good refl acquire g (rw code refl) last
    asked)
kept_ended e x d.GrantData (Some r) payload f is kept good code last asked =
    acks_too x.sink (Done x.source f) _ is (kept_data e x r payload kept good (rw code refl) last asked)

pub kept_taken_d : {w : ℕ} (e : Endpoint w) (x : BeatD w) → IsWidth w → IsEndpointInvariant e → IsGoodBeat x e.past
    → IsEndpointInvariant (taken (beat.D x) e).after
kept_taken_d {w} e x is kept good = go (ends (beat.D x) e.past) refl
  where
    payload : List ℕ
    payload = payload_of (beat.D x ∷ unfinished channel.D e.past)

    go : (b : Bool) → ends (beat.D x) e.past ≡ b
        → IsEndpointInvariant (cond b (responded x (request_of x.source e.past) payload e)
        (silent Taken (after_d x e))).after
    go true last = kept_ended e x x.opcode (request_of x.source e.past) payload _ is kept good refl last refl
    go false more = kept_plain e x kept good (λ k. ends_none x e.past k more)
