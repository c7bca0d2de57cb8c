-- What a caching client answers to a beat of a response, and what it knows afterwards.
use Rattle.tl_client.proofs.Imports.{BeatA, BeatC, BeatD, Channel, OpD, Message, History, unfinished, RequestSource}
use Rattle.tl_client.proofs.Imports.{payload_of, admits, broken_in_order, comes_in_grant, block_at, asks_for, ends}
use Rattle.tl_client.proofs.Imports.{grants, is_grant, is_release_ack, pending, request_of, Caching, Finish, Verdict}
use Rattle.tl_client.proofs.Imports.{Taken, Done, comes_granting, copy_granted, waiting_granted, Endpoint, acquires}
use Rattle.tl_client.proofs.Imports.{is_acquire_beat, KnowsCaching, caching_terms}
use Rattle.tl_client.proofs.Imports.{is_granting, has_sink, offered, taken}
use Rattle.tl_client.proofs.Imports.{ended, open_beat, open_release, fields_of, release_fields, open_at, held_in}
use Rattle.tl_client.proofs.Imports.{copy_in, waiting_in, not_release_ack}
use Rattle.std.proofs.Common.{◌≡◌, ℕ, ◌<◌, Bool, true, false, not, cond, ◌&&◌, List, [], ◌∷◌, Option, Some, None, refl}
use Rattle.std.proofs.Common.{sym, ◌∙◌, ap, arith}
use Rattle.std.specs.Prelude.{Ok, ◌==◌, IfSome, nat_le}
use Rattle.std.proofs.lemmas.Bool.{and_parts, eq-eqb}
use Rattle.std.proofs.lemmas.Bool.Decides.{nat_tests}
use Rattle.tl_beat.specs.declared.beat.Beat.TheVariants as beat
use Rattle.tl_beat.specs.declared.channel.Channel.TheVariants as channel
use Rattle.tl_beat.specs.declared.opcode.OpD.TheVariants as d
use Rattle.tl_client.specs.statement.Offer.{address_asked, finish_of}
use Rattle.tl_client.specs.code.Plain.{address_in}
use Rattle.tl_client.specs.code.Response.{in_beats}
use Rattle.tl_client.specs.code.Takes.{Goes, Ends, GrantsInside, granting_by, granting_to, is_for, copy_after}
use Rattle.tl_client.specs.code.Takes.{waiting_after, ack_after}
use Rattle.tl_client.proofs.pending.AccountedTaken.{IsFit}
use Rattle.tl_client.proofs.caching_client.Taken.{Follows, taking, finishing, knows-after}
use Rattle.tl_client.proofs.endpoint.HeldAfter.{swapped}
use Rattle.tl_client.proofs.pending.KeptOffered.{good_beat}
use Rattle.tl_client.proofs.pending.Opens.{unfinished-d}

-- the request that a response names is open
named : {w : ℕ} (x : BeatD w) (t : History w) → IsFit x t → is_release_ack x.opcode ≡ false
    → request_of x.source t ≡ open_beat x.source t
named {w} x t fits answer = go (pending (RequestSource x.source) t) (request_of x.source t) (fits.answers answer)
  where
    go : (b : Bool) (o : Option (BeatA w)) → admits x.opcode (cond b o None) ≡ true → o ≡ cond b o None
    go true o e = refl
    go false o e = absurd cc

-- ---- a beat that doesn't complete it

burst_part : {w : ℕ} (x : BeatD w) (t : History w) → ends (beat.D x) t ≡ false
    → unfinished channel.D (beat.D x ∷ t) ≡ beat.D x ∷ unfinished channel.D t
burst_part x t more = (unfinished-d x t).4 ∙ rw more refl

answer-goes : {w : ℕ} (x : BeatD w) (e : Endpoint w) → ends (beat.D x) e.past ≡ false
    → (taken (beat.D x) e).answer ≡ Ok (Taken, None)
answer-goes x e more = rw more refl

granting-to : {w : ℕ} (k : ℕ) (x : BeatD w) (o : Option (BeatA w))
    → is_granting k (granting_to x (fields_of o)) ≡ asks_for k o
granting-to k x None = refl
granting-to k x (Some r) = refl

sink-to : {w : ℕ} (s : ℕ) (x : BeatD w) (o : Option (BeatA w)) → admits x.opcode o ≡ true
    → has_sink s (granting_to x (fields_of o)) ≡ (x.sink == s)
sink-to s x None is = absurd cc
sink-to s x (Some r) is = refl

granting-goes : {w : ℕ} (c : Caching w) (x : BeatD w) (e : Endpoint w) (k : ℕ) → KnowsCaching c e → IsFit x e.past
    → is_granting k (granting_by c x) ≡ grants k x e.past
granting-goes {w} c x e k knows fits = go (is_grant x.opcode) refl
  where
    go : (b : Bool) → is_grant x.opcode ≡ b → is_granting k (cond b (granting_to x (open_at c.requests x.source)) None)
        ≡ (b && asks_for k (request_of x.source e.past))
    go false is = refl
    go true is =
        ap (λ o. is_granting k (granting_to x o)) (knows.requests_are x.source) ∙ granting-to k x
        (open_beat x.source e.past)
        ∙ ap (asks_for k) (sym (named x e.past fits (not_release_ack x.opcode is)))

sink-goes : {w : ℕ} (c : Caching w) (x : BeatD w) (e : Endpoint w) (s : ℕ) → KnowsCaching c e → IsFit x e.past
    → has_sink s (granting_by c x) ≡ (is_grant x.opcode && (x.sink == s))
sink-goes {w} c x e s knows fits = go (is_grant x.opcode) refl
  where
    go : (b : Bool) → is_grant x.opcode ≡ b → has_sink s (cond b (granting_to x (open_at c.requests x.source)) None)
        ≡ (b && (x.sink == s))
    go false is = refl
    go true is = rw (knows.requests_are x.source)
        (sink-to s x (open_beat x.source e.past) (fits.answers (not_release_ack x.opcode is)))

follows-goes : {w : ℕ} (c d : Caching w) (x : BeatD w) (e : Endpoint w) (r : Verdict × Option (Message w))
    → KnowsCaching c e → IsFit x e.past → ends (beat.D x) e.past ≡ false → Goes c d x r
    → Follows c d (beat.D x) e
follows-goes c d x e r knows fits more goes =
    let burst = burst_part x e.past more in
    record {
      closed = goes.closed;
      terms = goes.terms;
      holdings = λ k. ap (λ t. held_in t k) goes.table ∙ knows.held_is k ∙ rw more refl;
      copies = λ k. ap (λ t. copy_in t k) goes.table ∙ knows.copies_are k ∙ rw more refl;
      waiting = λ k. ap (λ t. waiting_in t k) goes.table ∙ knows.waiting_are k ∙ rw more refl;
      requests = λ s. ap (λ o. open_at o s) goes.requests ∙ knows.requests_are s ∙ rw more refl;
      releases = λ s. ap (λ o. open_at o s) goes.releases ∙ knows.releases_are s ∙ rw more refl;
      response = goes.response ∙ ap (λ b. beat.D x ∷ b) knows.response_is ∙ sym burst;
      granting = λ k. ap (is_granting k) goes.granting ∙ granting-goes c x e k knows fits ∙ ap
          (λ b. comes_granting k b e.past) (sym burst);
      sink = λ s. ap (has_sink s) goes.granting ∙ sink-goes c x e s knows fits ∙ ap (comes_in_grant s) (sym burst);
    }

-- ---- the beat that completes it

burst_done : {w : ℕ} (x : BeatD w) (t : History w) → ends (beat.D x) t ≡ true → unfinished channel.D (beat.D x ∷ t) ≡ []
burst_done x t last = (unfinished-d x t).4 ∙ rw last refl

ended-answer : {w : ℕ} (opcode : OpD) (x : BeatD w) (f : Finish) (e : Endpoint w)
    → (ended opcode x f e).answer ≡ Ok (Done x.source f, ack_after opcode x.sink)
ended-answer d.AccessAck x f e = refl
ended-answer d.AccessAckData x f e = refl
ended-answer d.HintAck x f e = refl
ended-answer d.Grant x f e = refl
ended-answer d.GrantData x f e = refl
ended-answer d.ReleaseAck x f e = refl

address-fields : {w : ℕ} (o : Option (BeatA w)) → address_asked o ≡ address_in (fields_of o)
address-fields None = refl
address-fields (Some r) = refl

finish-known : (w : ℕ) (opcode : OpD) (param size : ℕ) (a b : ℕ) (payload : List ℕ)
    → (is_release_ack opcode ≡ false → a ≡ b)
    → finish_of w opcode param size a payload ≡ finish_of w opcode param size b payload
finish-known w d.AccessAck param size a b payload same = refl
finish-known w d.AccessAckData param size a b payload same = rw (same refl) refl
finish-known w d.HintAck param size a b payload same = refl
finish-known w d.Grant param size a b payload same = refl
finish-known w d.GrantData param size a b payload same = refl
finish-known w d.ReleaseAck param size a b payload same = refl

abbrev done_by : {w : ℕ} → Caching w → BeatD w → Finish
done_by {w} c x = finish_of w x.opcode x.param x.size (address_in (open_at c.requests x.source))
    (payload_of (beat.D x ∷ c.responses))

answer-ends : {w : ℕ} (c : Caching w) (x : BeatD w) (e : Endpoint w) → KnowsCaching c e → IsFit x e.past
    → ends (beat.D x) e.past ≡ true
    → (taken (beat.D x) e).answer ≡ Ok (Done x.source (done_by c x), ack_after x.opcode x.sink)
answer-ends {w} c x e knows fits last =
    let finish : finish_of w x.opcode x.param x.size (address_asked (request_of x.source e.past))
    (payload_of (beat.D x ∷ unfinished channel.D e.past)) ≡ done_by c x =
    finish-known w x.opcode x.param x.size _ _ _
    (λ answer. ap address_asked (named x e.past fits answer) ∙ address-fields (open_beat x.source e.past)
    ∙ ap address_in (sym (knows.requests_are x.source)))
    ∙ ap (λ b. finish_of w x.opcode x.param x.size (address_in (open_at c.requests x.source))
    (payload_of (beat.D x ∷ b))) (sym knows.response_is) in
    rw last (ended-answer x.opcode x _ _ ∙ rw finish refl)

for-fields : {w : ℕ} (k : ℕ) (o : Option (BeatA w)) → is_for k (fields_of o) ≡ asks_for k o
for-fields k None = refl
for-fields k (Some r) = swapped k (block_at r.address)

grants-known : {w : ℕ} (c : Caching w) (x : BeatD w) (e : Endpoint w) (k : ℕ) → KnowsCaching c e → IsFit x e.past
    → (is_grant x.opcode && is_for k (open_at c.requests x.source)) ≡ grants k x e.past
grants-known {w} c x e k knows fits = go (is_grant x.opcode) refl
  where
    go : (b : Bool) → is_grant x.opcode ≡ b
        → (b && is_for k (open_at c.requests x.source)) ≡ (b && asks_for k (request_of x.source e.past))
    go false is = refl
    go true is = ap (is_for k) (knows.requests_are x.source) ∙ for-fields k (open_beat x.source e.past) ∙ ap
        (asks_for k) (sym (named x e.past fits (not_release_ack x.opcode is)))

copy-known : {w : ℕ} (opcode : OpD) (o p : Option (BeatA w)) (payload : List ℕ) (k : ℕ) (e : Endpoint w)
    → (is_release_ack opcode ≡ false → o ≡ p)
    → copy_after opcode (fields_of p) payload k (e.copies k) (e.waiting k) ≡ copy_granted opcode o payload k e
copy-known d.AccessAck o p payload k e same = refl
copy-known d.AccessAckData o p payload k e same = refl
copy-known d.HintAck o p payload k e same = refl
copy-known d.ReleaseAck o p payload k e same = refl
copy-known d.Grant o None payload k e same = rw (same refl) refl
copy-known d.Grant o (Some r) payload k e same = rw (same refl) refl
copy-known d.GrantData o None payload k e same = rw (same refl) refl
copy-known d.GrantData o (Some r) payload k e same = rw (same refl) refl

waiting-known : {w : ℕ} (opcode : OpD) (o p : Option (BeatA w)) (k : ℕ) (waiting : Option (List ℕ))
    → (is_release_ack opcode ≡ false → o ≡ p)
    → waiting_after opcode (fields_of p) k waiting ≡ waiting_granted opcode o k waiting
waiting-known d.AccessAck o p k waiting same = refl
waiting-known d.AccessAckData o p k waiting same = refl
waiting-known d.HintAck o p k waiting same = refl
waiting-known d.ReleaseAck o p k waiting same = refl
waiting-known d.Grant o None k waiting same = rw (same refl) refl
waiting-known d.Grant o (Some r) k waiting same = rw (same refl) refl
waiting-known d.GrantData o None k waiting same = refl
waiting-known d.GrantData o (Some r) k waiting same = refl

closed-request : {w : ℕ} (b : Bool) (o : Option (BeatA w)) → cond b None (fields_of o) ≡ fields_of (cond b None o)
closed-request true o = refl
closed-request false o = refl

closed-release : {w : ℕ} (b : Bool) (o : Option (BeatC w))
    → cond b None (release_fields o) ≡ release_fields (cond b None o)
closed-release true o = refl
closed-release false o = refl

follows-ends : {w : ℕ} (c d : Caching w) (x : BeatD w) (e : Endpoint w) (r : Verdict × Option (Message w))
    → KnowsCaching c e → IsFit x e.past → ends (beat.D x) e.past ≡ true → Ends c d x r
    → Follows c d (beat.D x) e
follows-ends c d x e r knows fits last done =
    let burst = burst_done x e.past last in
    record {
      closed = done.finishes.closed;
      terms = done.finishes.terms;
      holdings = λ k. done.finishes.holdings k ∙ rw (grants-known c x e k knows fits, knows.held_is k, last) refl;
      copies = λ k. done.finishes.copies k ∙ rw (
        knows.requests_are x.source,
        knows.copies_are k,
        knows.waiting_are k,
        knows.response_is,
        last,
      )
          (copy-known x.opcode (request_of x.source e.past) (open_beat x.source e.past) _ k e (named x e.past fits));
      waiting = λ k. done.finishes.waiting k ∙ rw (knows.requests_are x.source, knows.waiting_are k, last)
          (waiting-known x.opcode (request_of x.source e.past) (open_beat x.source e.past) k (e.waiting k)
          (named x e.past fits));
      requests = λ s. done.finishes.requests s ∙ rw (knows.requests_are s, last)
          (closed-request _ (open_beat s e.past));
      releases = λ s. done.finishes.releases s ∙ rw (knows.releases_are s, last)
          (closed-release _ (open_release s e.past));
      response = done.response ∙ sym burst;
      granting = λ k. ap (is_granting k) done.granting ∙ ap (λ b. comes_granting k b e.past) (sym burst);
      sink = λ s. ap (has_sink s) done.granting ∙ ap (comes_in_grant s) (sym burst);
    }

below : (blocks k : ℕ) → not (nat_le blocks k) ≡ true → k < blocks
below blocks k is = grind (arith, nat_tests)

-- a Grant answers an Acquire, which is for a block of the map
pub grants_inside : {w : ℕ} (c : Caching w) (x : BeatD w) (e : Endpoint w) → KnowsCaching c e
    → broken_in_order c.profile (beat.D x) e.past ≡ None → GrantsInside c (in_beats x c.responses)
grants_inside {w} c x e knows order =
    λ g. rw (knows.requests_are x.source)
    (go (open_beat x.source e.past) refl ((good_beat c.profile e x knows.kept order).good g).answers_acquire)
  where
    go : (o : Option (BeatA w)) → open_beat x.source e.past ≡ o → is_acquire_beat o ≡ true
        → IfSome (fields_of o) (λ r. block_at r.address < c.blocks)
    go None is acquire = absurd cc
    go (Some r) is acquire =
        let own : acquires (block_at r.address) (open_beat x.source e.past) ≡ true =
        rw (is, acquire) (eq-eqb (block_at r.address) (block_at r.address) refl) in
        below c.blocks (block_at r.address)
        (and_parts _ _ (knows.inside.acquires_inside x.source (block_at r.address) own)).1

-- ---- any beat of it

pub knows-goes : {w : ℕ} (c d : Caching w) (ch : Channel) (x : BeatD w) (e : Endpoint w)
    (r : Verdict × Option (Message w)) → KnowsCaching c e → IsFit x e.past → ends (beat.D x) e.past ≡ false
    → Goes c d x r → offered (caching_terms c) ch (beat.D x) e ≡ taken (beat.D x) e
    → ((offered (caching_terms c) ch (beat.D x) e).answer ≡ Ok r)
    × KnowsCaching d (offered (caching_terms c) ch (beat.D x) e).after
knows-goes c d ch x e r knows fits more goes is =
    let answer = ap (λ o. o.answer) is ∙ answer-goes x e more in (
      answer ∙ rw (goes.answer) refl,
      knows-after c d ch (beat.D x) e _ knows answer (taking None (beat.D x))
          (follows-goes c d x e r knows fits more goes),
    )

pub knows-ends : {w : ℕ} (c d : Caching w) (ch : Channel) (x : BeatD w) (e : Endpoint w)
    (r : Verdict × Option (Message w)) → KnowsCaching c e → IsFit x e.past → ends (beat.D x) e.past ≡ true
    → Ends c d x r → offered (caching_terms c) ch (beat.D x) e ≡ taken (beat.D x) e
    → ((offered (caching_terms c) ch (beat.D x) e).answer ≡ Ok r)
    × KnowsCaching d (offered (caching_terms c) ch (beat.D x) e).after
knows-ends c d ch x e r knows fits last done is =
    let answer = ap (λ o. o.answer) is ∙ answer-ends c x e knows fits last in (
      answer ∙ rw (done.finishes.answer) refl,
      knows-after c d ch (beat.D x) e _ knows answer
          (finishing x.source (done_by c x) (ack_after x.opcode x.sink) (beat.D x))
          (follows-ends c d x e r knows fits last done),
    )
