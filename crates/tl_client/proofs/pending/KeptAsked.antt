-- What is kept as a client is asked for something.
use Rattle.tl_client.proofs.Imports.{IsWidth, OpA, A, B, C, D, E, MessageA, MessageC, sent, Level, RequestSource}
use Rattle.tl_client.proofs.Imports.{ReleaseSource, AcquireOf, ReleaseOf, Prune, Perm, same_perm, block_at, is_acquire}
use Rattle.tl_client.proofs.Imports.{pending, held, prune_left, prune_right, Busy, Op, Load, Store, Acquire}
use Rattle.tl_client.proofs.Imports.{AcquireWhole, Release, Access, asked, asked_given, busy, breaks_b1, breaks_b2}
use Rattle.tl_client.proofs.Imports.{breaks_b3, breaks_b4, op_block, is_access_of, done, load, store, free_request}
use Rattle.tl_client.proofs.Imports.{free_release, source_or_0, whole_grow, EndConfig, Endpoint, copy_at, held_at}
use Rattle.tl_client.proofs.Imports.{kept_for, sending, set_at, zeros, IsEndpointInvariant, holds, is_acquire_perm}
use Rattle.tl_client.proofs.Imports.{about, sourced, acquisition, release}
use Rattle.std.proofs.Common.{◌≡◌, ℕ, ◌<◌, ◌*◌, Bool, true, false, cond, ◌⊎◌, List, Option, Some, None, refl, sym, ◌∙◌}
use Rattle.std.proofs.Common.{ap, arith, inl, inr}
use Rattle.std.specs.Prelude.{◌==◌, is_some, is_none}
use Rattle.std.proofs.lemmas.Bool.{and_parts, or_parts, not-false, eqb-true, eq-eqb, cases_Bool, both_ways}
use Rattle.tl_beat.specs.declared.opcode.OpA.TheVariants as a
use Rattle.tl_beat.specs.declared.opcode.OpC.TheVariants as c
use Rattle.tl_params.specs.declared.param.Prune.TheVariants as prune
use Rattle.tl_params.specs.declared.perm.Perm.TheVariants as perm
use Rattle.tl_client.specs.declared.reply.Reply.TheVariants as reply
use Rattle.tl_client.specs.statement.Endpoint.{with_copy, with_waiting}
use Rattle.tl_client.proofs.endpoint.Cases.{NotBusy, not_busy}
use Rattle.tl_client.proofs.pending.Free.{least_free-some}
use Rattle.tl_client.proofs.endpoint.HeldAfter.{same_block, held-release, kept_past}
use Rattle.tl_client.proofs.pending.Kept.{kept-a, kept-c}

-- ---- copies

copy_set : {w : ℕ} (e : Endpoint w) (block k : ℕ) (bytes : List ℕ) → IsEndpointInvariant e
    → holds (held block e.past) ≡ true → is_some (set_at block (Some bytes) e.copies k) ≡ holds (held k e.past)
copy_set e block k bytes kept held_is = go (cases_Bool (k == block))
  where
    go : ((k == block) ≡ true) ⊎ ((k == block) ≡ false) → is_some (set_at block (Some bytes) e.copies k) ≡ holds
        (held k e.past)
    go (inl same) = rw (same, eqb-true k block same, held_is) refl
    go (inr other) = rw other (kept.copies_held k)

-- what falls to this permission loses its copy where that is None
pub copies_kept_for : {w : ℕ} (e f : Endpoint w) (block k : ℕ) (p : Perm) → IsEndpointInvariant e
    → ((j : ℕ) → f.copies j ≡ e.copies j) → (holds p ≡ true → holds (held block e.past) ≡ true)
    → is_some ((kept_for block p f).copies k) ≡ holds (cond (k == block) p (held k e.past))
copies_kept_for e f block k perm.None kept same falls = rw (same k) (go (k == block))
  where
    go : (b : Bool) → is_some (cond b None (e.copies k)) ≡ holds (cond b perm.None (held k e.past))
    go true = refl
    go false = kept.copies_held k
copies_kept_for e f block k perm.Branch kept same falls =
    rw (same k) (kept.copies_held k ∙ go (cases_Bool (k == block)))
  where
    go : ((k == block) ≡ true) ⊎ ((k == block) ≡ false)
        → holds (held k e.past) ≡ holds (cond (k == block) perm.Branch (held k e.past))
    go (inl at_block) = rw (at_block, eqb-true k block at_block) (falls refl)
    go (inr other) = rw other refl
copies_kept_for e f block k perm.Trunk kept same falls = rw (same k) (kept.copies_held k ∙ go (cases_Bool (k == block)))
  where
    go : ((k == block) ≡ true) ⊎ ((k == block) ≡ false)
        → holds (held k e.past) ≡ holds (cond (k == block) perm.Trunk (held k e.past))
    go (inl at_block) = rw (at_block, eqb-true k block at_block) (falls refl)
    go (inr other) = rw other refl

pub kept_waiting : {w : ℕ} (block : ℕ) (p : Perm) (f : Endpoint w) (k : ℕ)
    → (kept_for block p f).waiting k ≡ f.waiting k
kept_waiting block perm.None f k = refl
kept_waiting block perm.Branch f k = refl
kept_waiting block perm.Trunk f k = refl

-- ---- Load and Store

kept_load : {w : ℕ} (address size : ℕ) (p : Perm) (e : Endpoint w) → IsEndpointInvariant e
    → IsEndpointInvariant (load address size p e).after
kept_load address size perm.None e kept = kept
kept_load address size perm.Branch e kept = kept
kept_load address size perm.Trunk e kept = kept

stored_copy : {w : ℕ} (e : Endpoint w) (block : ℕ) (bytes : List ℕ) → IsEndpointInvariant e
    → held block e.past ≡ perm.Trunk → IsEndpointInvariant (with_copy block (Some bytes) e)
stored_copy e block bytes kept trunk = record {
  a_whole = kept.a_whole;
  b_whole = kept.b_whole;
  c_whole = kept.c_whole;
  e_whole = kept.e_whole;
  copies_held = λ k. copy_set e block k bytes kept (rw trunk refl);
  awaited = kept.awaited;
  once = kept.once;
  outstanding = kept.outstanding;
  granting = kept.granting;
}

kept_store : {w : ℕ} (address size value : ℕ) (p : Perm) (e : Endpoint w) → IsEndpointInvariant e
    → held (block_at address) e.past ≡ p → IsEndpointInvariant (store address size value p e).after
kept_store address size value perm.None e kept is = kept
kept_store address size value perm.Branch e kept is = kept
kept_store address size value perm.Trunk e kept is = stored_copy e (block_at address) _ kept is

-- ---- what starts

pub no_acquire : (l : Level) (opcode : OpA) → is_access_of l opcode ≡ true → (is_acquire opcode ≡ false)
    × (is_acquire_perm opcode ≡ false)
no_acquire l a.PutFullData e = (refl, refl)
no_acquire l a.PutPartialData e = (refl, refl)
no_acquire l a.ArithmeticData e = (refl, refl)
no_acquire l a.LogicalData e = (refl, refl)
no_acquire l a.Get e = (refl, refl)
no_acquire l a.Intent e = (refl, refl)
no_acquire l a.AcquireBlock e = absurd (let bad = (and_parts _ false e).1 in cc)
no_acquire l a.AcquirePerm e = absurd (let bad = (and_parts _ false e).1 in cc)

pub falls_to : (p : Prune) (q : Perm) → same_perm (prune_left p) q ≡ true → holds q ≡ true
falls_to prune.TtoB perm.None e = absurd cc
falls_to prune.TtoN perm.None e = absurd cc
falls_to prune.BtoN perm.None e = absurd cc
falls_to p perm.Branch e = refl
falls_to p perm.Trunk e = refl

pub release_is : {w : ℕ} (p : Prune) (source block : ℕ) (copy : List ℕ)
    → (m : MessageC w) × (release p source block copy ≡ C m)
release_is prune.TtoB source block copy = (about c.ReleaseData 0 source block copy, refl)
release_is prune.TtoN source block copy = (about c.ReleaseData 1 source block copy, refl)
release_is prune.BtoN source block copy = (about c.Release 2 source block zeros, refl)

kept_release : {w : ℕ} (e : Endpoint w) (p : Prune) (source block : ℕ) (copy : List ℕ) → IsWidth w
    → IsEndpointInvariant e → same_perm (prune_left p) (held block e.past) ≡ true
    → IsEndpointInvariant (kept_for block (prune_right p) (sending (release p source block copy) e))
kept_release e p source block copy is kept left =
    let m = release_is p source block copy in
    let f = sending (release p source block copy) e in
    kept-c e (kept_for block (prune_right p) f) m.0 is kept
    (kept_past block (prune_right p) f ∙ ap (λ n. sent n e.past) m.1)
    (kept_waiting block (prune_right p) f)
    (λ k. copies_kept_for e f block k (prune_right p) kept (λ j. refl) (λ falls. falls_to p (held block e.past) left)
    ∙ ap holds (sym (held-release k p source block copy e.past is kept.c_whole) ∙ ap (λ t. held k t)
    (sym (kept_past block (prune_right p) f))))

set_more : (block j : ℕ) (bytes : List ℕ) (blocks : ℕ → Option (List ℕ)) → is_some (blocks j) ≡ true
    → is_some (set_at block (Some bytes) blocks j) ≡ true
set_more block j bytes blocks some = go (j == block)
  where
    go : (b : Bool) → is_some (cond b (Some bytes) (blocks j)) ≡ true
    go true = refl
    go false = some

set_here : (block j : ℕ) (bytes : List ℕ) (blocks : ℕ → Option (List ℕ)) → j ≡ block
    → is_some (set_at block (Some bytes) blocks j) ≡ true
set_here block j bytes blocks e = rw (eq-eqb j block e) refl

kept_done : {w : ℕ} (terms : EndConfig) (op : Op w) (e : Endpoint w) → IsWidth w → IsEndpointInvariant e
    → breaks_b4 terms.level op ≡ false → breaks_b2 op e.past ≡ false
    → breaks_b3 op (held_at e (op_block op)) ≡ false → breaks_b1 terms op e.past ≡ false
    → IsEndpointInvariant (done terms op e).after
kept_done terms (Load address size) e is kept four two three one = kept_load address size (held_at e (block_at address))
    e kept
kept_done terms (Store address size value) e is kept four two three one =
    kept_store address size value (held_at e (block_at address)) e kept refl
kept_done {w} terms (Acquire block grow) e is kept four two three one =
    let idle = or_parts (pending (AcquireOf block) e.past) (pending (ReleaseOf block) e.past) two in
    let m : MessageA w = acquisition a.AcquireBlock grow (source_or_0 (free_request terms e.past)) block in
    kept-a e (sending (A m) e) m is kept
    (record {
      free = (least_free-some (λ s. pending (RequestSource s) e.past) 0 terms.sources one).0;
      alone =
          λ acquires. rw (same_block block) idle.0;
    })
    refl (λ k. refl) (λ k some. some) (λ whole. absurd (let no : false ≡ true = whole in cc))
kept_done {w} terms (AcquireWhole block bytes) e is kept four two three one =
    let idle = or_parts (pending (AcquireOf block) e.past) (pending (ReleaseOf block) e.past) two in
    let m : MessageA w = acquisition a.AcquirePerm (whole_grow (held_at e block))
    (source_or_0 (free_request terms e.past)) block in
    kept-a e (with_waiting block (Some bytes) (sending (A m) e)) m is kept
    (record {
      free = (least_free-some (λ s. pending (RequestSource s) e.past) 0 terms.sources one).0;
      alone =
          λ acquires. rw (same_block block) idle.0;
    })
    refl (λ k. refl) (λ k some. set_more block k bytes e.waiting some)
    (λ whole. set_here block (block_at (64 * block)) bytes e.waiting (same_block block))
kept_done terms (Release block prune) e is kept four two three one =
    kept_release e prune (source_or_0 (free_release terms e.past)) block (copy_at e block) is kept
    (not-false (same_perm (prune_left prune) (held_at e block)) three)
kept_done {w} terms (Access (A x)) e is kept four two three one =
    let plain = no_acquire terms.level x.opcode (not-false (is_access_of terms.level x.opcode) four) in
    let m : MessageA w = sourced (source_or_0 (free_request terms e.past)) x in
    kept-a e (sending (A m) e) m is kept
    (record {
      free = (least_free-some (λ s. pending (RequestSource s) e.past) 0 terms.sources one).0;
      alone =
          λ acquires. absurd (both_ways (is_acquire x.opcode) plain.0 acquires);
    })
    refl (λ k. refl) (λ k some. some) (λ whole. absurd (both_ways (is_acquire_perm x.opcode) plain.1 whole))
kept_done terms (Access (B m)) e is kept four two three one = kept
kept_done terms (Access (C m)) e is kept four two three one = kept
kept_done terms (Access (D m)) e is kept four two three one = kept
kept_done terms (Access (E m)) e is kept four two three one = kept

no_start : {w : ℕ} (address size : ℕ) (p : Perm) (e : Endpoint w) (s : ℕ)
    → (load address size p e).reply ≡ reply.Started s → ⊥
no_start address size perm.None e s is = absurd cc
no_start address size perm.Branch e s is = absurd cc
no_start address size perm.Trunk e s is = absurd cc

no_start_stored : {w : ℕ} (address size value : ℕ) (p : Perm) (e : Endpoint w) (s : ℕ)
    → (store address size value p e).reply ≡ reply.Started s → ⊥
no_start_stored address size value perm.None e s is = absurd cc
no_start_stored address size value perm.Branch e s is = absurd cc
no_start_stored address size value perm.Trunk e s is = absurd cc

request_below : {w : ℕ} (terms : EndConfig) (e : Endpoint w) (s : ℕ) → is_none (free_request terms e.past) ≡ false
    → reply.Started (source_or_0 (free_request terms e.past)) ≡ reply.Started s
    → s < terms.sources
request_below terms e s one is =
    let same : source_or_0 (free_request terms e.past) ≡ s = cc in
    let below = (least_free-some (λ k. pending (RequestSource k) e.past) 0 terms.sources one).1 in
    omega (arith, below, same)

release_below : {w : ℕ} (terms : EndConfig) (e : Endpoint w) (s : ℕ) → is_none (free_release terms e.past) ≡ false
    → reply.Started (source_or_0 (free_release terms e.past)) ≡ reply.Started s
    → s < terms.sources
release_below terms e s one is =
    let same : source_or_0 (free_release terms e.past) ≡ s = cc in
    let below = (least_free-some (λ k. pending (ReleaseSource k) e.past) 0 terms.sources one).1 in
    omega (arith, below, same)

-- the source of what starts
below_done : {w : ℕ} (terms : EndConfig) (op : Op w) (e : Endpoint w) (s : ℕ) → breaks_b1 terms op e.past ≡ false
    → (done terms op e).reply ≡ reply.Started s → s < terms.sources
below_done terms (Load address size) e s one is = absurd (no_start address size (held_at e (block_at address)) e s is)
below_done terms (Store address size value) e s one is =
    absurd (no_start_stored address size value (held_at e (block_at address)) e s is)
below_done terms (Acquire block grow) e s one is = request_below terms e s one is
below_done terms (AcquireWhole block bytes) e s one is = request_below terms e s one is
below_done terms (Release block prune) e s one is = release_below terms e s one is
below_done terms (Access (A m)) e s one is = request_below terms e s one is
below_done terms (Access (B m)) e s one is = absurd cc
below_done terms (Access (C m)) e s one is = absurd cc
below_done terms (Access (D m)) e s one is = absurd cc
below_done terms (Access (E m)) e s one is = absurd cc

below_given : {w : ℕ} (o : Option Busy) (terms : EndConfig) (op : Op w) (e : Endpoint w) (s : ℕ)
    → (o ≡ None → NotBusy terms op e) → (asked_given o terms op e).reply ≡ reply.Started s → s < terms.sources
below_given (Some b) terms op e s free is = absurd cc
below_given None terms op e s free is = below_done terms op e s (free refl).b1 is

-- the source of what starts is one of the client's
pub started-below : {w : ℕ} (terms : EndConfig) (op : Op w) (e : Endpoint w) (s : ℕ)
    → (asked terms op e).reply ≡ reply.Started s → s < terms.sources
unfolding asked
started-below terms op e s is = below_given (busy terms op e) terms op e s (not_busy terms op e) is

kept_given : {w : ℕ} (o : Option Busy) (terms : EndConfig) (op : Op w) (e : Endpoint w) → IsWidth w
    → IsEndpointInvariant e → (o ≡ None → NotBusy terms op e) → IsEndpointInvariant (asked_given o terms op e).after
kept_given (Some b) terms op e is kept free = kept
kept_given None terms op e is kept free = let n = free refl in kept_done terms op e is kept n.b4 n.b2 n.b3 n.b1

-- asking keeps what is kept
pub kept-asked : {w : ℕ} (terms : EndConfig) (op : Op w) (e : Endpoint w) → IsWidth w → IsEndpointInvariant e
    → IsEndpointInvariant (asked terms op e).after
unfolding asked
kept-asked terms op e is kept = kept_given (busy terms op e) terms op e is kept (not_busy terms op e)
