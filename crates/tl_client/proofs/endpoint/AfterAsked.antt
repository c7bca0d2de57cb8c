-- A client's end after an operation, by what it was before.
use Rattle.tl_client.proofs.Imports.{Message, A, B, C, D, E, Perm, prune_right, sent_if_any, same_perm, block_at, held}
use Rattle.tl_client.proofs.Imports.{Busy, Op, Load, Store, Acquire, AcquireWhole, Release, Access, asked, asked_given}
use Rattle.tl_client.proofs.Imports.{busy, done, load, store, copy_stored, EndConfig, Endpoint, zeros, copy_at, held_at}
use Rattle.tl_client.proofs.Imports.{kept_for, holds}
use Rattle.std.proofs.Common.{◌≡◌, ℕ, Bool, true, false, not, cond, ◌&&◌, ◌⊎◌, Option, Some, None, unwrap_or, refl, sym}
use Rattle.std.proofs.Common.{ap, inl, inr}
use Rattle.std.specs.Prelude.{◌==◌}
use Rattle.std.proofs.lemmas.Bool.{cases_Bool, eqb-true}
use Rattle.tl_params.specs.declared.perm.Perm.TheVariants as perm
use Rattle.tl_client.specs.laws.After.{copy_left, waiting_left}
use Rattle.tl_client.proofs.endpoint.HeldAfter.{kept_past}
use Rattle.tl_client.proofs.pending.KeptAsked.{kept_waiting}

-- ---- what drops a copy

pub kept_closed : {w : ℕ} (block : ℕ) (p : Perm) (f : Endpoint w) → (kept_for block p f).closed ≡ f.closed
kept_closed block perm.None f = refl
kept_closed block perm.Branch f = refl
kept_closed block perm.Trunk f = refl

never : {X : Type 0} (b : Bool) (x y : X) → cond (b && false) x y ≡ y
never true x y = refl
never false x y = refl

always : {X : Type 0} (b : Bool) (x y : X) → cond (b && true) x y ≡ cond b x y
always true x y = refl
always false x y = refl

pub kept_copies : {w : ℕ} (block : ℕ) (p : Perm) (f : Endpoint w) (k : ℕ)
    → (kept_for block p f).copies k ≡ cond ((k == block) && not (holds p)) None (f.copies k)
kept_copies block perm.None f k = sym (always (k == block) None (f.copies k))
kept_copies block perm.Branch f k = sym (never (k == block) None (f.copies k))
kept_copies block perm.Trunk f k = sym (never (k == block) None (f.copies k))

-- ---- operations

-- what the end is, but for what is written and dropped
record IsAfter {w : ℕ} (message : Option (Message w)) (op : Op w) (e f : Endpoint w) : Type 0 where
  past_is : f.past ≡ sent_if_any message e.past
  closed_is : f.closed ≡ e.closed
  copies_are : (k : ℕ) → f.copies k ≡ copy_left None op k (held k e.past) (e.copies k)
  waiting_is : (k : ℕ) → f.waiting k ≡ waiting_left None op k (e.waiting k)

after_load : {w : ℕ} (address size : ℕ) (p : Perm) (e : Endpoint w)
    → IsAfter (load address size p e).message (Load address size) e (load address size p e).after
after_load address size perm.None e = record {
  past_is = refl;
  closed_is = refl;
  copies_are = λ k. refl;
  waiting_is =
      λ k. refl;
}
after_load address size perm.Branch e = record {
  past_is = refl;
  closed_is = refl;
  copies_are = λ k. refl;
  waiting_is =
      λ k. refl;
}
after_load address size perm.Trunk e = record {
  past_is = refl;
  closed_is = refl;
  copies_are = λ k. refl;
  waiting_is =
      λ k. refl;
}

unwritten : {w : ℕ} (address size value : ℕ) (p : Perm) (e : Endpoint w) (k : ℕ) → held (block_at address) e.past ≡ p
    → same_perm perm.Trunk p ≡ false
    → e.copies k ≡ copy_left {w = w} None (Store address size value) k (held k e.past) (e.copies k)
unwritten address size value p e k is low = go (cases_Bool (k == block_at address))
  where
    go : ((k == block_at address) ≡ true) ⊎ ((k == block_at address) ≡ false)
        → e.copies k ≡ cond ((k == block_at address) && same_perm perm.Trunk (held k e.past))
        (Some (copy_stored address size value (unwrap_or (e.copies k) zeros))) (e.copies k)
    go (inr other) = rw other refl
    go (inl here) = let there : same_perm perm.Trunk (held k e.past) ≡ false =
        rw (eqb-true k (block_at address) here, is) low in rw (here, there) refl

written : {w : ℕ} (address size value : ℕ) (e : Endpoint w) (k : ℕ) → held (block_at address) e.past ≡ perm.Trunk
    → cond (k == block_at address) (Some (copy_stored address size value (copy_at e (block_at address)))) (e.copies k)
    ≡ copy_left {w = w} None
    (Store address size value) k (held k e.past) (e.copies k)
written address size value e k is = go (cases_Bool (k == block_at address))
  where
    go : ((k == block_at address) ≡ true) ⊎ ((k == block_at address) ≡ false)
        → cond (k == block_at address) (Some (copy_stored address size value (copy_at e (block_at address))))
        (e.copies k) ≡ cond
        ((k == block_at address) && same_perm perm.Trunk (held k e.past))
        (Some (copy_stored address size value (unwrap_or (e.copies k) zeros)))
        (e.copies k)
    go (inr other) = rw other refl
    go (inl here) =
        let same : k ≡ block_at address = eqb-true k (block_at address) here in
        let there : same_perm perm.Trunk (held k e.past) ≡ true = rw (same, is) refl in
        rw (here, there) (ap (λ j. Some (copy_stored address size value (copy_at e j))) (sym same))

after_store : {w : ℕ} (address size value : ℕ) (p : Perm) (e : Endpoint w) → held (block_at address) e.past ≡ p
    → IsAfter (store address size value p e).message (Store address size value) e (store address size value p e).after
after_store address size value perm.None e is = record {
  past_is = refl;
  closed_is = refl;
  copies_are =
      λ k. unwritten address size value perm.None e k is refl;
  waiting_is = λ k. refl;
}
after_store address size value perm.Branch e is = record {
  past_is = refl;
  closed_is = refl;
  copies_are =
      λ k. unwritten address size value perm.Branch e k is refl;
  waiting_is = λ k. refl;
}
after_store address size value perm.Trunk e is = record {
  past_is = refl;
  closed_is = refl;
  copies_are =
      λ k. written address size value e k is;
  waiting_is = λ k. refl;
}

after_done : {w : ℕ} (terms : EndConfig) (op : Op w) (e : Endpoint w)
    → IsAfter (done terms op e).message op e (done terms op e).after
after_done terms (Load address size) e = after_load address size (held_at e (block_at address)) e
after_done terms (Store address size value) e = after_store address size value (held_at e (block_at address)) e refl
after_done terms (Acquire block grow) e = record {
  past_is = refl;
  closed_is = refl;
  copies_are =
      λ k. refl;
  waiting_is = λ k. refl;
}
after_done terms (AcquireWhole block bytes) e = record {
  past_is = refl;
  closed_is = refl;
  copies_are =
      λ k. refl;
  waiting_is = λ k. refl;
}
after_done terms (Release block prune) e = record {
  past_is = kept_past block (prune_right prune) _;
  closed_is = kept_closed block (prune_right prune) _;
  copies_are = λ k. kept_copies block (prune_right prune) _ k;
  waiting_is = λ k. kept_waiting block (prune_right prune) _ k;
}
after_done terms (Access (A m)) e = record {
  past_is = refl;
  closed_is = refl;
  copies_are = λ k. refl;
  waiting_is =
      λ k. refl;
}
after_done terms (Access (B m)) e = record {
  past_is = refl;
  closed_is = refl;
  copies_are = λ k. refl;
  waiting_is =
      λ k. refl;
}
after_done terms (Access (C m)) e = record {
  past_is = refl;
  closed_is = refl;
  copies_are = λ k. refl;
  waiting_is =
      λ k. refl;
}
after_done terms (Access (D m)) e = record {
  past_is = refl;
  closed_is = refl;
  copies_are = λ k. refl;
  waiting_is =
      λ k. refl;
}
after_done terms (Access (E m)) e = record {
  past_is = refl;
  closed_is = refl;
  copies_are = λ k. refl;
  waiting_is =
      λ k. refl;
}

past_given : {w : ℕ} (o : Option Busy) (terms : EndConfig) (op : Op w) (e : Endpoint w)
    → (asked_given o terms op e).after.past ≡ sent_if_any (asked_given o terms op e).message e.past
past_given (Some b) terms op e = refl
past_given None terms op e = (after_done terms op e).past_is

pub past-asked : {w : ℕ} (terms : EndConfig) (op : Op w) (e : Endpoint w)
    → (asked terms op e).after.past ≡ sent_if_any (asked terms op e).message e.past
unfolding asked
past-asked terms op e = past_given (busy terms op e) terms op e

closed_given : {w : ℕ} (o : Option Busy) (terms : EndConfig) (op : Op w) (e : Endpoint w)
    → (asked_given o terms op e).after.closed ≡ e.closed
closed_given (Some b) terms op e = refl
closed_given None terms op e = (after_done terms op e).closed_is

pub closed-asked : {w : ℕ} (terms : EndConfig) (op : Op w) (e : Endpoint w) → (asked terms op e).after.closed ≡ e.closed
unfolding asked
closed-asked terms op e = closed_given (busy terms op e) terms op e

copies_given : {w : ℕ} (o : Option Busy) (terms : EndConfig) (op : Op w) (e : Endpoint w) (k : ℕ)
    → (asked_given o terms op e).after.copies k ≡ copy_left o op k (held k e.past) (e.copies k)
copies_given (Some b) terms op e k = refl
copies_given None terms op e k = (after_done terms op e).copies_are k

pub copies-asked : {w : ℕ} (terms : EndConfig) (op : Op w) (e : Endpoint w) (k : ℕ)
    → (asked terms op e).after.copies k ≡ copy_left (busy terms op e) op k (held k e.past) (e.copies k)
unfolding asked
copies-asked terms op e k = copies_given (busy terms op e) terms op e k

waiting_given : {w : ℕ} (o : Option Busy) (terms : EndConfig) (op : Op w) (e : Endpoint w) (k : ℕ)
    → (asked_given o terms op e).after.waiting k ≡ waiting_left o op k (e.waiting k)
waiting_given (Some b) terms op e k = refl
waiting_given None terms op e k = (after_done terms op e).waiting_is k

pub waiting-asked : {w : ℕ} (terms : EndConfig) (op : Op w) (e : Endpoint w) (k : ℕ)
    → (asked terms op e).after.waiting k ≡ waiting_left (busy terms op e) op k (e.waiting k)
unfolding asked
waiting-asked terms op e k = waiting_given (busy terms op e) terms op e k
