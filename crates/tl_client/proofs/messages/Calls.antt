-- Messages and replies, and answers that change nothing.
use Rattle.tl_client.proofs.Imports.{Beat, BeatD, Channel, Message, A, B, C, D, E, History, RequestSource}
use Rattle.tl_client.proofs.Imports.{ReleaseSource, Perm, Rule, same_perm, block_at, ends, pending, held, Busy, Op}
use Rattle.tl_client.proofs.Imports.{Load, Store, Acquire, AcquireWhole, Release, Access, Stalled, Taken, is_refused}
use Rattle.tl_client.proofs.Imports.{asked, asked_given, busy, done, load, store, free_request, free_release}
use Rattle.tl_client.proofs.Imports.{source_or_0, EndConfig, Endpoint, copy_at, held_at, with_past, holds, Offered}
use Rattle.tl_client.proofs.Imports.{offered, taken, stalls, silent, broken_before}
use Rattle.std.proofs.Common.{◌≡◌, ℕ, Bool, true, false, cond, ◌∷◌, Option, Some, None, Ok, Err, refl, ◌∙◌, ap}
use Rattle.std.specs.Prelude.{is_none}
use Rattle.tl_beat.specs.declared.beat.Beat.TheVariants as beat
use Rattle.tl_params.specs.declared.perm.Perm.TheVariants as perm
use Rattle.tl_rules.proofs.Open.{never}
use Rattle.tl_client.specs.declared.reply.Reply.TheVariants as reply
use Rattle.tl_client.specs.laws.After.{IsStarted}
use Rattle.tl_client.specs.statement.Ask.{loaded}
use Rattle.tl_client.specs.statement.Endpoint.{shut}
use Rattle.tl_client.proofs.endpoint.Cases.{NotBusy, asked-cases, offered-cases, ended-cases, release-cases}
use Rattle.tl_client.proofs.pending.Free.{least_free-some}
use Rattle.tl_client.proofs.endpoint.Stalls.{taken_now}

-- ---- what starts

started_load : {w : ℕ} (address size : ℕ) (p : Perm) (e : Endpoint w) (t : History w)
    → IsStarted (load address size p e).reply (load address size p e).message t
started_load address size perm.None e t = tt
started_load address size perm.Branch e t = tt
started_load address size perm.Trunk e t = tt

started_store : {w : ℕ} (address size value : ℕ) (p : Perm) (e : Endpoint w) (t : History w)
    → IsStarted (store address size value p e).reply (store address size value p e).message t
started_store address size value perm.None e t = tt
started_store address size value perm.Branch e t = tt
started_store address size value perm.Trunk e t = tt

pub free_source : {w : ℕ} (terms : EndConfig) (t : History w) → is_none (free_request terms t) ≡ false
    → pending (RequestSource (source_or_0 (free_request terms t))) t ≡ false
free_source terms t one = (least_free-some (λ s. pending (RequestSource s) t) 0 terms.sources one).0

started_done : {w : ℕ} (terms : EndConfig) (op : Op w) (e : Endpoint w) → NotBusy terms op e
    → IsStarted (done terms op e).reply (done terms op e).message e.past
started_done terms (Load address size) e free = started_load address size (held_at e (block_at address)) e e.past
started_done terms (Store address size value) e free = started_store address size value (held_at e (block_at address)) e
    e.past
started_done terms (Acquire block grow) e free = (refl, free_source terms e.past free.b1)
started_done terms (AcquireWhole block bytes) e free = (refl, free_source terms e.past free.b1)
started_done terms (Release block prune) e free =
    let s = source_or_0 (free_release terms e.past) in
    let unused = (least_free-some (λ s. pending (ReleaseSource s) e.past) 0 terms.sources free.b1).0 in
    release-cases prune s block (copy_at e block) (λ m. IsStarted (reply.Started s) (Some m) e.past) (refl, unused)
    (refl, unused)
started_done terms (Access (A m)) e free = (refl, free_source terms e.past free.b1)
started_done terms (Access (B m)) e free = tt
started_done terms (Access (C m)) e free = tt
started_done terms (Access (D m)) e free = tt
started_done terms (Access (E m)) e free = tt

pub started-asked : {w : ℕ} (terms : EndConfig) (op : Op w) (e : Endpoint w)
    → IsStarted (asked terms op e).reply (asked terms op e).message e.past
started-asked terms op e = asked-cases terms op e (λ o. IsStarted o.reply o.message e.past) (λ b. tt)
    (λ free. started_done terms op e free)

-- ---- what changes nothing

same_load : {w : ℕ} (address size : ℕ) (p : Perm) (e : Endpoint w) → (load address size p e).after ≡ e
same_load address size perm.None e = refl
same_load address size perm.Branch e = refl
same_load address size perm.Trunk e = refl

pub load-asked : {w : ℕ} (terms : EndConfig) (address size : ℕ) (e : Endpoint w)
    → (asked terms (Load address size) e).after ≡ e
load-asked terms address size e = asked-cases terms (Load address size) e (λ o. o.after ≡ e) (λ b. refl)
    (λ free. same_load address size (held_at e (block_at address)) e)

busy_store : {w : ℕ} (address size value : ℕ) (p : Perm) (e : Endpoint w) (b : Busy)
    → (store address size value p e).reply ≡ reply.Busy b → (store address size value p e).after ≡ e
busy_store address size value perm.None e b is = refl
busy_store address size value perm.Branch e b is = refl
busy_store address size value perm.Trunk e b is = absurd cc

busy_done : {w : ℕ} (terms : EndConfig) (op : Op w) (e : Endpoint w) (b : Busy) → (done terms op e).reply ≡ reply.Busy b
    → (done terms op e).after ≡ e
busy_done terms (Load address size) e b is = same_load address size (held_at e (block_at address)) e
busy_done terms (Store address size value) e b is = busy_store address size value (held_at e (block_at address)) e b is
busy_done terms (Acquire block grow) e b is = absurd cc
busy_done terms (AcquireWhole block bytes) e b is = absurd cc
busy_done terms (Release block prune) e b is = absurd cc
busy_done terms (Access (A m)) e b is = absurd cc
busy_done terms (Access (B m)) e b is = refl
busy_done terms (Access (C m)) e b is = refl
busy_done terms (Access (D m)) e b is = refl
busy_done terms (Access (E m)) e b is = refl

pub busy-asked : {w : ℕ} (terms : EndConfig) (op : Op w) (e : Endpoint w) (b : Busy)
    → (asked terms op e).reply ≡ reply.Busy b → (asked terms op e).after ≡ e
busy-asked terms op e b = asked-cases terms op e (λ o. o.reply ≡ reply.Busy b → o.after ≡ e) (λ c is. refl)
    (λ free is. busy_done terms op e b is)

miss_store : {w : ℕ} (address size value : ℕ) (p : Perm) (e : Endpoint w)
    → (store address size value p e).reply ≡ reply.Miss → (store address size value p e).after ≡ e
miss_store address size value perm.None e is = refl
miss_store address size value perm.Branch e is = refl
miss_store address size value perm.Trunk e is = absurd cc

miss_done : {w : ℕ} (terms : EndConfig) (op : Op w) (e : Endpoint w) → (done terms op e).reply ≡ reply.Miss
    → (done terms op e).after ≡ e
miss_done terms (Load address size) e is = same_load address size (held_at e (block_at address)) e
miss_done terms (Store address size value) e is = miss_store address size value (held_at e (block_at address)) e is
miss_done terms (Acquire block grow) e is = absurd cc
miss_done terms (AcquireWhole block bytes) e is = absurd cc
miss_done terms (Release block prune) e is = absurd cc
miss_done terms (Access (A m)) e is = absurd cc
miss_done terms (Access (B m)) e is = absurd cc
miss_done terms (Access (C m)) e is = absurd cc
miss_done terms (Access (D m)) e is = absurd cc
miss_done terms (Access (E m)) e is = absurd cc

pub miss-asked : {w : ℕ} (terms : EndConfig) (op : Op w) (e : Endpoint w) → (asked terms op e).reply ≡ reply.Miss
    → (asked terms op e).after ≡ e
miss-asked terms op e = asked-cases terms op e (λ o. o.reply ≡ reply.Miss → o.after ≡ e) (λ b is. refl)
    (λ free is. miss_done terms op e is)

pub kept_up : {w : ℕ} (x : Beat w) (e : Endpoint w) → is_refused (taken x e).answer ≡ false
kept_up (beat.A x) e = refl
kept_up (beat.B x) e = refl
kept_up (beat.C x) e = refl
kept_up (beat.E x) e = refl
kept_up {w} (beat.D x) e =
    go (ends (beat.D x) e.past) _ (ended-cases x.opcode x _ _ (λ o. is_refused o.answer ≡ false) (λ grant. refl)
    (λ other. refl))
  where
    go : (b : Bool) (o : Offered w) → is_refused o.answer ≡ false
        → is_refused (cond b o (silent Taken (with_past (beat.D x ∷ e.past) e))).answer ≡ false
    go true o up = up
    go false o up = refl

pub refusal-offered : {w : ℕ} (terms : EndConfig) (ch : Channel) (x : Beat w) (e : Endpoint w) (r : Rule)
    → (offered terms ch x e).answer ≡ Err r → (offered terms ch x e).after ≡ shut e
refusal-offered {w} terms ch x e r =
    offered-cases terms ch x e (λ o. o.answer ≡ Err r → o.after ≡ shut e) (λ s is. refl) (λ is. absurd cc)
    (λ passed is. absurd (let bad : true ≡ false = rw is at (kept_up x e) in cc))

pub stall-offered : {w : ℕ} (terms : EndConfig) (ch : Channel) (x : Beat w) (e : Endpoint w) (m : Option (Message w))
    → (offered terms ch x e).answer ≡ Ok (Stalled, m) → (offered terms ch x e).after ≡ e
stall-offered {w} terms ch x e m =
    offered-cases terms ch x e (λ o. o.answer ≡ Ok (Stalled, m) → o.after ≡ e) (λ s is. absurd cc) (λ is. refl)
    (λ passed is. absurd (let bad : true ≡ false = rw is at (taken_now x e) in cc))

pub never_stalls_d : {w : ℕ} (terms : EndConfig) (ch : Channel) (x : BeatD w) (e : Endpoint w)
    → stalls terms ch (beat.D x) e ≡ false
unfolding stalls
never_stalls_d terms ch x e = never (is_none (broken_before terms ch (beat.D x) e))

-- ---- Loads and Stores

load_is : {w : ℕ} (address size : ℕ) (p : Perm) (e : Endpoint w)
    → (load address size p e).reply ≡ cond (holds p) (reply.Value (loaded address size (copy_at e (block_at address))))
    reply.Miss
load_is address size perm.None e = refl
load_is address size perm.Branch e = refl
load_is address size perm.Trunk e = refl

pub load-reply : {w : ℕ} (terms : EndConfig) (address size : ℕ) (e : Endpoint w)
    → busy terms (Load address size) e ≡ None
    → (asked terms (Load address size) e).reply ≡ cond (holds (held (block_at address) e.past))
    (reply.Value (loaded address size (copy_at e (block_at address)))) reply.Miss
unfolding asked
load-reply {w} terms address size e free = ap (λ o. (asked_given o terms (Load address size) e).reply) free ∙ load_is
    address size (held_at e (block_at address)) e

store_is : {w : ℕ} (address size value : ℕ) (p : Perm) (e : Endpoint w)
    → (store address size value p e).reply ≡ cond (same_perm perm.Trunk p) reply.Stored reply.Miss
store_is address size value perm.None e = refl
store_is address size value perm.Branch e = refl
store_is address size value perm.Trunk e = refl

pub store-reply : {w : ℕ} (terms : EndConfig) (address size value : ℕ) (e : Endpoint w)
    → busy terms (Store address size value) e ≡ None
    → (asked terms (Store address size value) e).reply ≡ cond (same_perm perm.Trunk (held (block_at address) e.past))
    reply.Stored reply.Miss
unfolding asked
store-reply {w} terms address size value e free = ap (λ o. (asked_given o terms (Store address size value) e).reply)
    free ∙ store_is address size value (held_at e (block_at address)) e
