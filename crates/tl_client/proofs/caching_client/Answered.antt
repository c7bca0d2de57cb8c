-- What a caching client answers to an operation is what its end of the link says.
use Rattle.tl_client.proofs.Imports.{BeatA, BeatC, first_if, Message, MessageA, History, RequestSource, ReleaseSource}
use Rattle.tl_client.proofs.Imports.{Perm, Prune, block_at, pending, request_of, release_of, same_perm, Busy, B1, B2}
use Rattle.tl_client.proofs.Imports.{B3, B4, B5, Caching, Op, Load, Store, Acquire, AcquireWhole, Release, Access}
use Rattle.tl_client.proofs.Imports.{Reply, asked, busy, breaks_b1, op_block, done, only, least_free, free_request}
use Rattle.tl_client.proofs.Imports.{free_release, source_or_0, whole_grow, load, store, EndConfig, Endpoint, copy_at}
use Rattle.tl_client.proofs.Imports.{held_at, zeros, holds, KnowsCaching}
use Rattle.tl_client.proofs.Imports.{caching_terms, open_beat, open_release, fields_of}
use Rattle.tl_client.proofs.Imports.{release_fields, start_with, access, acquisition, release, held_in}
use Rattle.std.proofs.Common.{◌≡◌, ℕ, zero, suc, ◌+◌, Bool, true, false, cond, List, Option, Some, None, refl, sym, ◌∙◌}
use Rattle.std.proofs.Common.{ap}
use Rattle.std.specs.Prelude.{is_some, is_none, unwrap_or}
use Rattle.tl_beat.specs.declared.opcode.OpA.TheVariants as a
use Rattle.tl_burst.specs.declared.message.Message.TheVariants as message
use Rattle.tl_params.specs.declared.perm.Perm.TheVariants as perm
use Rattle.tl_rules.proofs.Named.{request-there, release-there}
use Rattle.tl_client.specs.declared.reply.Reply.TheVariants as reply
use Rattle.tl_client.specs.statement.Ask.{loaded}
use Rattle.tl_client.specs.code.Caching.{busy_by, busy_in, answer_by, free_in, release_with, bytes_in}
use Rattle.tl_client.proofs.pending.Claims.{acquiring, releasing}

-- ---- why an operation isn't started

abbrev pub busy_or : Option Busy → Option Busy → Option Busy
busy_or (Some b) rest = Some b
busy_or None rest = rest

four : (p q r s : Bool) (rest : Option Busy) → first_if p B4 (first_if q B5 (first_if r B2 (first_if s B3 rest)))
    ≡ busy_or (first_if p B4 (first_if q B5 (first_if r B2 (first_if s B3 None)))) rest
four true q r s rest = refl
four false true r s rest = refl
four false false true s rest = refl
four false false false true rest = refl
four false false false false rest = refl

pub busy-known : {w : ℕ} (c : Caching w) (op : Op w) (e : Endpoint w) → KnowsCaching c e
    → busy (caching_terms c) op e ≡ busy_or (busy_by c op) (first_if (breaks_b1 (caching_terms c) op e.past) B1 None)
unfolding busy
busy-known c op e knows =
    rw (← acquiring c e (op_block op) knows, ← releasing c e (op_block op) knows, ← knows.held_is (op_block op))
    (four _ _ _ _ (first_if (breaks_b1 (caching_terms c) op e.past) B1 None))

pub asked-busy : {w : ℕ} (c : Caching w) (op : Op w) (e : Endpoint w) (b : Busy) → KnowsCaching c e
    → Some b ≡ busy_by c op → asked (caching_terms c) op e ≡ only (reply.Busy b) e
unfolding asked
asked-busy c op e b knows is =
    let because : busy (caching_terms c) op e ≡ Some b = rw (busy-known c op e knows, ← is) refl in
    rw because refl

busy-free : {w : ℕ} (c : Caching w) (op : Op w) (e : Endpoint w) → KnowsCaching c e → busy_by c op ≡ None
    → busy (caching_terms c) op e ≡ first_if (breaks_b1 (caching_terms c) op e.past) B1 None
busy-free c op e knows is = rw (busy-known c op e knows, is) refl

-- ---- the source that is free

least_free-same : (f g : ℕ → Bool) (s n : ℕ) → ((k : ℕ) → f k ≡ g k) → least_free f s n ≡ least_free g s n
unfolding least_free
least_free-same f g s zero same = refl
least_free-same f g s (suc n) same = rw (same s, least_free-same f g (s + 1) n same) refl

pub is_some-request : {w : ℕ} (s : ℕ) (t : History w) → is_some (fields_of (open_beat s t)) ≡ pending (RequestSource s)
    t
is_some-request {w} s t = go (pending (RequestSource s) t) (request_of s t) (request-there s t)
  where
    go : (b : Bool) (o : Option (BeatA w)) → (b ≡ true → is_some o ≡ true) → is_some (fields_of (cond b o None)) ≡ b
    go false o some = refl
    go true None some = some refl
    go true (Some x) some = refl

pub is_some-release : {w : ℕ} (s : ℕ) (t : History w) → is_some (release_fields (open_release s t)) ≡ pending
    (ReleaseSource s) t
is_some-release {w} s t = go (pending (ReleaseSource s) t) (release_of s t) (release-there s t)
  where
    go : (b : Bool) (o : Option (BeatC w)) → (b ≡ true → is_some o ≡ true)
        → is_some (release_fields (cond b o None)) ≡ b
    go false o some = refl
    go true None some = some refl
    go true (Some x) some = refl

free_request-known : {w : ℕ} (c : Caching w) (e : Endpoint w) → KnowsCaching c e
    → free_request (caching_terms c) e.past ≡ free_in c.requests c.config.sources
free_request-known c e knows =
    least_free-same _ _ 0 c.config.sources (λ s. sym (ap is_some (knows.requests_are s) ∙ is_some-request s e.past))

free_release-known : {w : ℕ} (c : Caching w) (e : Endpoint w) → KnowsCaching c e
    → free_release (caching_terms c) e.past ≡ free_in c.releases c.config.sources
free_release-known c e knows =
    least_free-same _ _ 0 c.config.sources (λ s. sym (ap is_some (knows.releases_are s) ∙ is_some-release s e.past))

-- ---- the answer

pub record IsAnswered {w : ℕ} (terms : EndConfig) (op : Op w) (e : Endpoint w) (r : Reply × Option (Message w)) : Type 0
  where
    pub busy_is : busy terms op e ≡ busy_in r.0
    pub reply_is : (asked terms op e).reply ≡ r.0
    pub message_is : (asked terms op e).message ≡ r.1

answered_busy : {w : ℕ} (terms : EndConfig) (op : Op w) (e : Endpoint w) (b : Busy) → busy terms op e ≡ Some b
    → IsAnswered terms op e (reply.Busy b, None)
unfolding asked
answered_busy terms op e b is = record { busy_is = is; reply_is = rw is refl; message_is = rw is refl }

answered_done : {w : ℕ} (terms : EndConfig) (op : Op w) (e : Endpoint w) (r : Reply × Option (Message w))
    → busy terms op e ≡ None → busy_in r.0 ≡ None → (done terms op e).reply ≡ r.0
    → (done terms op e).message ≡ r.1 → IsAnswered terms op e r
unfolding asked
answered_done terms op e r free started replies messages =
    record { busy_is = free ∙ sym started; reply_is = rw free replies; message_is = rw free messages }

answered_request : {w : ℕ} (terms : EndConfig) (op : Op w) (e : Endpoint w) (m : MessageA w) (free : Option ℕ)
    → busy terms op e ≡ first_if (is_none free) B1 None
    → (done terms op e).reply ≡ reply.Started (source_or_0 free)
    → (done terms op e).message ≡ Some (access (source_or_0 free) m) → IsAnswered terms op e (start_with free m)
answered_request terms op e m None because replies messages = answered_busy terms op e B1 because
answered_request terms op e m (Some s) because replies messages =
    answered_done terms op e _ because refl replies messages

answered_release : {w : ℕ} (terms : EndConfig) (op : Op w) (e : Endpoint w) (prune : Prune) (block : ℕ) (copy : List ℕ)
    (free : Option ℕ) → busy terms op e ≡ first_if (is_none free) B1 None
    → (done terms op e).reply ≡ reply.Started (source_or_0 free)
    → (done terms op e).message ≡ Some (release prune (source_or_0 free) block copy)
    → IsAnswered terms op e (release_with free prune block copy)
answered_release terms op e prune block copy None because replies messages = answered_busy terms op e B1 because
answered_release terms op e prune block copy (Some s) because replies messages =
    answered_done terms op e _ because refl replies messages

load_answer : {w : ℕ} (address size : ℕ) (p : Perm) (e : Endpoint w) (bytes : List ℕ)
    → copy_at e (block_at address) ≡ bytes
    → ((load address size p e).reply ≡ cond (holds p) (reply.Value (loaded address size bytes)) reply.Miss)
    × ((load address size p e).message ≡ None)
    × (busy_in (cond (holds p) (reply.Value (loaded address size bytes)) reply.Miss) ≡ None)
load_answer address size perm.None e bytes is = (refl, refl, refl)
load_answer address size perm.Branch e bytes is = (rw is refl, refl, refl)
load_answer address size perm.Trunk e bytes is = (rw is refl, refl, refl)

store_answer : {w : ℕ} (address size value : ℕ) (p : Perm) (e : Endpoint w)
    → ((store address size value p e).reply ≡ cond (same_perm perm.Trunk p) reply.Stored reply.Miss)
    × ((store address size value p e).message ≡ None)
    × (busy_in (cond (same_perm perm.Trunk p) reply.Stored reply.Miss) ≡ None)
store_answer address size value perm.None e = (refl, refl, refl)
store_answer address size value perm.Branch e = (refl, refl, refl)
store_answer address size value perm.Trunk e = (refl, refl, refl)

pub copy-known : {w : ℕ} (c : Caching w) (e : Endpoint w) (k : ℕ) → KnowsCaching c e → copy_at e k ≡ bytes_in c k
copy-known c e k knows = ap (λ o. unwrap_or o zeros) (sym (knows.copies_are k))

pub answered : {w : ℕ} (c : Caching w) (op : Op w) (e : Endpoint w) → KnowsCaching c e → busy_by c op ≡ None
    → IsAnswered (caching_terms c) op e (answer_by c op)
answered c (Load address size) e knows free =
    let replies = load_answer address size (held_at e (block_at address)) e (bytes_in c (block_at address))
    (copy-known c e (block_at address) knows) in
    rw (knows.held_is (block_at address)) (answered_done (caching_terms c) (Load address size) e _
    (busy-free c (Load address size) e knows free) replies.2 replies.0 replies.1)
answered c (Store address size value) e knows free =
    let replies = store_answer address size value (held_at e (block_at address)) e in
    rw (knows.held_is (block_at address)) (answered_done (caching_terms c) (Store address size value) e _
    (busy-free c (Store address size value) e knows free) replies.2 replies.0 replies.1)
answered c (Acquire block grow) e knows free =
    let source = free_request-known c e knows in
    answered_request (caching_terms c) (Acquire block grow) e (acquisition a.AcquireBlock grow 0 block)
    (free_in c.requests c.config.sources)
    (rw source at (busy-free c (Acquire block grow) e knows free)) (rw source refl) (rw source refl)
answered c (AcquireWhole block bytes) e knows free =
    let source = free_request-known c e knows in
    answered_request (caching_terms c) (AcquireWhole block bytes) e
    (acquisition a.AcquirePerm (whole_grow (held_in c.table block)) 0 block)
    (free_in c.requests c.config.sources) (rw source at (busy-free c (AcquireWhole block bytes) e knows free))
    (rw source refl)
    (rw (source, knows.held_is block) refl)
answered c (Release block prune) e knows free =
    let source = free_release-known c e knows in
    answered_release (caching_terms c) (Release block prune) e prune block (bytes_in c block)
    (free_in c.releases c.config.sources)
    (rw source at (busy-free c (Release block prune) e knows free)) (rw source refl)
    (rw (source, copy-known c e block knows) refl)
answered c (Access (message.A m)) e knows free =
    let source = free_request-known c e knows in
    answered_request (caching_terms c) (Access (message.A m)) e m (free_in c.requests c.config.sources)
    (rw source at (busy-free c (Access (message.A m)) e knows free)) (rw source refl) (rw source refl)
answered c (Access (message.B m)) e knows free = absurd cc
answered c (Access (message.C m)) e knows free = absurd cc
answered c (Access (message.D m)) e knows free = absurd cc
answered c (Access (message.E m)) e knows free = absurd cc
