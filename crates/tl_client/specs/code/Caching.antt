-- How a caching client changes its state.
use Rattle.std.specs.Prelude.{ℕ, Bool, not, List, ◌≡◌, ◌&&◌, ◌||◌, if◌then◌else◌, nat_le, Option, Some, None, is_some}
use Rattle.std.specs.Prelude.{unwrap_or}
use Rattle.std.specs.List.{list_any}
use Rattle.tl_beat.specs.declared.opcode.OpA.TheVariants as a
use Rattle.tl_beat.specs.statement.First.{first_if}
use Rattle.tl_burst.specs.declared.message.Message.{Message}
use Rattle.tl_burst.specs.declared.message.Message.TheVariants as message
use Rattle.tl_params.specs.declared.param.Prune.{Prune}
use Rattle.tl_params.specs.declared.perm.Perm.TheVariants as perm
use Rattle.tl_rules.specs.statement.Conformance.{same_perm}
use Rattle.tl_rules.specs.statement.History.{block_at}
use Rattle.tl_client.specs.declared.busy.Busy.{Busy}
use Rattle.tl_client.specs.declared.busy.Busy.TheVariants.{B1, B2, B3, B4, B5}
use Rattle.tl_client.specs.declared.caching.Caching.{Caching}
use Rattle.tl_client.specs.declared.operation.Op.{Op}
use Rattle.tl_client.specs.declared.operation.Op.TheVariants.{Load, Store, Acquire, AcquireWhole, Release, Access}
use Rattle.tl_client.specs.declared.reply.Reply.{Reply}
use Rattle.tl_client.specs.declared.reply.Reply.TheVariants as reply
use Rattle.tl_client.specs.declared.sources.Sources.{Sources}
use Rattle.tl_client.specs.laws.After.{copy_left, waiting_left}
use Rattle.tl_client.specs.statement.Ask.{least_free, breaks_b3, breaks_b4, op_block, is_formed, is_transfer, loaded}
use Rattle.tl_client.specs.statement.Ask.{whole_grow}
use Rattle.tl_client.specs.statement.Endpoint.{zeros}
use Rattle.tl_client.specs.laws.Held.{left_by}
use Rattle.tl_client.specs.statement.EndpointInvariant.{holds}
use Rattle.tl_client.specs.code.KnowsCaching.{caching_terms}
use Rattle.tl_client.specs.statement.Requests.{acquires_block, releases_block, opened_by, released_by, start_with}
use Rattle.tl_client.specs.statement.Send.{acquisition, release}
use Rattle.tl_client.specs.code.Sources.{open_at}
use Rattle.tl_client.specs.code.Table.{held_in, copy_in, waiting_in}

-- ---- operations

-- the bytes of the copy of a block
abbrev pub bytes_in : {w : ℕ} → Caching w → ℕ → List ℕ
bytes_in c k = unwrap_or (copy_in c.table k) zeros

-- a transfer of the block is open
abbrev pub is_transferring : {w : ℕ} → Caching w → ℕ → Bool
is_transferring c k = list_any (acquires_block k) c.requests.with_source || list_any (releases_block k)
    c.releases.with_source

-- why an operation isn't started, but for want of a source
abbrev pub busy_by : {w : ℕ} → Caching w → Op w → Option Busy
busy_by c op =
    first_if (breaks_b4 c.config.level op) B4
    (first_if (nat_le c.blocks (op_block op) || not (is_formed c.config.level op)) B5
    (first_if (is_transfer op && is_transferring c (op_block op)) B2
    (first_if (breaks_b3 op (held_in c.table (op_block op))) B3 None)))

-- the least source that has nothing open
abbrev pub free_in : {T : Type 0} → Sources T → ℕ → Option ℕ
free_in messages n = least_free (λ s. is_some (open_at messages s)) 0 n

-- the Release with this source, if it is free
abbrev pub release_with : {w : ℕ} → Option ℕ → Prune → ℕ → List ℕ → Reply × Option (Message w)
release_with None prune block copy = (reply.Busy B1, None)
release_with (Some s) prune block copy = (reply.Started s, Some (release prune s block copy))

abbrev pub load_reply : {w : ℕ} → Caching w → ℕ → ℕ → Reply
load_reply c address size = if holds (held_in c.table (block_at address)) then reply.Value
    (loaded address size (bytes_in c (block_at address))) else reply.Miss

abbrev pub store_reply : {w : ℕ} → Caching w → ℕ → Reply
store_reply c address = if same_perm perm.Trunk (held_in c.table (block_at address)) then reply.Stored else reply.Miss

-- what is answered to an operation that starts if a source is free
abbrev pub answer_by : {w : ℕ} → Caching w → Op w → Reply × Option (Message w)
answer_by c (Load address size) = (load_reply c address size, None)
answer_by c (Store address size value) = (store_reply c address, None)
answer_by c (Acquire block grow) =
    start_with (free_in c.requests c.config.sources) (acquisition a.AcquireBlock grow 0 block)
answer_by c (AcquireWhole block bytes) =
    start_with (free_in c.requests c.config.sources) (acquisition a.AcquirePerm (whole_grow (held_in c.table block)) 0
    block)
answer_by c (Release block prune) = release_with (free_in c.releases c.config.sources) prune block (bytes_in c block)
answer_by c (Access (message.A m)) = start_with (free_in c.requests c.config.sources) m
answer_by c (Access _) = (reply.Busy B4, None)

abbrev pub busy_in : Reply → Option Busy
busy_in (reply.Busy b) = Some b
busy_in _ = None

-- only the open messages changed, by the one that was handed out
pub record Sends {w : ℕ} (c d : Caching w) (m : Option (Message w)) : Type 0 where
  pub requests : (s : ℕ) → open_at d.requests s ≡ opened_by s m (open_at c.requests s)
  pub releases : (s : ℕ) → open_at d.releases s ≡ released_by s m (open_at c.releases s)
  pub table : d.table ≡ c.table
  pub response : d.responses ≡ c.responses
  pub granting : d.granting ≡ c.granting
  pub closed : d.closed ≡ c.closed
  pub terms : caching_terms d ≡ caching_terms c

-- the operation was answered, and the client is what it leaves
pub record Does {w : ℕ} (c d : Caching w) (op : Op w) (r : Reply × Option (Message w)) : Type 0 where
  pub answer : r ≡ answer_by c op
  pub requests : (s : ℕ) → open_at d.requests s ≡ opened_by s r.1 (open_at c.requests s)
  pub releases : (s : ℕ) → open_at d.releases s ≡ released_by s r.1 (open_at c.releases s)
  pub holdings : (k : ℕ) → held_in d.table k ≡ left_by (busy_in r.0) op k (held_in c.table k)
  pub copies : (k : ℕ) → copy_in d.table k ≡ copy_left (busy_in r.0) op k (held_in c.table k) (copy_in c.table k)
  pub waiting : (k : ℕ) → waiting_in d.table k ≡ waiting_left (busy_in r.0) op k (waiting_in c.table k)
  pub response : d.responses ≡ c.responses
  pub granting : d.granting ≡ c.granting
  pub closed : d.closed ≡ c.closed
  pub terms : caching_terms d ≡ caching_terms c
