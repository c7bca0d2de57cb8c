-- The one-memory machine: one map of bytes, and the open operations.
use Rattle.std.specs.Prelude.{ℕ, Bool, true, false, List, [], ◌∷◌, ◌≡◌, ◌==◌, ◌&&◌, ◌-◌, ◌^◌, if◌then◌else◌, Option}
use Rattle.std.specs.Prelude.{Some, None, is_some, ⊤}
use Rattle.tl_beat.specs.declared.beat.Beat.{Beat}
use Rattle.tl_beat.specs.declared.beat.Beat.TheVariants as beat
use Rattle.tl_beat.specs.declared.channel.Channel.TheVariants as channel
use Rattle.tl_burst.specs.declared.message.Message.{Message}
use Rattle.tl_burst.specs.declared.message.Message.TheVariants as message
use Rattle.tl_burst.specs.statement.Burst.{reaches}
use Rattle.tl_params.specs.declared.config.Config.{Config}
use Rattle.tl_params.specs.declared.perm.Perm.{Perm}
use Rattle.tl_params.specs.declared.perm.Perm.TheVariants as perm
use Rattle.tl_rules.specs.statement.Effect as memory
use Rattle.tl_rules.specs.statement.Effect.{Memory, number_from, byte_of, effect}
use Rattle.tl_rules.specs.statement.History.{capped}
use Rattle.tl_client.specs.declared.operation.Op.{Op}
use Rattle.tl_client.specs.declared.operation.Op.TheVariants.{Load, Store, Acquire, AcquireWhole, Release, Access}
use Rattle.tl_client.specs.declared.reply.Reply.{Reply}
use Rattle.tl_client.specs.declared.reply.Reply.TheVariants.{Value, Stored, Miss, Started, Busy}
use Rattle.tl_client.specs.declared.verdict.Finish.{Finish}
use Rattle.tl_client.specs.declared.verdict.Finish.TheVariants.{Ack, Hint, Data, Granted, Released}
use Rattle.tl_client.specs.statement.Offer.{padded}
use Rattle.tl_manager.specs.statement.Reaction.{with_block}
use Rattle.tl_coherence.specs.declared.event.Event.{Event}
use Rattle.tl_coherence.specs.declared.event.Event.TheVariants.{Ask, Deliver}
use Rattle.tl_coherence.specs.declared.event.Outcome.{Outcome}
use Rattle.tl_coherence.specs.declared.event.Outcome.TheVariants as outcome
use Rattle.tl_coherence.specs.statement.Log.{Log}
use Rattle.tl_coherence.specs.statement.Step.{client_of}
use Rattle.tl_coherence.specs.statement.System.{terms_at}

-- the two pools of a client's sources: for requests of channel A, and for Releases
pub data Pool : Type 0 where
  Requests : Pool
  Releases : Pool

-- an open operation: the operation, and its answer once it is performed
pub record Open (w : ℕ) : Type 0 where
  pub asked : Op w
  pub answer : Option memory.AccessResult

-- the memory, and the open operations by client, pool and source
pub record Machine (w : ℕ) : Type 0 where
  pub memory : Memory
  pub opened : ℕ → Pool → ℕ → Option (Open w)

-- a memory of zeros, and nothing open
abbrev pub first : {w : ℕ} → Machine w
first = record { memory = λ address. 0; opened = λ client pool source. None }

-- ---- the effect of an operation on the memory

-- the pools are the same
abbrev pub same_pool : Pool → Pool → Bool
same_pool Requests Requests = true
same_pool Releases Releases = true
same_pool _ _ = false

-- the machine with this operation open under a source of a client, or with none
abbrev pub with_open : {w : ℕ} → ℕ → Pool → ℕ → Option (Open w) → Machine w → Machine w
with_open client pool source o m =
    record m { opened = λ c p s. if (c == client) && (same_pool p pool && (s == source)) then o else m.opened c p s }

-- the machine with this memory
abbrev pub with_memory : {w : ℕ} → Memory → Machine w → Machine w
with_memory memory m = record m { memory = memory }

-- the memory with the low 2 ^ size bytes of a number at an address
abbrev pub with_number : ℕ → ℕ → ℕ → Memory → Memory
with_number base size value memory address = if reaches base size address then byte_of value (address - base) else
    memory address

-- ---- a client's reply to an operation

-- the pool from which an operation takes its source
abbrev pub pool_of_op : {w : ℕ} → Op w → Pool
pool_of_op (Release block prune) = Releases
pool_of_op _ = Requests

-- a Load or a Store, for which no message is sent
abbrev pub is_word_op : {w : ℕ} → Op w → Bool
is_word_op (Load address size) = true
is_word_op (Store address size value) = true
is_word_op _ = false

-- the machine allows this reply
abbrev pub Replies : {w : ℕ} → ℕ → Op w → Reply → Machine w → Type 0
Replies client (Load address size) (Value v) m = v ≡ number_from m.memory address (2 ^ size)
Replies client (Store address size value) Stored m = ⊤
Replies client op Miss m = is_word_op op ≡ true
Replies client op (Busy why) m = ⊤
Replies client op (Started source) m = (is_word_op op ≡ false) × (m.opened client (pool_of_op op) source ≡ None)
Replies client _ _ m = ⊥

-- the machine after this reply
abbrev pub after_reply : {w : ℕ} → ℕ → Op w → Reply → Machine w → Machine w
after_reply client (Store address size value) Stored m = with_memory (with_number address size value m.memory) m
after_reply client op (Started source) m =
    with_open client (pool_of_op op) source (Some (record { asked = op; answer = None })) m
after_reply client op r m = m

-- ---- a response ends an operation

-- the pool to which the end of an operation gives its source back
abbrev pub pool_of : Finish → Pool
pool_of Released = Releases
pool_of _ = Requests

-- the result of an access for the client, by its answer
abbrev pub finish_with : {w : ℕ} → Message w → memory.AccessResult → Finish
finish_with (message.A m) memory.Done = Ack
finish_with (message.A m) memory.Hinted = Hint
finish_with (message.A m) (memory.Bytes bytes) = Data m.size (padded bytes)
finish_with _ r = Hint

-- the permission that the cap of a Grant gives
abbrev pub cap_named : {w : ℕ} → Beat w → Perm
cap_named (beat.D x) = capped x.param
cap_named _ = perm.None

-- an access ends with its answer, after it was performed
abbrev pub EndsAccess : {w : ℕ} → Message w → Option memory.AccessResult → Finish → Type 0
EndsAccess m None f = ⊥
EndsAccess m (Some r) f = f ≡ finish_with m r

-- an operation with this answer may end with this result, by this beat
abbrev pub EndsOp : {w : ℕ} → Op w → Option memory.AccessResult → Beat w → Finish → Type 0
EndsOp (Access m) answer x f = EndsAccess m answer f
EndsOp (Acquire block grow) answer x f = f ≡ Granted (cap_named x)
EndsOp (AcquireWhole block bytes) answer x f = f ≡ Granted perm.Trunk
EndsOp (Release block prune) answer x f = f ≡ Released
EndsOp _ answer x f = ⊥

-- there is an open operation, and it may end with this result, by this beat
abbrev pub Ends : {w : ℕ} → Option (Open w) → Beat w → Finish → Type 0
Ends None x f = ⊥
Ends (Some o) x f = EndsOp o.asked o.answer x f

-- the memory after an operation ended; an AcquireWhole then writes its block
abbrev pub memory_after : {w : ℕ} → Op w → Memory → Memory
memory_after (AcquireWhole block bytes) memory = with_block block bytes memory
memory_after _ memory = memory

-- the machine after an operation ended: its source is free, and the block of an AcquireWhole is in memory
abbrev pub after_end : {w : ℕ} → ℕ → Pool → ℕ → Option (Open w) → Machine w → Machine w
after_end client pool source None m = m
after_end client pool source (Some o) m =
    with_open client pool source None (with_memory (memory_after o.asked m.memory) m)

-- ---- steps

-- the machine allows this outcome of an event
abbrev pub Allows : {w : ℕ} → Event w → Outcome w → Machine w → Type 0
Allows (Ask client op) (outcome.Replied r) m = Replies client op r m
Allows (Deliver link channel.D) (outcome.Done x source f) m = Ends (m.opened link.0 (pool_of f) source) x f
Allows (Deliver link ch) outcome.Empty m = ⊤
Allows (Deliver link ch) outcome.Stalled m = ⊤
Allows (Deliver link ch) (outcome.Moved x) m = ⊤
Allows _ _ m = ⊥

-- the machine after this event and outcome
abbrev pub moved : {w : ℕ} → Event w → Outcome w → Machine w → Machine w
moved (Ask client op) (outcome.Replied r) m = after_reply client op r m
moved (Deliver link ch) (outcome.Done x source f) m =
    after_end link.0 (pool_of f) source (m.opened link.0 (pool_of f) source) m
moved _ _ m = m

-- there is a client with this number
abbrev pub is_client : Config → ℕ → Bool
is_client config client = is_some (terms_at config client)

-- a step of the machine, with this event and outcome
abbrev pub IsStep : {w : ℕ} → Config → Event w → Outcome w → Machine w → Machine w → Type 0
IsStep config e outcome.NoSuchClient m n = (is_client config (client_of e) ≡ false) × (n ≡ m)
IsStep config e o m n = (is_client config (client_of e) ≡ true) × Allows e o m × (n ≡ moved e o m)

-- ---- performing: an open access that has no answer yet changes the memory and gets its answer

-- the machine after an access is performed; there is none for other operations and for one that was performed
abbrev pub performed_op : {w : ℕ} → ℕ → ℕ → Op w → Option memory.AccessResult → Machine w → Option (Machine w)
performed_op client source (Access a) None m =
    Some (with_open client Requests source (Some (record { asked = Access a; answer = Some (effect a m.memory).1 }))
    (with_memory (effect a m.memory).0 m))
performed_op client source op answer m = None

-- the machine after the open operation is performed, if it can be
abbrev pub performed_open : {w : ℕ} → ℕ → ℕ → Option (Open w) → Machine w → Option (Machine w)
performed_open client source None m = None
performed_open client source (Some o) m = performed_op client source o.asked o.answer m

-- the machine after the access of a client with this source is performed, if it can be
abbrev pub performed : {w : ℕ} → ℕ → ℕ → Machine w → Option (Machine w)
performed client source m = performed_open client source (m.opened client Requests source) m

-- these accesses, by client and source, are performed one after the other
unfoldable pub Performs : {w : ℕ} → List (ℕ × ℕ) → Machine w → Machine w → Type 0
Performs [] m n = n ≡ m
Performs {w} (x ∷ accesses) m n = (next : Machine w) × (performed x.0 x.1 m ≡ Some next) × Performs accesses next n

-- ---- runs

-- Steps with these events and outcomes in this order, and accesses performed between them, lead from the first state to
-- this one.
unfoldable pub Run : {w : ℕ} → Config → Log w → Machine w → Type 0
Run config [] m = m ≡ first
Run {w} config (x ∷ log) m =
    (before : Machine w) × (next : Machine w) × (accesses : List (ℕ × ℕ))
    × Run config log before × IsStep config x.0 x.1 before next × Performs accesses next m
