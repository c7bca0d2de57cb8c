-- The run of one memory that goes on beside what happens to a world, and what the two have in common.
use Rattle.std.specs.Prelude.{ℕ, Bool, true, false, List, [], ◌∷◌, ◌≡◌, if◌then◌else◌, find, Option, Some, None}
use Rattle.tl_beat.specs.declared.channel.Channel.TheVariants as channel
use Rattle.tl_burst.specs.declared.message.Message.TheVariants as message
use Rattle.tl_burst.specs.declared.message.MessageA.{MessageA}
use Rattle.tl_burst.specs.statement.Messages.{unfinished}
use Rattle.tl_params.specs.declared.config.Config.{Config}
use Rattle.tl_rules.specs.statement.Conformance.{Trace, comes_in_request, on_link}
use Rattle.tl_rules.specs.statement.Effect.{AccessResult, Memory, effect}
use Rattle.tl_rules.specs.statement.History.{block_at}
use Rattle.tl_bytes.specs.statement.Bytes.{Access, is_access, is_of, pending_accesses}
use Rattle.tl_client.specs.declared.operation.Op.{Op}
use Rattle.tl_client.specs.declared.operation.Op.TheVariants as op
use Rattle.tl_client.specs.declared.reply.Reply.{Reply}
use Rattle.tl_client.specs.declared.reply.Reply.TheVariants as reply
use Rattle.tl_manager.specs.statement.Reaction.{with_block}
use Rattle.tl_coherence.specs.declared.event.Event.{Event}
use Rattle.tl_coherence.specs.declared.event.Event.TheVariants.{Ask, Deliver}
use Rattle.tl_coherence.specs.declared.event.Outcome.{Outcome}
use Rattle.tl_coherence.specs.declared.event.Outcome.TheVariants as outcome
use Rattle.tl_coherence.specs.statement.Log.{Log, system_after}
use Rattle.tl_coherence.specs.statement.Machine.{Machine, Open, Requests, pool_of, with_number}
use Rattle.tl_coherence.specs.statement.OneMemory.{accesses_answered, one_memory_after}
use Rattle.tl_coherence.specs.statement.Step.{stepped}
use Rattle.tl_one_memory.specs.statement.Run.{Performs, Run, Stores, Takes, everywhere, found_in, memory_in, trace_in}
use Rattle.tl_true_bytes.specs.code.Like.{IsLike}

-- ---- the run of a log

-- what a client stores as it replies
abbrev pub with_store : {w : ℕ} → Op w → Memory → Run w → Run w
with_store (op.Store address size value) memory run =
    Stores (block_at address) (with_number address size value memory) ∷ run
with_store _ memory run = run

abbrev pub with_reply : {w : ℕ} → Op w → Reply → Memory → Run w → Run w
with_reply o reply.Stored memory run = with_store o memory run
with_reply o _ memory run = run

-- what it stores as an operation ends
abbrev pub with_whole : {w : ℕ} → Op w → Memory → Run w → Run w
with_whole (op.AcquireWhole block bytes) memory run = Stores block (with_block block bytes memory) ∷ run
with_whole _ memory run = run

abbrev pub with_end : {w : ℕ} → Option (Open w) → Memory → Run w → Run w
with_end None memory run = run
with_end (Some o) memory run = with_whole o.asked memory run

-- the run after an event, before which the one-memory machine was so
abbrev pub happened : {w : ℕ} → Event w → Outcome w → Machine w → Run w → Run w
happened (Ask client o) (outcome.Replied r) m run = with_reply o r m.memory run
happened (Deliver link ch) (outcome.Moved x) m run = Takes link x ∷ run
happened (Deliver link ch) (outcome.Done x source f) m run =
    with_end (m.opened link.0 (pool_of f) source) m.memory (Takes link x ∷ run)
happened _ _ m run = run

-- the operation is an access that reads or writes
abbrev pub is_accessing : {w : ℕ} → Op w → Bool
is_accessing (op.Access (message.A m)) = is_access m.opcode
is_accessing _ = false

-- the memory that it leaves
abbrev pub left_after : {w : ℕ} → Op w → Memory → Memory
left_after (op.Access m) memory = (effect m memory).0
left_after _ memory = memory

-- and after such an access is performed, at once
abbrev pub after_access : {w : ℕ} → ℕ → ℕ → Option (Open w) → Memory → Run w → Run w
after_access c source None memory run = run
after_access c source (Some o) memory run =
    if is_accessing o.asked then Performs c source everywhere (left_after o.asked memory) ∷ run else run

-- after these are
abbrev pub performed_all : {w : ℕ} → List (ℕ × ℕ) → Machine w → Run w → Run w
performed_all [] m run = run
performed_all (x ∷ accesses) m run =
    performed_all accesses m (after_access x.0 x.1 (m.opened x.0 Requests x.1) m.memory run)

-- the run beside what has happened
unfoldable pub run_of : {w : ℕ} → Config → Log w → Run w
run_of config [] = []
run_of config (x ∷ log) =
    performed_all (accesses_answered (stepped config x.0 (system_after config log)).handed)
    (one_memory_after config log) (happened x.0 x.1 (one_memory_after config log) (run_of config log))

-- ---- what a run and the one-memory machine have in common

-- more is to come of the request with this source of the link
abbrev pub comes : {w : ℕ} → ℕ → ℕ → Trace w → Bool
comes c s t = comes_in_request s (unfinished channel.A (on_link c t))

-- An access that is pending is one that the machine has open, and does the same if no more of its request is to
-- come.
pub record IsOpenAs {w : ℕ} (more : Bool) (p : Access w) (o : Option (Open w)) : Type 0 where
  pub asked : MessageA w
  pub answer : Option AccessResult
  pub opened : o ≡ Some (record { asked = op.Access (message.A asked); answer = answer })
  pub accesses : is_access asked.opcode ≡ true
  pub like : more ≡ false → IsLike p.request asked

-- the access that was performed, with its result
abbrev pub result_for : {w : ℕ} → Op w → Option AccessResult → Option (MessageA w × AccessResult)
result_for (op.Access (message.A m)) (Some r) = if is_access m.opcode then Some (m, r) else None
result_for _ _ = None

abbrev pub result_in : {w : ℕ} → Option (Open w) → Option (MessageA w × AccessResult)
result_in None = None
result_in (Some o) = result_for o.asked o.answer

-- it found these bytes, by their addresses, which are those of a memory on which it has this result
abbrev pub IsFoundAs : {w : ℕ} → (ℕ → Option ℕ) → Option (MessageA w × AccessResult) → Type 0
IsFoundAs found None = (address : ℕ) → found address ≡ None
IsFoundAs found (Some x) =
    (f : Memory) × ((address : ℕ) → found address ≡ Some (f address)) × (x.1 ≡ (effect (message.A x.0) f).1)

pub record IsBeside {w : ℕ} (run : Run w) (m : Machine w) (t : Trace w) : Type 0 where
  pub trace_is : trace_in run ≡ t
  pub memory_is : memory_in (λ address. 0) run ≡ m.memory
  pub found_are : (c s : ℕ) → IsFoundAs (found_in (λ address. 0) c s run) (result_in (m.opened c Requests s))
  pub pending_are : (c s : ℕ) (p : Access w) → find (is_of c s) (pending_accesses t) ≡ Some p
      → IsOpenAs (comes c s t) p (m.opened c Requests s)
