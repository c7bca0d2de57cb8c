-- The facts about each manager and its clients, whatever happens to them.
use Rattle.std.specs.Prelude.{ℕ, false, List, [], ◌∷◌, ◌≡◌, ◌==◌, length, None, is_none, ⊤}
use Rattle.tl_beat.specs.statement.Width.{IsWidth}
use Rattle.tl_burst.specs.declared.message.Message.TheVariants as message
use Rattle.tl_params.specs.declared.config.Config.{Config}
use Rattle.tl_params.specs.statement.Config.{config_fault}
use Rattle.tl_client.specs.declared.operation.Op.{Op}
use Rattle.tl_client.specs.declared.operation.Op.TheVariants.{AcquireWhole, Access}
use Rattle.tl_coherence.specs.declared.event.Event.{Event}
use Rattle.tl_coherence.specs.declared.event.Event.TheVariants.{Ask, Deliver}
use Rattle.tl_coherence.specs.declared.event.Outcome.{Outcome}
use Rattle.tl_coherence.specs.statement.Coherent.{IsCoherent}
use Rattle.tl_coherence.specs.statement.Load.{IsBalanced, outstanding}
use Rattle.tl_coherence.specs.statement.Log.{Log, IsLog, system_after}
use Rattle.tl_coherence.specs.statement.Machine.{Machine, IsStep, Performs, Run}
use Rattle.tl_coherence.specs.statement.Movable.{next_delivery}
use Rattle.tl_coherence.specs.statement.OneMemory.{one_memory_after}
use Rattle.tl_coherence.specs.statement.System.{System}

-- ---- the assumptions

-- an operation's data are 64 bytes
abbrev pub IsTypedOp : {w : ℕ} → Op w → Type 0
IsTypedOp (AcquireWhole block bytes) = length bytes ≡ 64
IsTypedOp (Access (message.A m)) = length m.payload ≡ 64
IsTypedOp _ = ⊤

-- the data in an event are 64 bytes
abbrev pub IsTyped : {w : ℕ} → Event w → Type 0
IsTyped (Ask client op) = IsTypedOp op
IsTyped (Deliver link ch) = ⊤

-- the data in each event of a log are 64 bytes
unfoldable pub AreTyped : {w : ℕ} → Log w → Type 0
AreTyped [] = ⊤
AreTyped (x ∷ log) = IsTyped x.0 × AreTyped log

-- the log is one of a manager and clients within their limits
pub record IsGiven {w : ℕ} (config : Config) (log : Log w) : Type 0 where
  pub width : IsWidth w
  pub fits : config_fault config ≡ None
  pub typed : AreTyped log
  pub is_log : IsLog config log

-- ---- one memory, coherent copies, and no deadlock

-- no beat between the manager and its clients was refused
pub record IsUnrefused {w : ℕ} (s : System w) : Type 0 where
  pub by_clients : (k : ℕ) → (s.clients k).closed ≡ false
  pub by_manager : s.manager.closed ≡ []

-- The one-memory machine can follow: a step with this event and outcome, and then performed accesses, lead from its
-- state after the log to its state after the event.
abbrev pub Continues : {w : ℕ} → Config → Event w × Outcome w → Log w → Type 0
Continues {w} config x log =
    (next : Machine w) × (accesses : List (ℕ × ℕ))
    × IsStep config x.0 x.1 (one_memory_after config log) next
    × Performs accesses next (one_memory_after config (x ∷ log))

-- the facts about each log: it is a run of one memory, copies agree with that memory, and nothing gets stuck
pub record IsSound {w : ℕ} (config : Config) (log : Log w) : Type 0 where
  -- the outcomes are a run of the one-memory machine
  pub run : Run config log (one_memory_after config log)
  pub continues : (x : Event w × Outcome w) → IsTyped x.0 → IsLog config (x ∷ log) → Continues config x log
  -- copies agree with that memory
  pub coherent : IsCoherent (system_after config log) log (one_memory_after config log)
  pub unrefused : IsUnrefused (system_after config log)
  -- a delivery can move a beat exactly while something is outstanding
  pub moving : is_none (next_delivery config (system_after config log)) ≡ (outstanding log == 0)
  pub balanced : IsBalanced log

-- Whatever happens to a manager and its clients, the outcomes are a run of the one-memory machine, copies agree with
-- its memory, no beat is refused, and a delivery can move a beat exactly while something is outstanding.
abbrev pub Headline : ℕ → Type 0
Headline w = (config : Config) (log : Log w) → IsGiven config log → IsSound config log

-- ---- its parts

-- The outcomes are a run of the one-memory machine, and the machine can follow each next event.
abbrev pub OneMemory : ℕ → Type 0
OneMemory w = (config : Config) (log : Log w) → IsGiven config log →
    Run config log (one_memory_after config log) × ((x : Event w × Outcome w) → IsTyped x.0 → IsLog config (x ∷ log)
    → Continues config x log)

-- No beat between a manager and its clients is refused.
abbrev pub Unrefused : ℕ → Type 0
Unrefused w = (config : Config) (log : Log w) → IsGiven config log → IsUnrefused (system_after config log)

-- Copies agree with the one memory.
abbrev pub Coherent : ℕ → Type 0
Coherent w = (config : Config) (log : Log w) → IsGiven config log
    → IsCoherent (system_after config log) log (one_memory_after config log)

-- A delivery can move a beat exactly while something is outstanding.
abbrev pub NoDeadlock : ℕ → Type 0
NoDeadlock w = (config : Config) (log : Log w) → IsGiven config log
    → is_none (next_delivery config (system_after config log)) ≡ (outstanding log == 0)
